pub mod Spelling
pub mod Prefix
pub mod Building
