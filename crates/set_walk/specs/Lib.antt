pub mod Begun
pub mod Prefixes
