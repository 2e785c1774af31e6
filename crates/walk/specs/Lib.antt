pub mod Ops
pub mod Shortcuts
pub mod Places
pub mod Outcomes
pub mod Entries
