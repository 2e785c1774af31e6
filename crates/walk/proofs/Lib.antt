mod Places
mod Shortened
pub mod Made
pub mod Halves
pub mod Remembered
pub mod Props
mod Joining
mod Restricting
