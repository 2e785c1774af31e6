pub mod Putting
pub mod Writing
mod Decimals
