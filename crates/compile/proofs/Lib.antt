pub mod Parts
pub mod Stacks
pub mod Bounds
pub mod Ran
