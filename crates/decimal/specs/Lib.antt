pub mod Put
pub mod Outputs
