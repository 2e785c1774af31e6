pub mod Functions
pub mod Nodes
pub mod Counts
pub mod Outcomes
pub mod Theorems
