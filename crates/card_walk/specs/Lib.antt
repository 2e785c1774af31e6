pub mod Sums
pub mod Outcomes
pub mod Shown
