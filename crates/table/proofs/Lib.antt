mod Children
mod Runs
pub mod Outcomes
