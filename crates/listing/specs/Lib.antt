pub mod Listing
pub mod Theorems
pub mod Faults
pub mod Outcome
pub mod Counts
pub mod Received
