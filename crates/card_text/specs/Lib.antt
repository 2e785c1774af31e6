pub mod Grammar
pub mod Card
pub mod Faults
pub mod Reads
pub mod Exact
pub mod Layout
pub mod State
pub mod Steps
