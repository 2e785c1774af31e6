pub mod Faults
pub mod Model
pub mod Room
pub mod Plain
pub mod Props
pub mod Held
pub mod Decided
pub mod Pairs
