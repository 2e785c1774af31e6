pub mod Layout
pub mod Inner
pub mod Props
pub mod Held
pub mod Exact
