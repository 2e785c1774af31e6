pub mod Deciding
pub mod Walking
