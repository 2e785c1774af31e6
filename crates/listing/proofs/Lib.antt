mod Marking
pub mod Rowing
mod Rising
mod Essentials
mod Unique
mod Receiving
mod Finishing
