pub mod Making
pub mod Again
pub mod Listing
pub mod Showing
