pub mod Adding
pub mod Going
pub mod Trees
pub mod Showing
pub mod Signs
