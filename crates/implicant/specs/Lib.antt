pub mod Implicants
pub mod Variables
pub mod Lists
pub mod Theorems
pub mod Examples
