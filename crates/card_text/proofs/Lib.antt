pub mod Lines
pub mod Searches
pub mod Formulas
pub mod Once
pub mod Walk
pub mod Tails
pub mod Exactly
pub mod Layouts
