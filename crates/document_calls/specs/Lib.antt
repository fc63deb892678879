pub mod Selections
pub mod values
