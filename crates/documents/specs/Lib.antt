pub mod Columns
pub mod Checks
pub mod Documents
pub mod values
