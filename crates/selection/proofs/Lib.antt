pub mod Folds
pub mod Marks
pub mod Limits
pub mod Rows
pub mod Parts
pub mod Outcome
