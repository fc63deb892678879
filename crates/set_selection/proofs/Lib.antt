mod Anys
mod Written
mod Kept
mod Images
mod Noting
pub mod Relations
mod Stepping
pub mod Evaluating
