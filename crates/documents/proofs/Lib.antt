pub mod Fields
mod Passing
pub mod LentRows
