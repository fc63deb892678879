pub mod Built
pub mod Worded
