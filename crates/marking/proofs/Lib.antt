pub mod Added
pub mod Walks
pub mod Steps
pub mod AxisTests
