pub mod Build
pub mod Passing
