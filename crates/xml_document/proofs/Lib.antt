pub mod Climb
pub mod Passing
