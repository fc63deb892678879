pub mod Check
pub mod ClimbPromise
pub mod Ends
