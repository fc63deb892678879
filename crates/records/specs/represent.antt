pub mod Held
pub mod Listed
