pub mod Records
pub mod Register
pub mod Releases
pub mod represent
pub mod private
pub mod values
