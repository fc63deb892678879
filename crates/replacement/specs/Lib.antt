pub mod Covered
pub mod ReplaceCall
pub mod NoneLost
pub mod private
pub mod values
