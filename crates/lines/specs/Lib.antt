pub mod Ascii
pub mod Line
pub mod Number
pub mod Written
pub mod private
pub mod values
pub mod Names
