pub mod Command
pub mod Rest
pub mod private
pub mod values
pub mod Words
