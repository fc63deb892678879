pub mod Bundle
pub mod private
pub mod values
