pub mod Numbers
pub mod private
pub mod values
