pub mod Filing
pub mod private
pub mod values
