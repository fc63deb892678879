pub mod represent
pub mod private
