pub mod Row
pub mod Fields
pub mod Nesting
pub mod Terms
pub mod AcceptedRows
pub mod represent
pub mod private
pub mod values
