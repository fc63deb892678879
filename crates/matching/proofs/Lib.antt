mod AxisOrder
mod Forms
mod Agreement
pub mod Letters
mod RowForms
pub mod RowWayBack
pub mod WayBackRows
pub mod RowYields
pub mod ListOfTwo
mod Matching
