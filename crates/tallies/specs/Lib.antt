pub mod NameList
pub mod Count
pub mod Promise
pub mod represent
pub mod values
