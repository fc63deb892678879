pub mod Selected
pub mod Takes
