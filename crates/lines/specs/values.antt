pub mod LineCases
pub mod NameCases
