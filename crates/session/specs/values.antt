pub mod WriteCases
pub mod PointedCases
