pub mod Expected
pub mod NumberCases
