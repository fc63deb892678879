pub mod NumberCases
