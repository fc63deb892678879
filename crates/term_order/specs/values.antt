pub mod OrderCases
