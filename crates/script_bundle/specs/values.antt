pub mod FilingCases
