pub mod ClaimCases
pub mod SelectCases
