pub mod Written
pub mod AcceptedSteps
pub mod RuleTen
pub mod NearMisses
pub mod Mistakes
pub mod TableCases
pub mod WayBackCases
