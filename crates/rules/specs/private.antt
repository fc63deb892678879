pub mod LettersRead
pub mod RuleFits
