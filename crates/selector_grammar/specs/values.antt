pub mod TextCases
pub mod AnswerCases
