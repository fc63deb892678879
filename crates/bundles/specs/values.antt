pub mod TextCases
