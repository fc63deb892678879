pub mod ReplaceCases
