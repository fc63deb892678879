mod TwoTexts
mod Derivations
pub mod Proved
pub mod Clauses
