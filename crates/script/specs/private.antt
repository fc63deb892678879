pub mod CommandRead
pub mod Entries
