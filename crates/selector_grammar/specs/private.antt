pub mod Reader
pub mod ReaderAnswer
