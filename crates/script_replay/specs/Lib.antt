pub mod Transcript
pub mod values
