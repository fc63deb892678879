pub mod RecordCases
pub mod ReleaseCases
