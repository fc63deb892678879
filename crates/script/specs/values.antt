pub mod CommandCases
