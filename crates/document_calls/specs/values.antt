pub mod SelectionCases
