pub mod RowCases
