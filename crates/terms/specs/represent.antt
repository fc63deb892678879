pub mod RowTypes
