pub mod RowsBack
pub mod RowsPut
