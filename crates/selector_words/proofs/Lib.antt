pub mod Scanned
pub mod Named
pub mod Listed
pub mod Indexed
