pub mod Scan
pub mod Names
pub mod Index
