pub mod Orders
pub mod TermOrder
pub mod BundleOrder
pub mod Sorted
pub mod Rows
pub mod Compared
pub mod Steps
pub mod Judged
