pub mod Audit
pub mod values
