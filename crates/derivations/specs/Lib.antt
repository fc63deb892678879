pub mod Derived
pub mod Meant
