pub mod Ran
pub mod Headed
