pub mod Renumbering
pub mod Xml
pub mod Names
pub mod private
pub mod values
