pub mod Order
pub mod TermOrder
pub mod BundleOrder
pub mod OrderCall
pub mod OrderLaws
pub mod private
pub mod values
