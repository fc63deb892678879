pub mod ClaimCall
pub mod ClaimGuarantee
pub mod TextSelect
pub mod SelectGuarantee
pub mod FileGuarantee
pub mod private
pub mod values
