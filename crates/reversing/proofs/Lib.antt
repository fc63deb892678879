pub mod HeldAgain
pub mod ByTerms
pub mod Replies
pub mod RowsPut
pub mod Made
