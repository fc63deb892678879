pub mod Places
pub mod In
pub mod Saying
pub mod Judged
pub mod ByTerms
pub mod NoneLost
