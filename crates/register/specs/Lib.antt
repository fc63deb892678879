pub mod Promises
pub mod FollowsRegister
pub mod RecordGuarantee
pub mod represent
