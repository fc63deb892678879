pub mod EvaluatedTypes
pub mod MarksHeld
pub mod Limit
pub mod Parts
