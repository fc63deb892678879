pub mod Takes
pub mod Calls
pub mod Simulation
pub mod WaysBack
pub mod Judged
pub mod Source
pub mod Clauses
