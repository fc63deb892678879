pub mod Sets
pub mod Walks
pub mod Evaluations
pub mod Memories
