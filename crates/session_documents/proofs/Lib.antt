mod TextNodes
pub mod Nodes
pub mod Takes
pub mod Source
