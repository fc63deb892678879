pub mod Checked
pub mod Nodes
pub mod Tests
