pub mod TextNodes
pub mod NodesGuarantee
