pub mod Decimals
pub mod Putting
pub mod Tables
pub mod LentTables
pub mod Lengths
pub mod Spelling
