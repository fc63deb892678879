pub mod CallCases
pub mod TableCases
pub mod SelectLawCases
pub mod PointCases
pub mod TextCases
