pub mod Pattern
pub mod RowWayBack
pub mod RowYields
pub mod PatternTypes
pub mod MatchTypes
