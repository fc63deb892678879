pub mod NumbersRead
pub mod LineStarts
