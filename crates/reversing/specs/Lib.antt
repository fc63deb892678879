pub mod WayBackCall
pub mod private
