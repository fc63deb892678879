pub mod Marks
pub mod Evaluation
pub mod private
pub mod values
