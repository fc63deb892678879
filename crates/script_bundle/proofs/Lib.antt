pub mod LinesLaws
pub mod LineLaws
pub mod CallLaws
pub mod Fits
