pub mod Searches
pub mod Judged
pub mod Editions
pub mod Released
pub mod Crew
pub mod Shown
