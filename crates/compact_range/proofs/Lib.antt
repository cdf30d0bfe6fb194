pub mod Whole
pub mod Unsorted
