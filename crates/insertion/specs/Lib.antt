pub mod Sorted
pub mod Runs
