-- A condition's code and causes, and what the functions answer.
pub mod Code
pub mod Causes
pub mod Outcome
pub mod Readers
