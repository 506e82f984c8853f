pub mod Rejecting
pub mod Entries
