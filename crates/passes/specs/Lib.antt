pub mod Limit
pub mod Tallied
pub mod Nearest
pub mod SetUp
