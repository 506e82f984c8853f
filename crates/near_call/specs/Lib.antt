pub mod Reply
pub mod Closest
