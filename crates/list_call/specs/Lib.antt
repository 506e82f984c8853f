pub mod Reply
pub mod Condition3
pub mod Examples
