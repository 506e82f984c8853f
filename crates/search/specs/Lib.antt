pub mod Ready
pub mod Space
pub mod Visits
pub mod Decided
