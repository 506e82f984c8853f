pub mod Bounds
pub mod Lists
pub mod Closure
