pub mod Found
pub mod Searchable
pub mod Contested
pub mod Leaf
