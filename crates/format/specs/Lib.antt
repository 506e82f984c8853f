pub mod Book
pub mod Sections
