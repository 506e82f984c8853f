pub mod Causes
pub mod Numbers
pub mod Header
