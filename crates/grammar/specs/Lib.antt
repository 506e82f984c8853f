-- The grammar of conditions, what a reader from the left comes to, and the decided reading.
pub mod Conditions
pub mod Reader
pub mod Parse
