pub mod Answers
pub mod Host
pub mod SwitchedOff
pub mod SameStart
