pub mod Accepted
pub mod Driven
pub mod SwitchedOff
pub mod Driving
