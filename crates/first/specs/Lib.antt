pub mod Nearest
pub mod InHand
