pub mod Masks
pub mod Agreement
