pub mod Layers
pub mod Masks
