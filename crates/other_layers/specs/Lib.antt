pub mod OtherLayers
pub mod TwoBooks
