pub mod MaskLaws
pub mod TestLaws
