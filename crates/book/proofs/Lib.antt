pub mod RecordLaws
pub mod RangeLaws
pub mod MaskLaws
pub mod CycleLaws
pub mod Accepted
