-- Names, the depth of brackets, the readers, running code, and the causes.
pub mod NameLaws
pub mod DepthLaws
pub mod ReaderLaws
pub mod StackLaws
pub mod RunLaws
pub mod BelowLaws
pub mod CompileLaws
pub mod CauseLaws
