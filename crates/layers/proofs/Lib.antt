pub mod BelowLaws
pub mod BitLaws
pub mod WarshallLaws
pub mod UpToLaws
