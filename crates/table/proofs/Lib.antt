pub mod NameLaws
pub mod RowLaws
pub mod WalkLaws
pub mod FilledLaws
pub mod OverridingLaws
pub mod TableLaws
pub mod TabledLaws
pub mod NamedLaws
