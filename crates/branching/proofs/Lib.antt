pub mod MarkLaws
pub mod RowMarkLaws
pub mod ListLaws
