pub mod Members
pub mod ClosureLaws
pub mod UpTo
pub mod Rising
pub mod MapLaws
pub mod EntryLaws
