pub mod ByteOrder
pub mod SortedLaws
pub mod Once
pub mod RunLaws
