pub mod Offsets
pub mod SectionLaws
pub mod Walks
