pub mod MarkLaws
pub mod GrowingLaws
pub mod FillingLaws
pub mod TryingLaws
