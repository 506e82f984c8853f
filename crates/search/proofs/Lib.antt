pub mod KeptLaws
pub mod VisitLaws
pub mod AllowedLaws
pub mod StepLaws
pub mod RejectableLaws
pub mod QuickLaws
pub mod TurnLaws
pub mod ReadyLaws
