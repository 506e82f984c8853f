pub mod CandidateLaws
pub mod ReadLaws
