pub mod NearLaws
pub mod ClosestLaws
