pub mod SpaceLaws
pub mod PassLaws
pub mod StateLaws
pub mod FirstLaws
pub mod SetUpLaws
