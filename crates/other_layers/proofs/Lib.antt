pub mod SameTestsLaws
pub mod OtherLayersLaws
pub mod TwoBooksLaws
