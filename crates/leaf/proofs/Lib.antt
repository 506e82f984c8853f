pub mod FoundLaws
pub mod SettingMarks
pub mod ContestedLaws
pub mod UncontestedLaws
pub mod ModelLaws
pub mod GoingOnLaws
pub mod SearchableLaws
