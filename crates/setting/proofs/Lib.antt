pub mod BitMaskLaws
pub mod SettingLaws
pub mod RuleMaskLaws
