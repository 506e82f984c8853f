pub mod Setting
pub mod RuleMasks
