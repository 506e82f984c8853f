pub mod RangeFacts
pub mod RecordFacts
pub mod PreparedLaws
pub mod FirstLaws
pub mod DrivenLaws
pub mod SwitchedOffLaws
pub mod GrantedLaws
