pub mod AnswerLaws
pub mod HostLaws
pub mod SwitchedOffLaws
pub mod SameStartLaws
