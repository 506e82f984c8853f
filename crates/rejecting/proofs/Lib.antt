pub mod RejectingLaws
pub mod RejectedLaws
pub mod EntriesLaws
pub mod ClearLaws
