pub mod PackLaws
pub mod SumLaws
pub mod OrderLaws
pub mod WrittenLaws
