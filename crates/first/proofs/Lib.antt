pub mod InHandLaws
pub mod PrecedesLaws
pub mod LowestLaws
pub mod LaterLaws
pub mod OutlineLaws
pub mod SureLaws
pub mod ApartLaws
