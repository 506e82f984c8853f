pub mod ListLaws
pub mod Condition3Laws
pub mod ExampleLaws
