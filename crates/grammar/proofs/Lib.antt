-- One reading only, and the decided reading, which is the grammar's.
pub mod OneReadingLaws
pub mod SoundLaws
pub mod ParseLaws
pub mod ExampleLaws
