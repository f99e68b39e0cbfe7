pub mod Meaning
pub mod Spelling
pub mod Leaves
pub mod Laws
pub mod Reading
pub mod Answers
