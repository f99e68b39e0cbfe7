pub mod Answers
pub mod Media
pub mod Wire
pub mod Within
