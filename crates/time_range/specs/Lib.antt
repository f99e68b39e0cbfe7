pub mod Points
pub mod Ends
pub mod Spelling
pub mod Prefixes
pub mod Within
pub mod Spelled
pub mod Answers
pub mod Printing
