pub mod Texts
pub mod Counts
pub mod PlainMembers
pub mod Essences
pub mod OfBodies
