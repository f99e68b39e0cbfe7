-- Words that the calls within this crate cite, and no other crate.
pub mod Answers
pub mod Gathering
pub mod Order
pub mod Peeling
pub mod Ways
