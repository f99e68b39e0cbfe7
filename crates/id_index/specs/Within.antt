-- Words that the calls within this crate cite, and no other crate.
pub mod Steps
