pub mod Ids
pub mod Pairs
pub mod Named
mod Linked
