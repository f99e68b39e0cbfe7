pub mod Prepares
mod Due
mod Applied
mod Texts
mod Held
mod Digested
pub mod Stored
