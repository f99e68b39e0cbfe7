mod Heights
mod Forks
pub mod Rising
mod Changed
mod Looked
mod Walked
pub mod Counted
pub mod Rows
