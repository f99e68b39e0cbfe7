mod Serials
mod Held
mod ObjectRows
mod Posts
mod Telling
mod Removals
mod Covering
mod Sweeping
mod Kept
pub mod Digested
mod Allocations
mod Same
mod Restored
