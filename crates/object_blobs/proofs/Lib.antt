mod Giving
mod Hashing
mod Holding
mod PieceLemmas
pub mod Places
mod Placing
mod Placed
pub mod Runs
mod Seen
mod Spaced
mod Spread
mod Taking
mod Told
