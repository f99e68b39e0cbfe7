mod Applying
mod Texts
mod Halves
mod Damage
mod Opened
pub mod Kept
