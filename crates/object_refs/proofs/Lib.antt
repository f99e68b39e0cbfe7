pub mod Lists
mod Looks
mod Numbers
mod Counting
mod Naming
mod Inverse
mod Found
mod Moving
mod Referring
mod Changing
mod Refusing
mod Sweeping
mod Ordering
mod Restoring
mod Coming
mod Shown
pub mod Gathered
pub mod Theorems
