mod Lists
mod Kept
pub mod Orders
mod Newest
mod Wanted
mod Removed
mod Released
mod Ordered
mod DueObjects
mod Restored
mod Paging
pub mod Stepping
pub mod Theorems
