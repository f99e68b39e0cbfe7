mod CatalogOrder
mod Keys
pub mod Kept
mod Changes
mod DropSteps
mod Gathering
mod Indexed
mod Restored
mod Ways
mod Uncollected
