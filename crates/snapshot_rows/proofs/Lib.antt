pub mod Lists
mod Orders
pub mod Damage
mod Fronts
