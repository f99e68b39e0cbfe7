pub mod Statuses
pub mod Lines
pub mod Parts
pub mod Touching
pub mod Laws
