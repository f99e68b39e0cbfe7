pub mod Named
pub mod Parts
pub mod Asked
pub mod Answered
pub mod Constants
pub mod Good
pub mod Refusals
