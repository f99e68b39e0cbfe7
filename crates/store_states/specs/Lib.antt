pub mod States
pub mod Kept
pub mod Fitting
pub mod Held
pub mod Laws
pub mod Worked
