pub mod Fractions
pub mod Laws
pub mod Pieces
pub mod Rates
pub mod Samples
pub mod Within
pub mod Worked
