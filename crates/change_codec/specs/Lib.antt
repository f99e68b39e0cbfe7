pub mod Values
pub mod Changes
pub mod Rows
pub mod Codec
pub mod Fitting
pub mod WorkedFitting
pub mod Digests
