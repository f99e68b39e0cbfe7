-- Words for the contracts of private functions.
pub mod Sampling
