pub mod Premises
pub mod Runs
