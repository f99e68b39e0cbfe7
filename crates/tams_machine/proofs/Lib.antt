mod Sending
mod Fronts
pub mod Keeping
