mod Spelled
mod Answered
mod Fitted
mod Due
mod Applied
pub mod Storing
