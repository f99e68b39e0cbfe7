mod Making
pub mod Planning
pub mod Commands
mod Written
mod Places
mod Probing
mod Storing
pub mod Outcomes
mod Delivering
pub mod PutFacts
mod PutReplies
