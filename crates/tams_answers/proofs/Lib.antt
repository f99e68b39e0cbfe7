mod Planning
mod Founds
pub mod Probed
mod Putting
mod PutAnswers
pub mod Following
mod Saying
