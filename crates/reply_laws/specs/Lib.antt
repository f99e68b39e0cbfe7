pub mod Asks
pub mod Replies
pub mod Refusals
pub mod MediaPuts
