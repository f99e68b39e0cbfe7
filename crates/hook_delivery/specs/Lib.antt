pub mod Exchanging
pub mod Judging
pub mod Posting
pub mod Within
