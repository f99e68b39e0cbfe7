pub mod Carrying
pub mod Within
