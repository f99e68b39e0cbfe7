pub mod Assembling
pub mod Lists
pub mod Within
