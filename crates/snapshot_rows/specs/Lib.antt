pub mod Texts
pub mod Within
