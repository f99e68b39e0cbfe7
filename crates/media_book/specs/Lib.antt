pub mod Media
pub mod Within
