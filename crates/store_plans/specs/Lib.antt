pub mod Plans
pub mod Within
