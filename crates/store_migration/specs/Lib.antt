pub mod Migration
pub mod Within
