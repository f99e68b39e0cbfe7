pub mod Extents
pub mod Holes
pub mod Within
