pub mod Shapes
pub mod Values
pub mod Addresses
pub mod Rows
pub mod Replies
pub mod Order
pub mod Kept
pub mod Texts
