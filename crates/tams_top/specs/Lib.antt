pub mod Ends
pub mod Refusals
pub mod Laws
pub mod Within
