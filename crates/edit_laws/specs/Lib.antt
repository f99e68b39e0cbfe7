pub mod Laws
pub mod Showing
pub mod Worked
