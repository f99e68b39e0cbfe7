pub mod Along
pub mod Posts
