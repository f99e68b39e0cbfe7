pub mod Registry
pub mod Going
pub mod Laws
pub mod Restoring
pub mod Within
pub use Rattle.media_rows.specs.Library
