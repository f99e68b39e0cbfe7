pub mod Parts
pub mod Conditions
pub mod Cuts
pub mod Posting
pub mod Within
pub use Rattle.media_rows.specs.Library
