pub mod Prepared
pub mod Within
pub use Rattle.media_rows.specs.Good
