pub mod Within
pub use Rattle.media_rows.specs.Good
pub use Rattle.media_rows.specs.Sound
