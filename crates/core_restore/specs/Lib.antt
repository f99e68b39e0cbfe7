pub mod Restored
pub mod Within
pub use Rattle.media_rows.specs.Snapshot
