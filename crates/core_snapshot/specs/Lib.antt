pub use Rattle.media_rows.specs.Snapshot
pub use Rattle.core_rows.specs.Texts
