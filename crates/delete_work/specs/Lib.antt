pub mod Work
pub mod Within
pub use Rattle.media_rows.specs.Requests
pub use Rattle.media_rows.specs.Segments
pub use Rattle.object_refs.specs.References
