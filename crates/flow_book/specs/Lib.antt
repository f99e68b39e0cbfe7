pub mod Listing
pub mod Within
pub use Rattle.media_rows.specs.Catalog
pub use Rattle.media_rows.specs.Refusals
pub use Rattle.media_rows.specs.Restoring
pub use Rattle.id_index.specs.Index
