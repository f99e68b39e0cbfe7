pub mod Answers
pub use Rattle.media_rows.specs.Catalog
pub use Rattle.media_rows.specs.Collections
pub use Rattle.media_rows.specs.Views
