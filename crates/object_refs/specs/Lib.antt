pub mod References
pub mod NameTables
pub mod Within
pub use Rattle.media_rows.specs.Lists
pub use Rattle.media_rows.specs.Objects
pub use Rattle.media_rows.specs.Refusals
pub use Rattle.media_rows.specs.Restoring
