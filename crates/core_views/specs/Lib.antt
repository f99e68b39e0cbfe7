pub mod Pages
pub mod Shown
pub use Rattle.media_rows.specs.Views
