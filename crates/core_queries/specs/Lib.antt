pub mod Replies
pub use Rattle.media_rows.specs.Views
