pub mod Delivered
pub mod Ordered
pub mod Posting
pub mod Within
pub use Rattle.media_rows.specs.Outbox
