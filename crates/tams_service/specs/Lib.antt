pub mod Keeping
pub mod KeepingLaws
pub mod Serving
pub mod Sites
pub mod Saying
pub mod Taking
pub mod Answering
pub use Rattle.connection_loop.specs.Turns
