pub mod Asking
pub mod Hearing
pub mod Laws
pub mod Turning
pub use Rattle.http_wire.specs.Agreeing
pub use Rattle.http_wire.specs.Feeds
pub use Rattle.run_history.specs.Machine
