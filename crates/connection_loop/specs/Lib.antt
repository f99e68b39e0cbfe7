pub mod Endings
pub mod Tallies
pub mod Turns
pub use Rattle.run_history.specs.Serving
pub use Rattle.run_history.specs.Machine
pub mod Loops
