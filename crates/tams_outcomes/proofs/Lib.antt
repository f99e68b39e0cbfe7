pub mod ExitLemmas
mod NoteLemmas
pub mod TouchingLemmas
