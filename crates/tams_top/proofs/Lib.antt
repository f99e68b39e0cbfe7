mod EndingLemmas
pub mod LawLemmas
mod PlaylistLemmas
