pub mod Pieces
pub mod Apart
pub mod Seeking
pub mod Fitting
pub mod Routing
