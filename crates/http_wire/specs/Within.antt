-- What only proofs need: bounds of what is found, and how far bodies and trailers were read.
pub mod Lines
pub mod Reading
pub mod Seeing
pub mod Trailers
