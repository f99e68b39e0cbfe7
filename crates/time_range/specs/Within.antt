-- Definitions that only the proofs of this crate need: what a reader has read of a text so far.
pub mod Scanning
