-- What only proofs need: the pairs of a first point and a segment below an index.
pub mod Keyed
pub mod Walks
