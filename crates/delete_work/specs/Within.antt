-- What only proofs and private clauses need: requests at their keys, and what a step looks for.
pub mod Keeping
pub mod Seeking
