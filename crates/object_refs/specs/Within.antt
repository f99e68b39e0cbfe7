-- What only proofs and private clauses need.
pub mod Counts
pub mod Names
pub mod Books
pub mod Apart
