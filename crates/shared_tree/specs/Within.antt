-- What only proofs and private clauses need: nodes, heights, the invariant of a version, and walks.
pub mod Forks
pub mod Heights
pub mod Versions
pub mod Walks
