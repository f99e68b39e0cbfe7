-- What proofs and private clauses alone need: what is to be sent next, and a delivery under way.
pub mod Due
pub mod Underway
