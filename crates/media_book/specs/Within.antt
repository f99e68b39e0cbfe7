-- What only proofs and private clauses need: what a book keeps beside segments and objects, and
-- rows that come to one.
pub mod Ties
pub mod Restoring
