-- What only proofs and private clauses need: the segments of each flow below a book.
pub mod Flows
pub mod Paging
