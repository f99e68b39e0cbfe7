-- What only proofs and private clauses need: holes at their keys below a space, and looks at them.
pub mod Keys
