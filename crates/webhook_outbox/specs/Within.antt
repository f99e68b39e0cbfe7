-- What only proofs and private clauses need: hooks with what waits for them, at their keys, hooks
-- that go one by one, posting as far as it has come, and rows that come one after the other.
pub mod Drops
pub mod Posts
pub mod Restored
pub mod Slots
