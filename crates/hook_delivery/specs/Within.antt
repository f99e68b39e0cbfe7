-- What only proofs need: what stands at the front of bytes, tokens that are added, and parts of an
-- exchange.
pub mod Adding
pub mod Conversing
pub mod Fronts
