-- Definitions that only the proofs of this crate need: what a scan of a half has read so far, the
-- window through which it is read, and what the writes of a record and of a store have done so far,
-- byte by byte.
pub mod Scan
pub mod Window
pub mod Steps
