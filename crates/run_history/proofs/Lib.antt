pub mod Pieces
pub mod Pairs
pub mod Invariant
pub mod Growth
pub mod Handed
pub mod Ends
pub mod Hearings
pub mod Going
mod WorkedHearings
