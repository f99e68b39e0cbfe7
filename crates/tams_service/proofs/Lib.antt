pub mod Handed
mod Counting
mod Sayings
mod Fronts
mod Objects
mod Parts
mod Holding
mod Keeps
mod Taken
mod Calls
mod Clocks
pub mod Keeping
pub mod States
mod Effects
pub mod Good
mod Endings
mod Finishing
mod Giving
mod Hearing
mod Wholes
mod Opened
mod Finished
mod Turned
pub mod Moments
pub mod Stepping
mod PutOutcomes
mod PutReplies
mod Putting
mod Ids
mod Bodies
mod Planned
