mod BodyLemmas
pub mod SiteLemmas
mod TurnLemmas
pub mod AskingHearings
pub mod Asking
pub mod AskingAnswered
pub mod AskingCut
pub mod AskingReached
pub mod AskingSteps
pub mod Endings
pub mod Theorems
