mod AnswerLemmas
pub mod AppendLemmas
mod ChainLemmas
mod CheckpointLemmas
mod CrashLemmas
mod FormattingLemmas
mod FrameLemmas
mod GateLemmas
mod HeaderLemmas
mod MomentLemmas
mod OthersLemmas
pub mod OpeningLemmas
pub mod ReadingLemmas
mod ScanLemmas
mod StoreLemmas
pub mod Theorems
mod WindowLemmas
