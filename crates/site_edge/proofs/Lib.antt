mod SendLemmas
mod LineLemmas
mod ListLemmas
mod ConnectionLemmas
mod MomentLemmas
mod KeptLemmas
mod LinkLemmas
pub mod Theorems
