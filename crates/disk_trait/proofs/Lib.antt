pub mod NumberLemmas
pub mod OverwriteLemmas
pub mod TornLemmas
mod HistoryLemmas
mod MemoryDiskLemmas
mod StopLemmas
pub mod Theorems
