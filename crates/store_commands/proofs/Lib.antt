pub mod BeginningLemmas
pub mod OpeningLemmas
pub mod FormatEndLemmas
pub mod FormattingLemmas
mod FreshLemmas
mod ProbingLemmas
mod CheckLemmas
pub mod CheckEndLemmas
pub mod MigrateEndLemmas
pub mod WorkEndLemmas
mod TurnsLeft
mod WorkingLemmas
mod DeliverLemmas
pub mod DeliverEndLemmas
pub mod CompletenessLemmas
pub mod ServeEndLemmas
mod RunningLemmas
mod ServedLemmas
pub mod WorkloadEndLemmas
mod WorkloadLemmas
mod ManifestLemmas
pub mod ManifestEndLemmas
