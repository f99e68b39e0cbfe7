mod SmallRuns
mod SmallStore
