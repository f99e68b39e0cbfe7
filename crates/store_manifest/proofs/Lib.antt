mod GatherLemmas
mod TellLemmas
