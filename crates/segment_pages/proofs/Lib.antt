mod CutLemmas
mod OrderLemmas
mod ReadLemmas
