mod CountLemmas
mod PieceLemmas
mod RangeLemmas
mod RateLemmas
mod SampleLemmas
mod WorkedLemmas
