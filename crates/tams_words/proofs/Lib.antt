mod CommandLemmas
pub mod WordLemmas
pub mod WordTheorems
pub mod WorkedWords
