mod EditLemmas
mod EndLemmas
mod KeptPieces
mod PairLemmas
mod ShowLemmas
mod TakenLemmas
mod WorkedEdit
