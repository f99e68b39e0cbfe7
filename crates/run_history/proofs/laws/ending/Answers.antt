use Rattle.std.proofs.Common.{ℕ, List, get_or, refl, ap, inl, inr, arith}
use Rattle.std.proofs.lemmas.Bool.{false≢true}
use Rattle.run_history.proofs.laws.ending.Goals as goal

pub returns : goal.returns
returns c = record {
  unheard = λ served. absurd (false≢true (served.ends.to_the_end refl));
  before = inr refl;
  after = inl refl;
  last = λ same. absurd (omega (arith, ap (λ (l : List ℕ). get_or l 0 0) same));
}
