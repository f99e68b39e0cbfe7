-- A line that is put into the notes part by part.
use Rattle.std.proofs.Common.{◌≡◌, ◌≢◌, ◌++◌, ◌∙◌, ℕ, zero, suc, codes, Bool, true, List, refl, sym, ap, append_assoc}
use Rattle.disk_trait.proofs.Theorems.{counted_twice}
use Rattle.site_edge.specs.Links.{Sends}
use Rattle.tams_outcomes.specs.Lines.{TakesPart, changes_end, numbered}

sends_more : (ok : Bool) (first second sent : List ℕ) → Sends ok second sent → Sends ok (first ++ second) (first ++ sent)
sends_more ok first second sent s = record {
  prefix = (s.prefix.0, ap (λ xs. first ++ xs) s.prefix.1 ∙ sym (append_assoc first sent s.prefix.0));
  whole = λ yes. ap (λ xs. first ++ xs) (s.whole yes);
}

-- one part, whole, and another behind it
pub takes_twice : (ok tells later : Bool) (first second : List ℕ) (a b c : ℕ) (old mid new : List ℕ) → later ≡ tells → TakesPart true tells first a b old mid
    → TakesPart ok later second b c mid new → TakesPart ok tells (first ++ second) a c old new
takes_twice ok tells later first second a b c old mid new same one two = record {
  counted = counted_twice ok a b c one.counted two.counted;
  puts = λ yes.
      let p = one.puts yes in
      let q = two.puts (same ∙ yes) in
      let whole : p.0 ≡ first = p.1.whole refl in
      (first ++ q.0, sends_more ok first second q.0 q.1, q.2 ∙ ap (λ xs. xs ++ q.0) (p.2 ∙ ap (λ xs. old ++ xs) whole) ∙ append_assoc old first q.0);
}

-- the end of a line where turns were skipped
pub changes_end-some : (skipped : ℕ) → skipped ≢ 0 → changes_end skipped ≡ numbered (codes " changes, ") skipped (codes " turns skipped\n")
changes_end-some zero some = absurd (some refl)
changes_end-some (suc n) some = refl
