-- Rows that come one after the other, from the last one to the first, and what a refusal of one of them says of all.
use Rattle.std.proofs.Common.{◌≡◌, ◌∙◌, ◌+◌, ◌-◌, ◌<◌, ℕ, suc, Bool, false, List, ◌∷◌, Err, length, drop, get_or, sym, ap, arith}
use Rattle.std.proofs.Math.Seq.{drop-cons}
use Rattle.media_rows.specs.declared.refusal.ApplyFault.{ApplyFault}
use Rattle.media_rows.specs.declared.refusal.ApplyFault.TheVariants as faults
use Rattle.media_rows.specs.Refusals.{Restores}

-- a fault at a part is handed on where the whole is refused with the part
pub handed_on : {T S : Type 0} (fault : ApplyFault) (good all : Bool) (part : T) (whole : S) → (good ≡ false → all ≡ false) → Restores good part (Err fault)
    → Restores all whole (Err fault)
handed_on faults.Refused good all part whole follows h = follows h
handed_on faults.Memory good all part whole follows h = h

-- a list from its end
pub one_more : {X : Type 0} (xs : List X) (n : ℕ) (x : X) → n < length xs → x ≡ get_or xs (length xs - 1 - n) x
    → drop (length xs - (n + 1)) xs ≡ x ∷ drop (length xs - n) xs
one_more xs n x lt at =
    let j = length xs - (n + 1) in
    let same : j ≡ length xs - 1 - n = omega (arith, lt) in
    let next : suc j ≡ length xs - n = omega (arith, lt) in
    drop-cons xs j x (omega (arith, lt)) ∙ ap (λ i. get_or xs i x ∷ drop (suc j) xs) same ∙ ap (λ v. v ∷ drop (suc j) xs) (sym at)
    ∙ ap (λ i. x ∷ drop i xs) next
