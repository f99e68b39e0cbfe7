-- Tags by rising name.
use Rattle.std.proofs.Common.{◌≡◌, ℕ, zero, suc, ◌-◌, ◌≤◌, true, List, [], ◌∷◌, length, drop, refl, sym, ap, ◌∙◌, arith}
use Rattle.media_rows.specs.declared.flow.Tag.{Tag}
use Rattle.change_codec.specs.Values.{is_rising}

few_rise : (tags : List Tag) (i : ℕ) → length tags ≤ suc i → is_rising (drop i tags) ≡ true
few_rise [] zero le = refl
few_rise [] (suc i) le = refl
few_rise (t ∷ []) zero le = refl
few_rise (t ∷ u ∷ tags) zero le = absurd (let impossible : ⊥ = omega arith in impossible)
few_rise (t ∷ tags) (suc i) le = few_rise tags i (omega arith)

-- Where no pair is left, all tags rise as those do from the last pair on.
pub rises_all : (tags : List Tag) (at : ℕ) → 1 ≤ at → length tags ≤ at → is_rising (drop (at - 1) tags) ≡ is_rising tags → is_rising tags ≡ true
rises_all tags zero low le so_far = absurd (let impossible : ⊥ = omega arith in impossible)
rises_all tags (suc i) low le so_far =
    let k : suc i - 1 ≡ i = omega arith in
    sym so_far ∙ ap (λ (n : ℕ). is_rising (drop n tags)) k ∙ few_rise tags i le
