-- Laws of ranges and their ends, for crates that keep or print them.
use Rattle.std.proofs.Common.{◌≡◌, ℤ, pos, negsuc, ◌+ℤ◌, ◌-ℤ◌, ◌≤ℤ◌, if◌then◌else◌, Option, Some, None, sym, ◌∙◌, ap, refl, arith}
use Rattle.std.specs.Ordering.{int_eq}
use Rattle.std.proofs.lemmas.Int.{ints}
use Rattle.std.proofs.lemmas.Bool.Decides.{Decides-int_eq}
use Rattle.time_range.specs.Points.{instant, IsRange}
use Rattle.time_range.specs.Ends.{low_point, high_point, ReachesDown, ReachesUp}
use Rattle.time_range.specs.Spelling.{half, low_end, high_end}
use Rattle.time_range.specs.Answers.{HasSamePoints}
use Rattle.time_range.specs.declared.ranges.Span.{Span}
use Rattle.time_range.specs.declared.ends.End.{End}
use Rattle.time_range.specs.declared.ends.End.TheVariants.{Unbounded, Including, Excluding}
use Rattle.time_range.proofs.TsMachine.{then_part, else_part}
use Rattle.time_range.proofs.RangeMachine.{false_unless}
use Rattle.time_range.proofs.SpanPoints.{reach_from_covers, not_covered_by_never}

-- ---- ranges

-- low ends that reach to each other are one
same_low : (a b : Option ℤ) → ReachesDown a b → ReachesDown b a → a ≡ b
same_low None None h k = refl
same_low None (Some y) h k = absurd k
same_low (Some x) None h k = absurd h
same_low (Some x) (Some y) h k = let same : x ≡ y = omega (arith, ints) in ap (λ z. Some z) same

-- high ends that reach to each other are one
same_high : (a b : Option ℤ) → ReachesUp a b → ReachesUp b a → a ≡ b
same_high None None h k = refl
same_high None (Some y) h k = absurd k
same_high (Some x) None h k = absurd h
same_high (Some x) (Some y) h k = let same : x ≡ y = omega (arith, ints) in ap (λ z. Some z) same

-- ranges with the same points are one range
pub same_range : (a b : Option Span) → IsRange a → IsRange b → HasSamePoints a b → a ≡ b
same_range None None fine_a fine_b same = refl
same_range None (Some t) fine_a fine_b same = absurd (not_covered_by_never t fine_b (λ p h. (same p).1 h))
same_range (Some s) None fine_a fine_b same = absurd (not_covered_by_never s fine_a (λ p h. (same p).0 h))
same_range (Some s) (Some t) fine_a fine_b same =
    let over = reach_from_covers s t fine_b (λ p h. (same p).1 h) in
    let under = reach_from_covers t s fine_a (λ p h. (same p).0 h) in
    ap (λ low. Some (let r : Span = record { low = low; high = s.high } in r)) (same_low s.low t.low over.0 under.0)
    ∙ ap (λ high. Some (let r : Span = record { low = t.low; high = high } in r)) (same_high s.high t.high over.1 under.1)

-- ---- ends and their points

-- a point is the instant of its half or the gap after it
pub half_bounds : (p : ℤ) → (instant (half p) ≤ℤ p) × (p ≤ℤ (instant (half p) +ℤ pos 1))
half_bounds (pos a) = (omega (arith, ints), omega (arith, ints))
half_bounds (negsuc a) = (omega (arith, ints), omega (arith, ints))

-- there is one such instant
same_half : (h t p : ℤ) → (instant h ≤ℤ p) × (p ≤ℤ (instant h +ℤ pos 1)) → instant t ≤ℤ p → p ≤ℤ (instant t +ℤ pos 1) → h ≡ t
same_half h t p bounds low high = omega (arith, ints, bounds)

-- the half of a point that lies there
half_is : (p t : ℤ) → instant t ≤ℤ p → p ≤ℤ (instant t +ℤ pos 1) → half p ≡ t
half_is p t low high = same_half (half p) t p (half_bounds p) low high

-- the choice at an instant
at_instant : {T : Type 0} (h p : ℤ) (x y : T) → instant h ≡ p → (if int_eq (instant h) p then x else y) ≡ x
at_instant h p x y e = then_part (int_eq (instant h) p) x y ((Decides-int_eq (instant h) p).1 e)

-- the choice at a gap
at_gap : {T : Type 0} (h p : ℤ) (x y : T) → (instant h ≡ p → ⊥) → (if int_eq (instant h) p then x else y) ≡ y
at_gap h p x y apart = else_part (int_eq (instant h) p) x y (false_unless (int_eq (instant h) p) (λ yes. apart ((Decides-int_eq (instant h) p).0 yes)))

-- the end that a low end's point stands for is that end
pub low_end-low_point : (e : End) → low_end (low_point e) ≡ e
low_end-low_point Unbounded = refl
low_end-low_point (Including t) =
    let is = half_is (instant t) t (omega (arith, ints)) (omega (arith, ints)) in
    at_instant (half (instant t)) (instant t) _ _ (ap instant is) ∙ ap Including is
low_end-low_point (Excluding t) =
    let is = half_is (instant t +ℤ pos 1) t (omega (arith, ints)) (omega (arith, ints)) in
    at_gap (half (instant t +ℤ pos 1)) (instant t +ℤ pos 1) _ _ (λ e. let same = sym (ap instant is) ∙ e in omega (arith, ints)) ∙ ap Excluding is

-- the end that a high end's point stands for is that end
pub high_end-high_point : (e : End) → high_end (high_point e) ≡ e
high_end-high_point Unbounded = refl
high_end-high_point (Including t) =
    let is = half_is (instant t) t (omega (arith, ints)) (omega (arith, ints)) in
    at_instant (half (instant t)) (instant t) _ _ (ap instant is) ∙ ap Including is
high_end-high_point (Excluding t) =
    let is = half_is (instant t -ℤ pos 1) (t -ℤ pos 1) (omega (arith, ints)) (omega (arith, ints)) in
    let back : (t -ℤ pos 1) +ℤ pos 1 ≡ t = omega (arith, ints) in
    at_gap (half (instant t -ℤ pos 1)) (instant t -ℤ pos 1) _ _ (λ e. let same = sym (ap instant is) ∙ e in omega (arith, ints))
    ∙ ap (λ h. Excluding (h +ℤ pos 1)) is ∙ ap Excluding back
