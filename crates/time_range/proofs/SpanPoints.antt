-- Points of a range that show where its ends stand, and what covering says of ends.
use Rattle.std.proofs.Common.{◌≡◌, ℤ, pos, ◌+ℤ◌, ◌-ℤ◌, ◌≤ℤ◌, ◌<ℤ◌, ◌↔◌, Option, Some, None, IsSome, IfSome, refl, arith}
use Rattle.std.specs.Option.{option_map}
use Rattle.std.proofs.lemmas.Int.{ints, clamps}
use Rattle.std.specs.Int.{int_min, int_max}
use Rattle.time_range.specs.Points.{instant, From, UpTo, Has, Covers, IsSpan, IsRange, IsBounded}
use Rattle.time_range.specs.Ends.{ReachesDown, ReachesUp}
use Rattle.time_range.specs.declared.ranges.Span.{Span}

-- some point lies between ends that are in order
pub point_between : (low high : Option ℤ) → IfSome low (λ a. IfSome high (λ b. a ≤ℤ b)) → (p : ℤ) × From low p × UpTo high p
point_between None None h = (pos 0, tt, tt)
point_between None (Some b) h = (b, tt, omega (arith, ints))
point_between (Some a) None h = (a, omega (arith, ints), tt)
point_between (Some a) (Some b) h = (a, omega (arith, ints), h)

-- a point up to a high end and before any given point
pub point_before : (high : Option ℤ) (p : ℤ) → (q : ℤ) × UpTo high q × (q <ℤ p)
point_before None p = (p -ℤ pos 1, tt, omega (arith, ints))
point_before (Some b) p = (int_min b p -ℤ pos 1, omega (arith, ints, clamps), omega (arith, ints, clamps))

-- a point from a low end on and after any given point
pub point_after : (low : Option ℤ) (p : ℤ) → (q : ℤ) × From low q × (p <ℤ q)
point_after None p = (p +ℤ pos 1, tt, omega (arith, ints))
point_after (Some a) p = (int_max a p +ℤ pos 1, omega (arith, ints, clamps), omega (arith, ints, clamps))

-- each point from the inner low end on is one from the outer on
pub From-down : (outer inner : Option ℤ) (p : ℤ) → ReachesDown outer inner → From inner p → From outer p
From-down None inner p reach h = tt
From-down (Some a) None p reach h = absurd reach
From-down (Some a) (Some b) p reach h = omega (arith, ints)

-- each point up to the inner high end is one up to the outer
pub UpTo-up : (outer inner : Option ℤ) (p : ℤ) → ReachesUp outer inner → UpTo inner p → UpTo outer p
UpTo-up None inner p reach h = tt
UpTo-up (Some a) None p reach h = absurd reach
UpTo-up (Some a) (Some b) p reach h = omega (arith, ints)

-- the low end of a range that covers a span reaches down to the span's
down_from_covers : (outer : Option ℤ) (low high : Option ℤ) → IfSome low (λ a. IfSome high (λ b. a ≤ℤ b)) →
    ((p : ℤ) → From low p → UpTo high p → From outer p) → ReachesDown outer low
down_from_covers None low high ordered inside = tt
down_from_covers (Some a) None high ordered inside =
    let q = point_before high a in
    let here : a ≤ℤ q.0 = inside q.0 tt q.1 in
    let below = q.2 in absurd (omega (arith, ints))
down_from_covers (Some a) (Some b) None ordered inside = inside b (omega (arith, ints)) tt
down_from_covers (Some a) (Some b) (Some e) ordered inside = inside b (omega (arith, ints)) ordered

-- the high end of a range that covers a span reaches up to the span's
up_from_covers : (outer : Option ℤ) (low high : Option ℤ) → IfSome low (λ a. IfSome high (λ b. a ≤ℤ b)) →
    ((p : ℤ) → From low p → UpTo high p → UpTo outer p) → ReachesUp outer high
up_from_covers None low high ordered inside = tt
up_from_covers (Some a) low None ordered inside =
    let q = point_after low a in
    let here : q.0 ≤ℤ a = inside q.0 q.1 tt in
    let above = q.2 in absurd (omega (arith, ints))
up_from_covers (Some a) None (Some b) ordered inside = inside b tt (omega (arith, ints))
up_from_covers (Some a) (Some e) (Some b) ordered inside = inside b ordered (omega (arith, ints))

-- a span covers another where its ends reach to the other's
pub covers_from_reach : (outer inner : Span) → ReachesDown outer.low inner.low → ReachesUp outer.high inner.high → Covers (Some outer) (Some inner)
covers_from_reach outer inner down up p h =
    (From-down outer.low inner.low p down h.0, UpTo-up outer.high inner.high p up h.1)

-- and only there
pub reach_from_covers : (outer inner : Span) → IsSpan inner → Covers (Some outer) (Some inner) →
    ReachesDown outer.low inner.low × ReachesUp outer.high inner.high
reach_from_covers outer inner fine covers = (
  down_from_covers outer.low inner.low inner.high fine.ordered (λ p from up. (covers p (from, up)).0),
  up_from_covers outer.high inner.low inner.high fine.ordered (λ p from up. (covers p (from, up)).1),
)

-- never covers no span
pub not_covered_by_never : (inner : Span) → IsSpan inner → Covers None (Some inner) → ⊥
not_covered_by_never inner fine covers =
    let q = point_between inner.low inner.high fine.ordered in covers q.0 (q.1, q.2)

-- the ends of a range that is not never
pub span_of : (range : Option Span) (s : Span) → range ≡ Some s → IsRange range → IsSpan s
span_of range s e h = rw e at h

-- a range that is not never contains a point
pub some_point : (range : Option Span) → IsRange range → IsSome range → (p : ℤ) × Has range p
some_point None fine some = cc
some_point (Some s) fine some = let q = point_between s.low s.high fine.ordered in (q.0, (q.1, q.2))

-- the covering range of two spans reaches over the least ends that reach over theirs
pub hull_least : (range : Option Span) (a b : Span) (low high : Option ℤ) → IsSpan a → IsSpan b →
    ((l : Option ℤ) → ReachesDown l a.low → ReachesDown l b.low → ReachesDown l low) →
    ((h : Option ℤ) → ReachesUp h a.high → ReachesUp h b.high → ReachesUp h high) → Covers range (Some a) →
    Covers range (Some b) → (p : ℤ) → From low p × UpTo high p → Has range p
hull_least None a b low high fine_a fine_b down up left right p h = absurd (not_covered_by_never a fine_a left)
hull_least (Some s) a b low high fine_a fine_b down up left right p h =
    let l = reach_from_covers s a fine_a left in
    let r = reach_from_covers s b fine_b right in
    (From-down s.low low p (down s.low l.0 r.0) h.0, UpTo-up s.high high p (up s.high l.1 r.1) h.1)

-- points that do not go below a bound have a low end
some_low : (low high : Option ℤ) (l : ℤ) → ((p : ℤ) → From low p → UpTo high p → l ≤ℤ p) → IsSome low
some_low (Some a) high l h = refl
some_low None high l h =
    let q = point_before high l in
    let above : l ≤ℤ q.0 = h q.0 tt q.1 in
    let below = q.2 in absurd (omega (arith, ints))

-- points that do not go above a bound have a high end
some_high : (low high : Option ℤ) (l : ℤ) → ((p : ℤ) → From low p → UpTo high p → p ≤ℤ l) → IsSome high
some_high low (Some a) l h = refl
some_high low None l h =
    let q = point_after low l in
    let below : q.0 ≤ℤ l = h q.0 q.1 tt in
    let above = q.2 in absurd (omega (arith, ints))

-- between both ends the points are bounded
bounded_by : (low high : Option ℤ) → IsSome low → IsSome high → (l : ℤ) × (h : ℤ) × ((p : ℤ) → From low p × UpTo high p → (l ≤ℤ p) × (p ≤ℤ h))
bounded_by None high no_low some = cc
bounded_by (Some a) None some no_high = cc
bounded_by (Some a) (Some b) some too = (a, b, λ p h. h)

-- a span is bounded exactly where it has both ends
pub bounded_by_ends : (s : Span) → IsBounded (Some s) ↔ (IsSome s.low × IsSome s.high)
bounded_by_ends s = (
  λ b. (some_low s.low s.high b.0 (λ p from up. (b.2 p (from, up)).0), some_high s.low s.high b.1 (λ p from up. (b.2 p (from, up)).1)),
  λ e. bounded_by s.low s.high e.0 e.1,
)

-- no point is out of bounds
pub bounded_never : IsBounded None
bounded_never = (pos 0, pos 0, λ p h. absurd h)

-- a moved point is from the moved low end on
From-moved : (low : Option ℤ) (p by : ℤ) → From (option_map (λ q. q +ℤ instant by) low) (p +ℤ instant by) ↔ From low p
From-moved None p by = (λ h. h, λ h. h)
From-moved (Some a) p by = (λ h. omega (arith, ints), λ h. omega (arith, ints))

-- a moved point is up to the moved high end
UpTo-moved : (high : Option ℤ) (p by : ℤ) → UpTo (option_map (λ q. q +ℤ instant by) high) (p +ℤ instant by) ↔ UpTo high p
UpTo-moved None p by = (λ h. h, λ h. h)
UpTo-moved (Some a) p by = (λ h. omega (arith, ints), λ h. omega (arith, ints))

-- the points of a span whose ends are moved are its points, moved
pub Has-moved : (s : Span) (by : ℤ) (low high : Option ℤ) (range : Option Span) →
    low ≡ option_map (λ q. q +ℤ instant by) s.low → high ≡ option_map (λ q. q +ℤ instant by) s.high →
    ((p : ℤ) → Has range p ↔ (From low p × UpTo high p)) → (p : ℤ) → Has range (p +ℤ instant by) ↔ Has (Some s) p
Has-moved s by low high range low_is high_is points p =
    let from = From-moved s.low p by in
    let up = UpTo-moved s.high p by in
    let here = rw (low_is, high_is) at points (p +ℤ instant by) in
    (λ h. let ends = here.0 h in (from.0 ends.0, up.0 ends.1), λ h. here.1 (from.1 h.0, up.1 h.1))
