-- The tests on ranges say what they should of points.
use Rattle.std.proofs.Common.{◌≡◌, ℤ, ◌≤ℤ◌, Bool, true, false, Option, Some, None, IfSome, refl, arith}
use Rattle.std.specs.Prelude.{int_le}
use Rattle.std.specs.Bool.{Decides}
use Rattle.std.specs.Int.{int_min, int_max}
use Rattle.std.proofs.lemmas.Bool.{and_parts, and_from, false≢true}
use Rattle.std.proofs.lemmas.Int.{ints, clamps}
use Rattle.time_range.specs.Points.{From, UpTo, Has, IsLow, IsHigh, IsSpan, IsRange, Overlap, Covers, low_of, high_of}
use Rattle.time_range.specs.Ends.{are_ordered, ReachesDown, ReachesUp}
use Rattle.time_range.specs.declared.ranges.Span.{Span}
use Rattle.time_range.proofs.SpanPoints.{point_between, covers_from_reach, reach_from_covers, not_covered_by_never, hull_least}
use Rattle.time_range.proofs.Theorems.{same_range}
use Rattle.media_rows.specs.Ranges.{overlaps, covers, reaches_down, reaches_up, lower, higher, hull}
use Rattle.time_range.proofs.EndTests.{order_from_point}

le_true : (a b : ℤ) → int_le a b ≡ true → a ≤ℤ b
le_true a b e = grind (arith, ints)

true_le : (a b : ℤ) → a ≤ℤ b → int_le a b ≡ true
true_le a b h = grind (arith, ints)

-- ---- ends in order

-- the later of two low ends, and the earlier of two high ends
later : Option ℤ → Option ℤ → Option ℤ
later None b = b
later (Some a) None = Some a
later (Some a) (Some b) = Some (int_max a b)

earlier : Option ℤ → Option ℤ → Option ℤ
earlier None b = b
earlier (Some a) None = Some a
earlier (Some a) (Some b) = Some (int_min a b)

From-later : (a b : Option ℤ) (p : ℤ) → From (later a b) p → From a p × From b p
unfolding later
From-later None b p h = (tt, h)
From-later (Some a) None p h = (h, tt)
From-later (Some a) (Some b) p h = (omega (arith, ints, clamps), omega (arith, ints, clamps))

UpTo-earlier : (a b : Option ℤ) (p : ℤ) → UpTo (earlier a b) p → UpTo a p × UpTo b p
unfolding earlier
UpTo-earlier None b p h = (tt, h)
UpTo-earlier (Some a) None p h = (h, tt)
UpTo-earlier (Some a) (Some b) p h = (omega (arith, ints, clamps), omega (arith, ints, clamps))

-- the order of two ends, as the point between them needs it
AreOrdered : Option ℤ → Option ℤ → Type 0
AreOrdered low high = IfSome low (λ a. IfSome high (λ b. a ≤ℤ b))

ordered_from_test : (low high : Option ℤ) → are_ordered low high ≡ true → AreOrdered low high
unfolding AreOrdered
ordered_from_test None None e = tt
ordered_from_test None (Some b) e = tt
ordered_from_test (Some a) None e = tt
ordered_from_test (Some a) (Some b) e = le_true a b e

later_ordered : (a b high : Option ℤ) → AreOrdered a high → AreOrdered b high → AreOrdered (later a b) high
unfolding AreOrdered later
later_ordered None b high h k = k
later_ordered (Some a) None high h k = h
later_ordered (Some a) (Some b) None h k = tt
later_ordered (Some a) (Some b) (Some c) h k = omega (arith, ints, clamps)

earlier_ordered : (low a b : Option ℤ) → AreOrdered low a → AreOrdered low b → AreOrdered low (earlier a b)
unfolding AreOrdered earlier
earlier_ordered low None b h k = k
earlier_ordered low (Some a) None h k = h
earlier_ordered None (Some a) (Some b) h k = tt
earlier_ordered (Some c) (Some a) (Some b) h k = omega (arith, ints, clamps)

-- two spans whose ends are in order crosswise have a point in common
common_point : (s t : Span) → IsSpan s → IsSpan t → are_ordered s.low t.high ≡ true → are_ordered t.low s.high ≡ true → Overlap (Some s) (Some t)
unfolding AreOrdered
common_point s t fine_s fine_t across back =
    let upper = earlier_ordered (later s.low t.low) s.high t.high (later_ordered s.low t.low s.high fine_s.ordered (ordered_from_test t.low s.high back))
    (later_ordered s.low t.low t.high (ordered_from_test s.low t.high across) fine_t.ordered) in
    let q = point_between (later s.low t.low) (earlier s.high t.high) upper in
    let from = From-later s.low t.low q.0 q.1 in
    let up = UpTo-earlier s.high t.high q.0 q.2 in
    (q.0, (from.0, up.0), (from.1, up.1))

pub overlaps_decides : (a b : Option Span) → IsRange a → IsRange b → Decides (overlaps a b) (Overlap a b)
overlaps_decides None b fine_a fine_b = (λ e. absurd (false≢true e), λ o. absurd o.1)
overlaps_decides (Some s) None fine_a fine_b = (λ e. absurd (false≢true e), λ o. absurd o.2)
overlaps_decides (Some s) (Some t) fine_a fine_b = (
  λ e. let parts = and_parts (are_ordered s.low t.high) (are_ordered t.low s.high) e in common_point s t fine_a fine_b parts.0 parts.1,
  λ o. and_from (are_ordered s.low t.high) (are_ordered t.low s.high) (order_from_point s.low t.high o.0 o.1.0 o.2.1)
      (order_from_point t.low s.high o.0 o.2.0 o.1.1),
)

-- ---- ends that reach

down_decides : (a b : Option ℤ) → Decides (reaches_down a b) (ReachesDown a b)
down_decides None b = (λ e. tt, λ h. refl)
down_decides (Some a) None = (λ e. absurd (false≢true e), λ h. absurd h)
down_decides (Some a) (Some b) = (le_true a b, true_le a b)

up_decides : (a b : Option ℤ) → Decides (reaches_up a b) (ReachesUp a b)
up_decides None b = (λ e. tt, λ h. refl)
up_decides (Some a) None = (λ e. absurd (false≢true e), λ h. absurd h)
up_decides (Some a) (Some b) = (le_true b a, true_le b a)

pub covers_decides : (a b : Option Span) → IsRange a → IsRange b → Decides (covers a b) (Covers a b)
covers_decides None None fine_a fine_b = (λ e p h. h, λ c. refl)
covers_decides (Some s) None fine_a fine_b = (λ e p h. absurd h, λ c. refl)
covers_decides None (Some t) fine_a fine_b = (λ e. absurd (false≢true e), λ c. absurd (not_covered_by_never t fine_b c))
covers_decides (Some s) (Some t) fine_a fine_b = (
  λ e. let parts = and_parts (reaches_down s.low t.low) (reaches_up s.high t.high) e in
      covers_from_reach s t ((down_decides s.low t.low).0 parts.0) ((up_decides s.high t.high).0 parts.1),
  λ c. let reach = reach_from_covers s t fine_b c in
      and_from (reaches_down s.low t.low) (reaches_up s.high t.high) ((down_decides s.low t.low).1 reach.0) ((up_decides s.high t.high).1 reach.1),
)

-- ---- what the calls of a range tell of it

-- ends with a point between them are in order
ordered_from_point : (low high : Option ℤ) (p : ℤ) → From low p → UpTo high p → IfSome low (λ a. IfSome high (λ b. a ≤ℤ b))
ordered_from_point None high p from up = tt
ordered_from_point (Some a) None p from up = tt
ordered_from_point (Some a) (Some b) p from up = omega (arith, ints)

-- a range whose ends are within the limit, and that is never or has a point, is one
pub is_range_by_ends : (r : Option Span) (never : Bool) → IfSome (low_of r) IsLow → IfSome (high_of r) IsHigh → (never ≡ true → r ≡ None)
    → (never ≡ false → (p : ℤ) × Has r p) → IsRange r
is_range_by_ends None never low high none some = tt
is_range_by_ends (Some s) true low high none some = absurd (let e = none refl in cc)
is_range_by_ends (Some s) false low high none some =
    let q = some refl in
    record { ordered = ordered_from_point s.low s.high q.0 q.1.0 q.1.1; low = low; high = high }

-- ---- the least range that covers two

lower_left : (a b : Option ℤ) → ReachesDown (lower a b) a
lower_left None b = tt
lower_left (Some a) None = tt
lower_left (Some a) (Some b) = omega (arith, ints, clamps)

lower_right : (a b : Option ℤ) → ReachesDown (lower a b) b
lower_right None b = tt
lower_right (Some a) None = tt
lower_right (Some a) (Some b) = omega (arith, ints, clamps)

lower_least : (a b l : Option ℤ) → ReachesDown l a → ReachesDown l b → ReachesDown l (lower a b)
lower_least a b None h k = tt
lower_least None b (Some l) h k = h
lower_least (Some a) None (Some l) h k = k
lower_least (Some a) (Some b) (Some l) h k = omega (arith, ints, clamps)

higher_left : (a b : Option ℤ) → ReachesUp (higher a b) a
higher_left None b = tt
higher_left (Some a) None = tt
higher_left (Some a) (Some b) = omega (arith, ints, clamps)

higher_right : (a b : Option ℤ) → ReachesUp (higher a b) b
higher_right None b = tt
higher_right (Some a) None = tt
higher_right (Some a) (Some b) = omega (arith, ints, clamps)

higher_least : (a b l : Option ℤ) → ReachesUp l a → ReachesUp l b → ReachesUp l (higher a b)
higher_least a b None h k = tt
higher_least None b (Some l) h k = h
higher_least (Some a) None (Some l) h k = k
higher_least (Some a) (Some b) (Some l) h k = omega (arith, ints, clamps)

-- ends that reach out stay in order
ordered_out : (low low₂ high high₂ : Option ℤ) → ReachesDown low₂ low → ReachesUp high₂ high → AreOrdered low high → AreOrdered low₂ high₂
unfolding AreOrdered
ordered_out low None high high₂ d u h = tt
ordered_out low (Some a) high None d u h = tt
ordered_out None (Some a) high (Some b) d u h = absurd d
ordered_out (Some l) (Some a) None (Some b) d u h = absurd u
ordered_out (Some l) (Some a) (Some m) (Some b) d u h = omega (arith, ints)

low_within : (a b : Option ℤ) → IfSome a IsLow → IfSome b IsLow → IfSome (lower a b) IsLow
low_within None b h k = tt
low_within (Some a) None h k = tt
low_within (Some a) (Some b) h k = record { least = omega (arith, ints, clamps, h.least, k.least); most = omega (arith, ints, clamps, h.most, k.most) }

high_within : (a b : Option ℤ) → IfSome a IsHigh → IfSome b IsHigh → IfSome (higher a b) IsHigh
high_within None b h k = tt
high_within (Some a) None h k = tt
high_within (Some a) (Some b) h k = record { least = omega (arith, ints, clamps, h.least, k.least); most = omega (arith, ints, clamps, h.most, k.most) }

pub hull_range : (a b : Option Span) → IsRange a → IsRange b → IsRange (hull a b)
unfolding AreOrdered
hull_range None b fine_a fine_b = fine_b
hull_range (Some s) None fine_a fine_b = fine_a
hull_range (Some s) (Some t) fine_a fine_b = record {
  ordered = ordered_out s.low (lower s.low t.low) s.high (higher s.high t.high) (lower_left s.low t.low) (higher_left s.high t.high) fine_a.ordered;
  low = low_within s.low t.low fine_a.low fine_b.low;
  high = high_within s.high t.high fine_a.high fine_b.high;
}

pub hull_left : (a b : Option Span) → Covers (hull a b) a
hull_left None b p h = absurd h
hull_left (Some s) None p h = h
hull_left (Some s) (Some t) p h =
    covers_from_reach (record { low = lower s.low t.low; high = higher s.high t.high }) s (lower_left s.low t.low) (higher_left s.high t.high) p h

pub hull_right : (a b : Option Span) → Covers (hull a b) b
hull_right None b p h = h
hull_right (Some s) None p h = absurd h
hull_right (Some s) (Some t) p h =
    covers_from_reach (record { low = lower s.low t.low; high = higher s.high t.high }) t (lower_right s.low t.low) (higher_right s.high t.high) p h

pub hull_within : (range a b : Option Span) → IsRange a → IsRange b → Covers range a → Covers range b → Covers range (hull a b)
hull_within range None b fine_a fine_b left right = right
hull_within range (Some s) None fine_a fine_b left right = left
hull_within range (Some s) (Some t) fine_a fine_b left right =
    hull_least range s t (lower s.low t.low) (higher s.high t.high) fine_a fine_b (lower_least s.low t.low) (higher_least s.high t.high) left right

-- the least range that covers two is this one
pub least_is_hull : (range a b : Option Span) → IsRange range → IsRange a → IsRange b → Covers range a → Covers range b
    → ((other : Option Span) → Covers other a → Covers other b → Covers other range) → range ≡ hull a b
least_is_hull range a b fine fine_a fine_b left right least =
    same_range range (hull a b) fine (hull_range a b fine_a fine_b)
    (λ p. (λ h. least (hull a b) (hull_left a b) (hull_right a b) p h, λ h. hull_within range a b fine_a fine_b left right p h))
