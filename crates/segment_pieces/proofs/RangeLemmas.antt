-- Parts of ranges and moved ranges, as values and by their points.
use Rattle.std.proofs.Common.{◌≡◌, ◌↔◌, ℤ, ◌+ℤ◌, ◌-ℤ◌, ◌≤ℤ◌, Bool, true, false, cond, if◌then◌else◌, Option, Some, None, IfSome, refl, sym, ◌∙◌, arith}
use Rattle.std.specs.Prelude.{int_lt, is_some}
use Rattle.std.specs.Option.{option_map}
use Rattle.std.proofs.lemmas.Bool.{and_from, and_parts, false≢true}
use Rattle.std.proofs.lemmas.Int.{ints, clamps}
use Rattle.time_range.specs.Ends.{are_ordered, span_between}
use Rattle.time_range.specs.Points.{From, UpTo, Has, IsLow, IsHigh, IsRange, Overlap, StaysWithin, instant}
use Rattle.time_range.specs.declared.ranges.Span.{Span}
use Rattle.time_range.proofs.EndTests.{order_from_point, ordered_from_test}
use Rattle.time_range.proofs.Theorems.{same_range}
use Rattle.media_rows.specs.Ranges.{has_both_ends}
use Rattle.segment_pieces.specs.Pieces.{later, earlier, meet, moved}

-- ---- ends

-- a point is from the later end on where it is from both on
From-later : (a b : Option ℤ) (p : ℤ) → From (later a b) p ↔ (From a p × From b p)
From-later None b p = (λ h. (tt, h), λ h. h.1)
From-later (Some a) None p = (λ h. (h, tt), λ h. h.0)
From-later (Some a) (Some b) p = (
  λ h. (omega (arith, ints, clamps), omega (arith, ints, clamps)),
  λ h. let one = h.0 in let two = h.1 in omega (arith, ints, clamps),
)

-- a point is up to the earlier end where it is up to both
UpTo-earlier : (a b : Option ℤ) (p : ℤ) → UpTo (earlier a b) p ↔ (UpTo a p × UpTo b p)
UpTo-earlier None b p = (λ h. (tt, h), λ h. h.1)
UpTo-earlier (Some a) None p = (λ h. (h, tt), λ h. h.0)
UpTo-earlier (Some a) (Some b) p = (
  λ h. (omega (arith, ints, clamps), omega (arith, ints, clamps)),
  λ h. let one = h.0 in let two = h.1 in omega (arith, ints, clamps),
)

-- one of two is chosen
chosen : (P : ℤ → Type 0) (test : Bool) (a b : ℤ) → P a → P b → P (cond test a b)
chosen P true a b h k = h
chosen P false a b h k = k

-- the later of two ends is one of them
later_is : (P : ℤ → Type 0) (a b : Option ℤ) → IfSome a P → IfSome b P → IfSome (later a b) P
later_is P None b h k = k
later_is P (Some a) None h k = h
later_is P (Some a) (Some b) h k = chosen P (int_lt b a) a b h k

-- and so is the earlier one
earlier_is : (P : ℤ → Type 0) (a b : Option ℤ) → IfSome a P → IfSome b P → IfSome (earlier a b) P
earlier_is P None b h k = k
earlier_is P (Some a) None h k = h
earlier_is P (Some a) (Some b) h k = chosen P (int_lt b a) b a k h

-- ---- the points of a part

-- the span of two ends, where a test on them was passed
abbrev span_if : Bool → Option ℤ → Option ℤ → Option Span
span_if test low high =
    if test then Some (let s : Span = record { low = low; high = high } in s) else None

-- its points lie between the ends, whatever the test gave
Has-chosen : (low high : Option ℤ) (p : ℤ) (test : Bool) → are_ordered low high ≡ test
    → Has (span_if test low high) p ↔ (From low p × UpTo high p)
Has-chosen low high p true e = (λ h. h, λ h. h)
Has-chosen low high p false e =
    (λ h. absurd h, λ h. absurd (false≢true (sym e ∙ order_from_point low high p h.0 h.1)))

-- the points between two ends
Has-span_between : (low high : Option ℤ) (p : ℤ)
    → Has (span_between low high) p ↔ (From low p × UpTo high p)
Has-span_between low high p = Has-chosen low high p (are_ordered low high) refl

-- the points of the meet are those in both
pub Has-meet : (a b : Option Span) (p : ℤ) → Has (meet a b) p ↔ (Has a p × Has b p)
Has-meet None b p = (λ h. absurd h, λ h. absurd h.0)
Has-meet (Some a) None p = (λ h. absurd h, λ h. absurd h.1)
Has-meet (Some a) (Some b) p =
    let both = Has-span_between (later a.low b.low) (earlier a.high b.high) p in
    let from = From-later a.low b.low p in
    let up = UpTo-earlier a.high b.high p in (
      λ h. let ends = both.0 h in (
        (((from.0 ends.0).0, (up.0 ends.1).0)),
        ((from.0 ends.0).1, (up.0 ends.1).1),
      ),
      λ h. both.1 (from.1 (h.0.0, h.1.0), up.1 (h.0.1, h.1.1)),
    )

-- ends in order and within the limit are those of a range
range_chosen : (low high : Option ℤ) (test : Bool) → are_ordered low high ≡ test → IfSome low IsLow
    → IfSome high IsHigh
    → IsRange (span_if test low high)
range_chosen low high true e fine_low fine_high =
    record { ordered = ordered_from_test low high e; low = fine_low; high = fine_high }
range_chosen low high false e fine_low fine_high = tt

-- the meet of two ranges is one
meet_range : (a b : Option Span) → IsRange a → IsRange b → IsRange (meet a b)
meet_range None b fine_a fine_b = tt
meet_range (Some a) None fine_a fine_b = tt
meet_range (Some a) (Some b) fine_a fine_b =
    range_chosen (later a.low b.low) (earlier a.high b.high) _ refl
    (later_is IsLow a.low b.low fine_a.low fine_b.low)
    (earlier_is IsHigh a.high b.high fine_a.high fine_b.high)

-- a range of the points in both is the meet
pub is_meet : (a b both : Option Span) → IsRange a → IsRange b → IsRange both
    → ((p : ℤ) → Has both p ↔ (Has a p × Has b p)) → both ≡ meet a b
is_meet a b both fine_a fine_b fine points =
    same_range both (meet a b) fine (meet_range a b fine_a fine_b)
    (λ p. (λ h. (Has-meet a b p).1 ((points p).0 h), λ h. (points p).1 ((Has-meet a b p).0 h)))

-- ---- the points of a moved range

-- a point is from a moved end on where it was from the end on before
From-moved : (low : Option ℤ) (by p : ℤ)
    → From (option_map (λ q. q +ℤ instant by) low) p ↔ From low (p -ℤ instant by)
From-moved None by p = (λ h. h, λ h. h)
From-moved (Some a) by p = (λ h. omega (arith, ints), λ h. omega (arith, ints))

-- and up to a moved end where it was up to the end before
UpTo-moved : (high : Option ℤ) (by p : ℤ)
    → UpTo (option_map (λ q. q +ℤ instant by) high) p ↔ UpTo high (p -ℤ instant by)
UpTo-moved None by p = (λ h. h, λ h. h)
UpTo-moved (Some a) by p = (λ h. omega (arith, ints), λ h. omega (arith, ints))

-- a point is in a moved range where it was in the range before
pub Has-moved : (range : Option Span) (by p : ℤ)
    → Has (moved by range) p ↔ Has range (p -ℤ instant by)
Has-moved None by p = (λ h. h, λ h. h)
Has-moved (Some s) by p =
    let from = From-moved s.low by p in
    let up = UpTo-moved s.high by p in
    (λ h. (from.0 h.0, up.0 h.1), λ h. (from.1 h.0, up.1 h.1))

-- moved ends stay in order
moved_ordered : (low high : Option ℤ) (by : ℤ) → IfSome low (λ a. IfSome high (λ b. a ≤ℤ b))
    → IfSome (option_map (λ q. q +ℤ instant by) low)
    (λ a. IfSome (option_map (λ q. q +ℤ instant by) high) (λ b. a ≤ℤ b))
moved_ordered None high by h = tt
moved_ordered (Some a) None by h = tt
moved_ordered (Some a) (Some b) by h = omega (arith, ints)

-- what is true of a sum is true of the moved end
moved_end : (P : ℤ → Type 0) (end : Option ℤ) (by : ℤ) → IfSome end (λ a. P (a +ℤ instant by))
    → IfSome (option_map (λ q. q +ℤ instant by) end) P
moved_end P None by h = tt
moved_end P (Some a) by h = h

-- a range that stays within the limit is one after it is moved
moved_range : (range : Option Span) (by : ℤ) → IsRange range → StaysWithin range by
    → IsRange (moved by range)
moved_range None by fine within = tt
moved_range (Some s) by fine within = record {
  ordered = moved_ordered s.low s.high by fine.ordered;
  low = moved_end IsLow s.low by within.0;
  high = moved_end IsHigh s.high by within.1;
}

-- moved back and forth
back : (p by : ℤ) → (p -ℤ instant by) +ℤ instant by ≡ p
back p by = omega (arith, ints)

-- a range of the moved points is the moved range
pub is_moved : (range other : Option Span) (by : ℤ) → IsRange range → IsRange other
    → StaysWithin range by
    → ((p : ℤ) → Has other (p +ℤ instant by) ↔ Has range p) → other ≡ moved by range
is_moved range other by fine fine_other within points =
    same_range other (moved by range) fine_other (moved_range range by fine within)
    (λ p.
    let here : Has other p ↔ Has range (p -ℤ instant by) =
    rw (back p by) at (points (p -ℤ instant by)) in
    let there = Has-moved range by p in
    (λ h. there.1 (here.0 h), λ h. here.1 (there.0 h)))

-- ---- ends of a part

-- the later of two low ends is there where the first is
is_some_later : (a b : Option ℤ) → is_some a ≡ true → is_some (later a b) ≡ true
is_some_later None b some = absurd (false≢true some)
is_some_later (Some a) None some = refl
is_some_later (Some a) (Some b) some = refl

-- and so is the earlier of two high ends
is_some_earlier : (a b : Option ℤ) → is_some a ≡ true → is_some (earlier a b) ≡ true
is_some_earlier None b some = absurd (false≢true some)
is_some_earlier (Some a) None some = refl
is_some_earlier (Some a) (Some b) some = refl

-- two ends with a point between them are those of a bounded range
both_chosen : (low high : Option ℤ) (p : ℤ) (test : Bool) → are_ordered low high ≡ test → From low p
    → UpTo high p → is_some low ≡ true → is_some high ≡ true
    → has_both_ends (span_if test low high) ≡ true
both_chosen low high p true e from up some_low some_high =
    and_from (is_some low) (is_some high) some_low some_high
both_chosen low high p false e from up some_low some_high =
    absurd (false≢true (sym e ∙ order_from_point low high p from up))

-- the part of a bounded range that another one overlaps is bounded, and isn't never
pub part_bounded : (a b : Option Span) → has_both_ends a ≡ true → Overlap a b
    → has_both_ends (meet a b) ≡ true
part_bounded None b bounded overlap = absurd (false≢true bounded)
part_bounded (Some a) None bounded overlap = absurd overlap.2
part_bounded (Some a) (Some b) bounded overlap =
    let ends = and_parts (is_some a.low) (is_some a.high) bounded in
    let p = overlap.0 in
    both_chosen (later a.low b.low) (earlier a.high b.high) p _ refl
    ((From-later a.low b.low p).1 (overlap.1.0, overlap.2.0))
    ((UpTo-earlier a.high b.high p).1 (overlap.1.1, overlap.2.1)) (is_some_later a.low b.low ends.0)
    (is_some_earlier a.high b.high ends.1)

-- an end that is moved is there where it was before
is_some_moved : (end : Option ℤ) (by : ℤ)
    → is_some (option_map (λ q. q +ℤ instant by) end) ≡ is_some end
is_some_moved None by = refl
is_some_moved (Some a) by = refl

-- a range that is moved keeps its ends
pub moved_bounded : (range : Option Span) (by : ℤ) → has_both_ends range ≡ true
    → has_both_ends (moved by range) ≡ true
moved_bounded None by bounded = bounded
moved_bounded (Some s) by bounded = rw (is_some_moved s.low by, is_some_moved s.high by) bounded

-- ---- parts within the limit

-- the later of two low ends, moved, is within the limit where those of the second range are
low_stays : (a : Option ℤ) (low high p by : ℤ) → From (later a (Some low)) p → p ≤ℤ high
    → IsLow (low +ℤ instant by) → IsHigh (high +ℤ instant by)
    → IfSome (later a (Some low)) (λ x. IsLow (x +ℤ instant by))
low_stays None low high p by from up fine_low fine_high = fine_low
low_stays (Some a) low high p by from up fine_low fine_high = record {
  least = omega (arith, ints, clamps, fine_low.least);
  most = omega (arith, ints, clamps, fine_high.most);
}

-- and so is the earlier of two high ends
high_stays : (a : Option ℤ) (low high p by : ℤ) → UpTo (earlier a (Some high)) p → low ≤ℤ p
    → IsLow (low +ℤ instant by) → IsHigh (high +ℤ instant by)
    → IfSome (earlier a (Some high)) (λ x. IsHigh (x +ℤ instant by))
high_stays None low high p by up from fine_low fine_high = fine_high
high_stays (Some a) low high p by up from fine_low fine_high = record {
  least = omega (arith, ints, clamps, fine_low.least);
  most = omega (arith, ints, clamps, fine_high.most);
}

-- two ends that stay within the limit are those of a range that does
stays_chosen : (low high : Option ℤ) (by : ℤ) (test : Bool)
    → IfSome low (λ x. IsLow (x +ℤ instant by)) → IfSome high (λ x. IsHigh (x +ℤ instant by))
    → StaysWithin (span_if test low high) by
stays_chosen low high by true fine_low fine_high = (fine_low, fine_high)
stays_chosen low high by false fine_low fine_high = (tt, tt)

-- the part of a span by a bounded one
stays_by_ends : (a : Span) (low high : Option ℤ) (p by : ℤ) → is_some low ≡ true
    → is_some high ≡ true → Has (Some a) p → From low p → UpTo high p
    → IfSome low (λ x. IsLow (x +ℤ instant by)) → IfSome high (λ x. IsHigh (x +ℤ instant by))
    → StaysWithin (span_between (later a.low low) (earlier a.high high)) by
stays_by_ends a None high p by some some_high has from up fine_low fine_high =
    absurd (false≢true some)
stays_by_ends a (Some low) None p by some some_high has from up fine_low fine_high =
    absurd (false≢true some_high)
stays_by_ends a (Some low) (Some high) p by some some_high has from up fine_low fine_high =
    stays_chosen (later a.low (Some low)) (earlier a.high (Some high)) by _
    (low_stays a.low low high p by ((From-later a.low (Some low) p).1 (has.0, from)) up fine_low
    fine_high)
    (high_stays a.high low high p by ((UpTo-earlier a.high (Some high) p).1 (has.1, up)) from
    fine_low fine_high)

-- a part of a range that stays within the limit stays within it
pub part_stays : (a b : Option Span) (by : ℤ) → has_both_ends b ≡ true → StaysWithin b by
    → Overlap a b → StaysWithin (meet a b) by
part_stays None b by bounded within overlap = absurd overlap.1
part_stays (Some a) None by bounded within overlap = absurd overlap.2
part_stays (Some a) (Some b) by bounded within overlap =
    let ends = and_parts (is_some b.low) (is_some b.high) bounded in
    stays_by_ends a b.low b.high overlap.0 by ends.0 ends.1 overlap.1 overlap.2.0 overlap.2.1
    within.0 within.1
