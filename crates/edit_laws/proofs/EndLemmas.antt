-- Tests on the ends of ranges, by points, with no condition on the ends themselves.
use Rattle.std.proofs.Common.{◌≡◌, ◌↔◌, ◌⊎◌, inl, inr, ℤ, ◌+ℤ◌, ◌-ℤ◌, ◌≤ℤ◌, Bool, true, false, cond, Option, Some, None, refl, sym, ap, subst, ◌∙◌, arith}
use Rattle.std.specs.Prelude.{int_le, is_some, option_map}
use Rattle.std.specs.Int.{int_max}
use Rattle.std.proofs.lemmas.Bool.{and_from, and_parts, false≢true}
use Rattle.std.proofs.lemmas.Int.{ints, clamps}
use Rattle.time_range.specs.Ends.{are_ordered, span_between}
use Rattle.time_range.specs.Points.{From, Has, Overlap, UpTo, instant}
use Rattle.time_range.specs.declared.ranges.Span.{Span}
use Rattle.time_range.proofs.EndTests.{int_le-order, order-int_le, order_from_point}
use Rattle.media_rows.specs.Ranges.{covers, has_both_ends, overlaps, reaches_down, reaches_up}
use Rattle.segment_pieces.specs.Pieces.{earlier, later, meet, moved}
use Rattle.edit_laws.specs.Showing.{just}

-- ---- one point

-- a low end that reaches down to a point has it behind it
From-test : (low : Option ℤ) (p : ℤ) → reaches_down low (Some p) ≡ true → From low p
From-test None p e = tt
From-test (Some a) p e = int_le-order a p e

-- and the other way
test-From : (low : Option ℤ) (p : ℤ) → From low p → reaches_down low (Some p) ≡ true
test-From None p h = refl
test-From (Some a) p h = order-int_le a p h

-- a high end that reaches up to a point has it before it
UpTo-test : (high : Option ℤ) (p : ℤ) → reaches_up high (Some p) ≡ true → UpTo high p
UpTo-test None p e = tt
UpTo-test (Some b) p e = int_le-order p b e

-- and the other way
test-UpTo : (high : Option ℤ) (p : ℤ) → UpTo high p → reaches_up high (Some p) ≡ true
test-UpTo None p h = refl
test-UpTo (Some b) p h = order-int_le p b h

-- a range that covers a point has it
pub covers_has : (range : Option Span) (p : ℤ) → covers range (just p) ≡ true → Has range p
covers_has None p e = absurd (false≢true e)
covers_has (Some s) p e =
    let parts = and_parts (reaches_down s.low (Some p)) (reaches_up s.high (Some p)) e in
    (From-test s.low p parts.0, UpTo-test s.high p parts.1)

-- and one that has it covers it
pub has_covers : (range : Option Span) (p : ℤ) → Has range p → covers range (just p) ≡ true
has_covers None p h = absurd h
has_covers (Some s) p h =
    and_from (reaches_down s.low (Some p)) (reaches_up s.high (Some p)) (test-From s.low p h.0)
    (test-UpTo s.high p h.1)

-- ranges with a point in common pass the test
pub both_overlap : (a b : Option Span) (p : ℤ) → Has a p → Has b p → overlaps a b ≡ true
both_overlap None b p h k = absurd h
both_overlap (Some a) None p h k = absurd k
both_overlap (Some a) (Some b) p h k =
    and_from (are_ordered a.low b.high) (are_ordered b.low a.high)
    (order_from_point a.low b.high p h.0 k.1)
    (order_from_point b.low a.high p k.0 h.1)

-- ---- moved ranges

-- a point is from a moved end on where it was from the end on before
From-moved : (low : Option ℤ) (by p : ℤ)
    → From (option_map (λ q. q +ℤ instant by) low) p ↔ From low (p -ℤ instant by)
From-moved None by p = (λ h. h, λ h. h)
From-moved (Some a) by p = (λ h. omega (arith, ints), λ h. omega (arith, ints))

-- and up to a moved end where it was up to the end before
UpTo-moved : (high : Option ℤ) (by p : ℤ)
    → UpTo (option_map (λ q. q +ℤ instant by) high) p ↔ UpTo high (p -ℤ instant by)
UpTo-moved None by p = (λ h. h, λ h. h)
UpTo-moved (Some b) by p = (λ h. omega (arith, ints), λ h. omega (arith, ints))

-- a point is in a moved range where it was in the range before
pub Has-moved : (range : Option Span) (by p : ℤ)
    → Has (moved by range) p ↔ Has range (p -ℤ instant by)
Has-moved None by p = (λ h. h, λ h. h)
Has-moved (Some s) by p =
    let from = From-moved s.low by p in
    let up = UpTo-moved s.high by p in
    (λ h. (from.0 h.0, up.0 h.1), λ h. (from.1 h.0, up.1 h.1))

-- ---- closed ranges

-- the range from one point to another
abbrev pub closed : ℤ → ℤ → Option Span
closed first last = Some (record { low = Some first; high = Some last })

-- a range has two ends, in order
pub record IsClosed (range : Option Span) : Type 0 where
  pub first : ℤ
  pub last : ℤ
  pub is : range ≡ closed first last
  pub ordered : first ≤ℤ last

-- a range is never, or closed
abbrev pub IsClosedIf : Option Span → Type 0
IsClosedIf range = (range ≡ None) ⊎ IsClosed range

-- closed ranges that pass the test have a point in common
closed_overlap : (a b c d : ℤ) → a ≤ℤ b → c ≤ℤ d → overlaps (closed a b) (closed c d) ≡ true
    → Overlap (closed a b) (closed c d)
closed_overlap a b c d one two e =
    let parts = and_parts (int_le a d) (int_le c b) e in
    let across = int_le-order a d parts.0 in
    let back = int_le-order c b parts.1 in (
      int_max a c,
      (omega (arith, ints, clamps), omega (arith, ints, clamps)),
      (omega (arith, ints, clamps), omega (arith, ints, clamps)),
    )

-- and so have ranges that may be never
pub overlap_point : (x y : Option Span) → IsClosedIf x → IsClosedIf y → overlaps x y ≡ true
    → Overlap x y
overlap_point x y (inl none) other e =
    absurd (false≢true (sym (ap (λ r. overlaps r y) none) ∙ e))
overlap_point x y (inr one) (inl none) e =
    absurd (false≢true (sym (ap (λ r. overlaps r y) one.is
    ∙ ap (λ r. overlaps (closed one.first one.last) r) none) ∙ e))
overlap_point x y (inr one) (inr two) e =
    subst (λ r. Overlap r y) (sym one.is)
    (subst (λ r. Overlap (closed one.first one.last) r) (sym two.is)
    (closed_overlap one.first one.last two.first two.last one.ordered two.ordered
    (sym (ap (λ r. overlaps r y) one.is ∙ ap (λ r. overlaps (closed one.first one.last) r) two.is)
    ∙ e)))

-- ends in order stay so with a later high end
ordered_up : (low : Option ℤ) (b : ℤ) (high : Option ℤ) → are_ordered low (Some b) ≡ true
    → UpTo high b → are_ordered low high ≡ true
ordered_up None b high e h = refl
ordered_up (Some a) b None e h = refl
ordered_up (Some a) b (Some c) e h =
    let low = int_le-order a b e in order-int_le a c (omega (arith, ints))

-- and with an earlier low end
ordered_down : (low : Option ℤ) (a : ℤ) (high : Option ℤ) → From low a
    → are_ordered (Some a) high ≡ true → are_ordered low high ≡ true
ordered_down None a high h e = refl
ordered_down (Some c) a None h e = refl
ordered_down (Some c) a (Some b) h e =
    let high = int_le-order a b e in order-int_le c b (omega (arith, ints))

-- what overlaps a range overlaps each one that has its ends
overlaps_ends : (s outer : Option Span) (a b : ℤ) → overlaps s (closed a b) ≡ true → Has outer a
    → Has outer b → overlaps s outer ≡ true
overlaps_ends None outer a b e h k = absurd (false≢true e)
overlaps_ends (Some s) None a b e h k = absurd h
overlaps_ends (Some s) (Some t) a b e h k =
    let parts = and_parts (are_ordered s.low (Some b)) (are_ordered (Some a) s.high) e in
    and_from (are_ordered s.low t.high) (are_ordered t.low s.high)
    (ordered_up s.low b t.high parts.0 k.1)
    (ordered_down t.low a s.high h.0 parts.1)

-- nothing overlaps never
never_overlaps : (s : Option Span) → overlaps s None ≡ true → ⊥
never_overlaps None e = false≢true e
never_overlaps (Some s) e = false≢true e

-- the same of a range that may be never, all of whose points are in the other
pub overlaps_outer : (s inner outer : Option Span) → IsClosedIf inner
    → ((p : ℤ) → Has inner p → Has outer p) → overlaps s inner ≡ true → overlaps s outer ≡ true
overlaps_outer s inner outer (inl none) points e =
    absurd (never_overlaps s (sym (ap (overlaps s) none) ∙ e))
overlaps_outer s inner outer (inr one) points e =
    let has : (p : ℤ) → Has (closed one.first one.last) p → Has outer p =
    λ p h. points p (subst (λ r. Has r p) (sym one.is) h) in
    let ordered = one.ordered in
    overlaps_ends s outer one.first one.last (sym (ap (overlaps s) one.is) ∙ e)
    (has one.first (omega (arith, ints), omega (arith, ints)))
    (has one.last (omega (arith, ints), omega (arith, ints)))

-- ---- the range of a piece

-- two ends, moved, are those of a closed range where they are in order
closed_if : (x y by : ℤ) (test : Bool) → int_le x y ≡ test
    → IsClosedIf (moved by (cond test (closed x y) None))
closed_if x y by true e =
    let order = int_le-order x y e in
    inr (record {
      first = x +ℤ instant by;
      last = y +ℤ instant by;
      is = refl;
      ordered = omega (arith, ints);
    })
closed_if x y by false e = inl refl

-- the same of ends that may be open
closed_between : (low high : Option ℤ) (by : ℤ) → is_some low ≡ true → is_some high ≡ true
    → IsClosedIf (moved by (span_between low high))
closed_between None high by some_low some_high = absurd (false≢true some_low)
closed_between (Some x) None by some_low some_high = absurd (false≢true some_high)
closed_between (Some x) (Some y) by some_low some_high = closed_if x y by (int_le x y) refl

-- the later of two low ends is there where the first is
is_some_later : (a b : Option ℤ) → is_some a ≡ true → is_some (later a b) ≡ true
is_some_later None b some = absurd (false≢true some)
is_some_later (Some a) None some = refl
is_some_later (Some a) (Some b) some = refl

-- and so is the earlier of two high ends
is_some_earlier : (a b : Option ℤ) → is_some a ≡ true → is_some (earlier a b) ≡ true
is_some_earlier None b some = absurd (false≢true some)
is_some_earlier (Some a) None some = refl
is_some_earlier (Some a) (Some b) some = refl

-- the part that a clip has of a bounded range, moved, is never or closed
pub part_is_closed : (a b : Option Span) (by : ℤ) → has_both_ends a ≡ true
    → IsClosedIf (moved by (meet a b))
part_is_closed None b by bounded = absurd (false≢true bounded)
part_is_closed (Some a) None by bounded = inl refl
part_is_closed (Some a) (Some b) by bounded =
    let ends = and_parts (is_some a.low) (is_some a.high) bounded in
    closed_between (later a.low b.low) (earlier a.high b.high) by
    (is_some_later a.low b.low ends.0)
    (is_some_earlier a.high b.high ends.1)
