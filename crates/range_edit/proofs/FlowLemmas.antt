-- The segments of a kept flow in a range, as they are read.
use Rattle.std.proofs.Common.{◌≡◌, ◌≢◌, ◌∙◌, ◌<◌, ◌≤◌, ◌↔◌, ℕ, ℤ, true, List, [], ◌∷◌, ◌++◌, length, take, filter, refl, sym, ap, arith, Option, Some, None, IsTrue, zero, suc}
use Rattle.std.specs.Prelude.{is_some, nat_lt}
use Rattle.std.proofs.lemmas.List.{length-append, length-take-le}
use Rattle.std.proofs.lemmas.Bool.Decides.{nat_tests}
use Rattle.time_range.specs.declared.ranges.Span.{Span}
use Rattle.media_rows.specs.Library.{Library}
use Rattle.media_rows.specs.Segments.{overlapping}
use Rattle.media_rows.specs.declared.segment.SegmentRow.{SegmentRow}
use Rattle.segment_pages.specs.Pages.{IsRead, left_behind, segments_behind}
use Rattle.segment_pages.specs.declared.reading.SegmentsRead.{SegmentsRead}

-- a test that all pass leaves a list whole
all_pass : {X : Type 0} (xs : List X) → filter (λ x. true) xs ≡ xs
all_pass [] = refl
all_pass (x ∷ xs) = ap (λ l. x ∷ l) (all_pass xs)

-- before the first page all segments are left
pub from_the_first : (library : Library) (flow : ℕ) (range : Option Span)
    → segments_behind library flow range None ≡ overlapping library.segments flow range None
from_the_first library flow range = all_pass (overlapping library.segments flow range None)

-- where a read gives nothing, there is nothing
none_behind : (library : Library) (flow : ℕ) (range : Option Span) (after : Option ℤ)
    (next : Option ℤ) (count : ℕ) (rows : List SegmentRow)
    → count ≡ 0 → (is_some next ≡ true → 1 ≤ count)
    → segments_behind library flow range after
    ≡ take count rows ++ left_behind library flow range next
    → segments_behind library flow range after ≡ []
none_behind library flow range after None count rows none some follows =
    follows ∙ ap (λ n. take n rows ++ []) none
none_behind library flow range after (Some k) count rows none some follows =
    absurd (let least = some refl in omega (arith, none))

-- where it gives something, there is something
some_behind : (library : Library) (flow : ℕ) (range : Option Span) (after : Option ℤ)
    (read : SegmentsRead) → IsRead library flow range after read → 0 < read.count
    → segments_behind library flow range after ≢ []
some_behind library flow range after read is some none =
    let left = left_behind library flow range read.next in
    let whole = sym (ap length is.follows) ∙ ap length none in
    let both = length-append (take read.count read.rows) left in
    let first = length-take-le read.count read.rows is.counted in
    omega (arith, whole, both, first)

-- the first read tells whether there is a segment
pub first_tells : (library : Library) (flow : ℕ) (range : Option Span) (read : SegmentsRead)
    → IsRead library flow range None read
    → IsTrue (nat_lt 0 read.count) ↔ (overlapping library.segments flow range None ≢ [])
first_tells library flow range read is = (
  λ test none. some_behind library flow range None read is (grind (arith, nat_tests))
      (from_the_first library flow range ∙ none),
  λ some. by_count read.count refl some,
)
  where
    by_count : (n : ℕ) → read.count ≡ n → overlapping library.segments flow range None ≢ []
        → IsTrue (nat_lt 0 read.count)
    by_count zero e some = absurd (some (sym (from_the_first library flow range)
        ∙ none_behind library flow range None read.next read.count read.rows e is.some is.follows))
    by_count (suc n) e some = grind (arith, nat_tests)
