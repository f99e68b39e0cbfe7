-- Segments by their serials, and by first points: two whose serials differ compare in both orders.
use Rattle.std.proofs.Common.{◌≡◌, ◌⊎◌, inl, inr, ℕ, ℤ, pos, int_lt, Bool, true, false, not, ◌&&◌, ◌||◌, List, [], ◌∷◌, Option, Some, None, nat_lt, refl, arith}
use Rattle.std.specs.Prelude.{◌==◌, unwrap_or}
use Rattle.std.specs.List.{list_all}
use Rattle.std.proofs.lemmas.Bool.{and_parts, and_from}
use Rattle.std.proofs.lemmas.Bool.Decides.{nat_tests}
use Rattle.time_range.specs.declared.ranges.Span.{Span}
use Rattle.time_range.specs.Points.{low_of}
use Rattle.media_rows.specs.declared.segment.SegmentRow.{SegmentRow}
use Rattle.media_rows.specs.Lists.{rises}
use Rattle.media_rows.specs.Ranges.{has_both_ends, overlaps}
use Rattle.media_rows.specs.Segments.{low_before, starts_before}
use Rattle.media_rows.specs.Snapshot.{older}
use Rattle.shared_tree.proofs.Rising.{all_map}
use Rattle.segment_index.specs.Answers.{begins_before, is_bounded}
use Rattle.library_laws.proofs.PageLemmas.{IsOrder}
use Rattle.segment_book.specs.Within.Flows.{AreOthers, has_ends}
use Rattle.segment_book.proofs.Ordered.{Comparable, EachComparable}

pub serials_in_order : IsOrder older
serials_in_order = record {
  one_way = λ a b e. grind (arith, nat_tests);
  passes_on = λ a b c e k. grind (arith, nat_tests);
}

pub other_turned : (a b : ℕ) → (a == b) ≡ false → (b == a) ≡ false
other_turned a b e = grind (arith, nat_tests)

-- one of two whose serials differ is older
pub older_compares : (a b : SegmentRow) → (a.serial == b.serial) ≡ false → Comparable older a b
older_compares a b e = by (nat_lt a.serial b.serial) (nat_lt b.serial a.serial) refl refl
  where
    by : (p q : Bool) → nat_lt a.serial b.serial ≡ p → nat_lt b.serial a.serial ≡ q → Comparable older a b
    by true q ep eq = inl ep
    by false true ep eq = inr (inl eq)
    by false false ep eq = absurd (grind (arith, nat_tests))

-- and one begins first, or is older where they begin at one point
starts_by : (a b : Option ℤ) (s t : ℕ) → (s == t) ≡ false → (low_before a b || (not (low_before b a) && nat_lt s t)) ≡ false
    → (low_before b a || (not (low_before a b) && nat_lt t s)) ≡ true
starts_by None None s t apart e = grind (arith, nat_tests)
starts_by None (Some b) s t apart e = absurd (grind (arith, e))
starts_by (Some a) None s t apart e = refl
starts_by (Some a) (Some b) s t apart e = by (int_lt a b) (int_lt b a) (nat_lt s t) (nat_lt t s) refl refl refl refl e
  where
    by : (p q u v : Bool) → int_lt a b ≡ p → int_lt b a ≡ q → nat_lt s t ≡ u → nat_lt t s ≡ v → (p || (not q && u)) ≡ false → (q || (not p && v)) ≡ true
    by true q u v ep eq eu ev held = absurd (grind (arith, held))
    by false true u v ep eq eu ev held = refl
    by false false true v ep eq eu ev held = absurd (grind (arith, held))
    by false false false true ep eq eu ev held = refl
    by false false false false ep eq eu ev held = absurd (grind (arith, nat_tests))

pub starts_one_way : (a b : SegmentRow) → (a.serial == b.serial) ≡ false → (starts_before a b ≡ true) ⊎ (starts_before b a ≡ true)
starts_one_way a b apart = by (starts_before a b) refl
  where
    by : (p : Bool) → starts_before a b ≡ p → (starts_before a b ≡ true) ⊎ (starts_before b a ≡ true)
    by true e = inl e
    by false e = inr (starts_by (low_of a.segment.range) (low_of b.segment.range) a.serial b.serial apart e)

pub starts_compare : (a b : SegmentRow) → (a.serial == b.serial) ≡ false → Comparable starts_before a b
starts_compare a b apart = elim (starts_one_way a b apart) [ inl e ↦ inl e | inr e ↦ inr (inl e) ]

pub each_compares : (t : SegmentRow → SegmentRow → Bool) → ((a b : SegmentRow) → (a.serial == b.serial) ≡ false → Comparable t a b) → (rows : List SegmentRow)
    → AreOthers rows → EachComparable t rows
each_compares t compares [] others = tt
each_compares t compares (row ∷ rows) others = (
  all_map (λ other. (row.serial == other.serial) ≡ false) (Comparable t row) (λ other e. compares row other e) rows others.0,
  each_compares t compares rows others.1,
)

-- ---- bounded segments that begin one after the other

begins_starts : (a b : Option Span) (s t : ℕ) → has_both_ends a ≡ true → has_both_ends b ≡ true
    → int_lt (unwrap_or (low_of a) (pos 0)) (unwrap_or (low_of b) (pos 0)) ≡ true
    → (low_before (low_of a) (low_of b) || (not (low_before (low_of b) (low_of a)) && nat_lt s t)) ≡ true
begins_starts None b s t ea eb e = absurd (grind (arith, ea))
begins_starts (Some a) None s t ea eb e = absurd (grind (arith, eb))
begins_starts (Some a) (Some b) s t ea eb e = by a.low b.low refl refl
  where
    by : (x y : Option ℤ) → a.low ≡ x → b.low ≡ y
        → (low_before a.low b.low || (not (low_before b.low a.low) && nat_lt s t)) ≡ true
    by None y ex ey = absurd (grind (arith, rw ex at ea))
    by (Some x) None ex ey = absurd (grind (arith, rw ey at eb))
    by (Some x) (Some y) ex ey = let lt : int_lt x y ≡ true = (rw (ex, ey) at e) in rw (ex, ey, lt) refl

pub starts_follow : (rows : List SegmentRow) → list_all has_ends rows ≡ true → rises begins_before rows ≡ true → rises starts_before rows ≡ true
starts_follow [] bounded rise = refl
starts_follow (row ∷ rows) bounded rise =
    let ends = and_parts (has_ends row) (list_all has_ends rows) bounded in
    let parts = and_parts (list_all (begins_before row) rows) (rises begins_before rows) rise in
    and_from (list_all (starts_before row) rows) (rises starts_before rows) (later rows ends.1 parts.0) (starts_follow rows ends.1 parts.1)
  where
    first : has_ends row ≡ true
    first = (and_parts (has_ends row) (list_all has_ends rows) bounded).0

    later : (others : List SegmentRow) → list_all has_ends others ≡ true → list_all (begins_before row) others ≡ true
        → list_all (starts_before row) others ≡ true
    later [] b e = refl
    later (other ∷ others) b e =
        let ends = and_parts (has_ends other) (list_all has_ends others) b in
        let parts = and_parts (begins_before row other) (list_all (begins_before row) others) e in
        and_from (starts_before row other) (list_all (starts_before row) others)
        (begins_starts row.segment.range other.segment.range row.serial other.serial first ends.0 parts.0) (later others ends.1 parts.1)

-- the law of an index, of the ends alone
pub ends_told : (rows : List SegmentRow) → list_all is_bounded rows ≡ true → list_all has_ends rows ≡ true
ends_told [] e = refl
ends_told (row ∷ rows) e =
    let parts = and_parts (is_bounded row) (list_all is_bounded rows) e in
    let ends = and_parts (has_ends row) (overlaps row.segment.range row.segment.range) parts.0 in
    and_from (has_ends row) (list_all has_ends rows) ends.0 (ends_told rows parts.1)
