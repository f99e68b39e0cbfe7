-- A list of segments with one more at some place, and what that does to their order by serial.
use Rattle.std.proofs.Common.{◌≡◌, ◌⊎◌, inl, inr, ℤ, ◌+◌, int_lt, int_eq, Bool, true, false, not, cond, List, [], ◌∷◌, ◌++◌, filter, length, refl, sym, ap, subst, ◌∙◌, arith, append_assoc, length-append}
use Rattle.std.specs.Prelude.{◌==◌}
use Rattle.std.specs.Cmp.{signed_Decides}
use Rattle.std.specs.List.{AllByRecursion, list_all, list_any}
use Rattle.std.proofs.lemmas.Bool.{and_parts}
use Rattle.std.proofs.lemmas.Bool.Decides.{nat_tests}
use Rattle.std.proofs.lemmas.Int.{ints}
use Rattle.media_rows.specs.declared.segment.SegmentRow.{SegmentRow}
use Rattle.media_rows.specs.Lists.{inserted, in_order, placed, rises}
use Rattle.media_rows.specs.Restoring.{by_serial}
use Rattle.media_rows.specs.Segments.{first_point, starts_before, without_segments}
use Rattle.media_rows.specs.Snapshot.{older}
use Rattle.shared_tree.proofs.Counted.{all_append}
use Rattle.shared_tree.proofs.Rising.{all_left, all_right, all_map, filter_all, filter_none}
use Rattle.library_laws.proofs.ListLemmas.{In, list_all-In}
use Rattle.library_laws.proofs.PageLemmas.{IsOrder, starts_in_order}
use Rattle.segment_index.specs.Answers.{begins_before, without_start}
use Rattle.segment_book.specs.Within.Flows.{AreOthers, IsOther}
use Rattle.segment_book.proofs.Ordered.{Comparable, put_last}
use Rattle.segment_book.proofs.Serials.{older_compares, other_turned, serials_in_order, starts_one_way}

-- a list has one segment more than another one
pub record Gains (x : SegmentRow) (old new : List SegmentRow) : Type 0 where
  pub front : List SegmentRow
  pub back : List SegmentRow
  pub was : old ≡ front ++ back
  pub is : new ≡ front ++ x ∷ back

amid : (a f b z : List SegmentRow) → a ++ ((f ++ b) ++ z) ≡ (a ++ f) ++ (b ++ z)
amid a f b z = ap (λ l. a ++ l) (append_assoc f b z) ∙ sym (append_assoc a f (b ++ z))

-- so have longer lists around them
pub gains_within : (x : SegmentRow) (old new before behind : List SegmentRow) → Gains x old new
    → Gains x (before ++ (old ++ behind)) (before ++ (new ++ behind))
gains_within x old new before behind g = record {
  front = before ++ g.front;
  back = g.back ++ behind;
  was = ap (λ l. before ++ (l ++ behind)) g.was ∙ amid before g.front g.back behind;
  is = ap (λ l. before ++ (l ++ behind)) g.is ∙ amid before g.front (x ∷ g.back) behind;
}

pub gains_same : (x : SegmentRow) (old new older_list newer_list : List SegmentRow) → old ≡ older_list → new ≡ newer_list → Gains x older_list newer_list
    → Gains x old new
gains_same x old new o n eo en g = record { front = g.front; back = g.back; was = eo ∙ g.was; is = en ∙ g.is }

-- one more in number
pub gains_length : (x : SegmentRow) (old new : List SegmentRow) → Gains x old new → length new ≡ length old + 1
gains_length x old new g =
    rw (g.was, g.is, length-append g.front g.back, length-append g.front (x ∷ g.back)) (omega arith)

-- by serial, it is put in at its place
pub gains_order : (x : SegmentRow) (old new : List SegmentRow) → Gains x old new → IsOther x old
    → by_serial (λ row. row.serial) new ≡ inserted older x (by_serial (λ row. row.serial) old)
gains_order x old new g others =
    let ahead = all_left (λ other. (x.serial == other.serial) ≡ false) g.front g.back (subst (IsOther x) g.was others) in
    ap (in_order older) g.is
    ∙ put_last older serials_in_order g.front x g.back
    (all_map (λ other. (x.serial == other.serial) ≡ false) (Comparable older x) (λ other e. older_compares x other e) g.front ahead)
    ∙ ap (λ l. inserted older x (in_order older l)) (sym g.was)

-- ---- serials of their own

others_more : (front : List SegmentRow) (x : SegmentRow) (back : List SegmentRow) → AreOthers (front ++ back) → IsOther x (front ++ back)
    → AreOthers (front ++ x ∷ back)
others_more [] x back others other = (other, others)
others_more (y ∷ front) x back others other =
    let P : SegmentRow → Type 0 = λ z. (y.serial == z.serial) ≡ false in (
      all_append P front (x ∷ back) (all_left P front back others.0) (other_turned x.serial y.serial other.0, all_right P front back others.0),
      others_more front x back others.1 other.1,
    )

others_less : (front : List SegmentRow) (x : SegmentRow) (back : List SegmentRow) → AreOthers (front ++ x ∷ back)
    → AreOthers (front ++ back) × IsOther x (front ++ back)
others_less [] x back others = (others.1, others.0)
others_less (y ∷ front) x back others =
    let P : SegmentRow → Type 0 = λ z. (y.serial == z.serial) ≡ false in
    let rest = others_less front x back others.1 in
    let behind = all_right P front (x ∷ back) others.0 in
    ((all_append P front back (all_left P front (x ∷ back) others.0) behind.1, rest.0), (other_turned y.serial x.serial behind.0, rest.1))

pub gains_others : (x : SegmentRow) (old new : List SegmentRow) → Gains x old new → AreOthers old → IsOther x old → AreOthers new
gains_others x old new g others other =
    subst AreOthers (sym g.is) (others_more g.front x g.back (subst AreOthers g.was others) (subst (IsOther x) g.was other))

pub loses_others : (x : SegmentRow) (old new : List SegmentRow) → Gains x old new → AreOthers new → AreOthers old × IsOther x old
loses_others x old new g others =
    let both = others_less g.front x g.back (subst AreOthers g.is others) in
    (subst AreOthers (sym g.was) both.0, subst (IsOther x) (sym g.was) both.1)

-- ---- a segment at its place by first point

-- of an order, where each compares with an item
module _ (t : SegmentRow → SegmentRow → Bool) (is : IsOrder t) where
  passes : (x y z : SegmentRow) → t x y ≡ true → t y z ≡ true → (t x z ≡ true) × (t z x ≡ false)
  passes x y z xy yz = by (t x z) refl
    where
      by : (b : Bool) → t x z ≡ b → (t x z ≡ true) × (t z x ≡ false)
      by true e = (e, is.one_way x z e)
      by false e = absurd (let fails = is.passes_on z x y e (is.one_way x y xy) in grind (arith, fails, yz))

  pub split_at : (x : SegmentRow) (ys : List SegmentRow) → rises t ys ≡ true → AllByRecursion (λ y. (t x y ≡ true) ⊎ (t y x ≡ true)) ys
      → filter (λ y. t y x) ys ++ filter (λ y. t x y) ys ≡ ys
  split_at x [] rise all = refl
  split_at x (y ∷ ys) rise all =
      let parts = and_parts (list_all (t y) ys) (rises t ys) rise in
      elim all.0 [
        | inl xy ↦ rw (is.one_way x y xy, xy, filter_none (λ z. t z x) ys (behind_not ys xy parts.0), filter_all (λ z. t x z) ys (behind ys xy parts.0)) refl
        | inr yx ↦ rw (yx, is.one_way y x yx) (ap (λ l. y ∷ l) (split_at x ys parts.1 all.1))
      ]
    where
      behind : (zs : List SegmentRow) → t x y ≡ true → list_all (t y) zs ≡ true → AllByRecursion (λ z. t x z ≡ true) zs
      behind [] xy e = tt
      behind (z ∷ zs) xy e = let parts = and_parts (t y z) (list_all (t y) zs) e in ((passes x y z xy parts.0).0, behind zs xy parts.1)

      behind_not : (zs : List SegmentRow) → t x y ≡ true → list_all (t y) zs ≡ true → AllByRecursion (λ z. t z x ≡ false) zs
      behind_not [] xy e = tt
      behind_not (z ∷ zs) xy e = let parts = and_parts (t y z) (list_all (t y) zs) e in ((passes x y z xy parts.0).1, behind_not zs xy parts.1)

pub placed_gains : (x : SegmentRow) (rows : List SegmentRow) → rises starts_before rows ≡ true → IsOther x rows → Gains x rows (placed starts_before x rows)
placed_gains x rows rise other = record {
  front = filter (λ y. starts_before y x) rows;
  back = filter (λ y. starts_before x y) rows;
  was = sym (split_at starts_before starts_in_order x rows rise
      (all_map (λ y. (x.serial == y.serial) ≡ false) (λ y. (starts_before x y ≡ true) ⊎ (starts_before y x ≡ true)) (λ y e. starts_one_way x y e) rows other));
  is = refl;
}

-- ---- a segment left out by its first point

-- a point that comes behind another isn't it
apart : (x y : ℤ) → int_lt x y ≡ true → int_eq y x ≡ false
apart x y lt = grind (arith, ints)

apart_turned : (x y : ℤ) → int_lt x y ≡ true → int_eq x y ≡ false
apart_turned x y lt = grind (arith, ints)

-- the first one left out
first_gains : (y : SegmentRow) (ys : List SegmentRow) → rises begins_before (y ∷ ys) ≡ true → Gains y (without_start (first_point y) (y ∷ ys)) (y ∷ ys)
first_gains y ys rise =
    let parts = and_parts (list_all (begins_before y) ys) (rises begins_before ys) rise in
    let itself : int_eq (first_point y) (first_point y) ≡ true = (let d = signed_Decides (first_point y) (first_point y) in d.1 refl) in
    record {
      front = [];
      back = ys;
      was = by (int_eq (first_point y) (first_point y)) itself (filter_all (λ row. not (int_eq (first_point row) (first_point y))) ys (later ys parts.0));
      is = refl;
    }
  where
    by : (b : Bool) → b ≡ true → filter (λ row. not (int_eq (first_point row) (first_point y))) ys ≡ ys
        → cond (not b) (y ∷ filter (λ row. not (int_eq (first_point row) (first_point y))) ys)
        (filter (λ row. not (int_eq (first_point row) (first_point y))) ys) ≡ ys
    by true e rest = rest
    by false e rest = absurd (grind (arith, e))

    later : (zs : List SegmentRow) → list_all (begins_before y) zs ≡ true → AllByRecursion (λ row. not (int_eq (first_point row) (first_point y)) ≡ true) zs
    later [] e = tt
    later (z ∷ zs) e =
        let parts = and_parts (begins_before y z) (list_all (begins_before y) zs) e in
        let other : int_eq (first_point z) (first_point y) ≡ false = apart (first_point y) (first_point z) parts.0 in
        (ap not other, later zs parts.1)

-- it is one less, where first points rise
pub start_gains : (x : SegmentRow) (rows : List SegmentRow) → rises begins_before rows ≡ true → In x rows
    → Gains x (without_start (first_point x) rows) rows
start_gains x [] rise here = absurd here
start_gains x (y ∷ ys) rise (inl same) =
    subst (λ z. Gains z (without_start (first_point z) (y ∷ ys)) (y ∷ ys)) (sym same) (first_gains y ys rise)
start_gains x (y ∷ ys) rise (inr there) =
    let parts = and_parts (list_all (begins_before y) ys) (rises begins_before ys) rise in
    let before = list_all-In (begins_before y) ys parts.0 x there in
    let rest = start_gains x ys parts.1 there in
    record {
      front = y ∷ rest.front;
      back = rest.back;
      was = by (int_eq (first_point y) (first_point x)) (apart_turned (first_point y) (first_point x) before) rest.front rest.back rest.was;
      is = ap (λ l. y ∷ l) rest.is;
    }
  where
    by : (b : Bool) → b ≡ false → (front back : List SegmentRow) → filter (λ row. not (int_eq (first_point row) (first_point x))) ys ≡ front ++ back
        → cond (not b) (y ∷ filter (λ row. not (int_eq (first_point row) (first_point x))) ys)
        (filter (λ row. not (int_eq (first_point row) (first_point x))) ys) ≡ y ∷ (front ++ back)
    by false e front back rest = ap (λ l. y ∷ l) rest
    by true e front back rest = absurd (grind (arith, e))

-- ---- a segment taken out of the order by serial

-- those without a segment's serial, where it was put in among others
pub put_left_out : (x : SegmentRow) (rows : List SegmentRow) → IsOther x rows → without_segments (x ∷ []) (inserted older x rows) ≡ rows
put_left_out x rows other = kept_put rows ∙ filter_all test rows (each rows other)
  where
    test : SegmentRow → Bool
    test row = not (list_any (λ gone. gone.serial == row.serial) (x ∷ []))

    itself : test x ≡ false
    itself = let same : (x.serial == x.serial) ≡ true = grind (arith, nat_tests) in rw same refl

    each : (ys : List SegmentRow) → IsOther x ys → AllByRecursion (λ row. test row ≡ true) ys
    each [] o = tt
    each (y ∷ ys) o = (rw o.0 refl, each ys o.1)

    kept_put : (ys : List SegmentRow) → filter test (inserted older x ys) ≡ filter test ys
    kept_put [] = rw itself refl
    kept_put (y ∷ ys) = by (older y x) (kept_put ys)
      where
        by : (b : Bool) → filter test (inserted older x ys) ≡ filter test ys
            → filter test (cond b (y ∷ inserted older x ys) (x ∷ y ∷ ys)) ≡ filter test (y ∷ ys)
        by true rest = ap (λ l. cond (test y) (y ∷ l) l) rest
        by false rest = rw itself refl
