-- The segments on which a request works, among those of one flow by rising first point.
use Rattle.std.proofs.Common.{◌≡◌, ℕ, zero, suc, ◌<◌, ◌==◌, ℤ, int_le, int_lt, nat_lt, pos, Bool, true, false, not, ◌&&◌, ◌||◌, cond, List, [], ◌∷◌, Option, Some, None, is_some, filter, map, take, drop, length, unwrap_or, refl, sym, ap, subst, ◌∙◌, arith}
use Rattle.std.specs.List.{AllByRecursion, list_all, list_any, slice_get}
use Rattle.std.proofs.lemmas.Int.{ints}
use Rattle.time_range.specs.declared.ranges.Span.{Span}
use Rattle.time_range.specs.Ends.{are_ordered}
use Rattle.time_range.specs.Points.{low_of}
use Rattle.media_rows.specs.declared.request.DeleteRow.{DeleteRow}
use Rattle.media_rows.specs.declared.segment.SegmentRow.{SegmentRow}
use Rattle.media_rows.specs.Lists.{are_distinct, in_order, inserted, is_past, page_items, rises}
use Rattle.media_rows.specs.Ranges.{covers, has_both_ends, overlaps, reaches_down, reaches_up}
use Rattle.media_rows.specs.Requests.{requested}
use Rattle.media_rows.specs.Segments.{first_point, segments_of, starts_before, without_segments}
use Rattle.shared_tree.proofs.Counted.{all_kept, each_passes}
use Rattle.shared_tree.proofs.Rising.{all_map, filter_all}
use Rattle.id_index.proofs.Pairs.{filter_swap, filter_within}
use Rattle.segment_index.specs.Answers.{begins_before, is_bounded, met}
use Rattle.delete_work.specs.Within.Seeking.{ahead, is_wanted_by}
use Rattle.delete_work.proofs.Lists.{agreed, always, both, each_is, filter_inner, filter_twice, not_true, number_same, parts, some_same}

abbrev pub Segments : Type 0
Segments = List SegmentRow

-- ---- order

-- each begins before all later ones
abbrev pub Starts : Segments → Type 0
Starts [] = Unit {0}
Starts (x ∷ xs) = AllByRecursion (λ y. begins_before x y ≡ true) xs × Starts xs

pub starts : (xs : Segments) → rises begins_before xs ≡ true → Starts xs
starts [] e = tt
starts (x ∷ xs) e = let p = parts (list_all (begins_before x) xs) (rises begins_before xs) e in (each_is (begins_before x) xs p.0, starts xs p.1)

pub starts_kept : (test : SegmentRow → Bool) (xs : Segments) → Starts xs → Starts (filter test xs)
starts_kept test [] h = tt
starts_kept test (x ∷ xs) h = by (test x) (starts_kept test xs h.1)
  where
    by : (t : Bool) → Starts (filter test xs) → Starts (cond t (x ∷ filter test xs) (filter test xs))
    by true rest = (all_kept _ test xs h.0, rest)
    by false rest = rest

-- each is bounded
abbrev pub AreBounded : Segments → Type 0
AreBounded xs = AllByRecursion (λ x. is_bounded x ≡ true) xs

-- no two have one serial
abbrev pub Distinct : Segments → Type 0
Distinct [] = Unit {0}
Distinct (x ∷ xs) = AllByRecursion (λ y. (x.serial == y.serial) ≡ false) xs × Distinct xs

each_differs : (n : ℕ) (xs : Segments) → list_all (λ other. not (n == other)) (map (λ row. row.serial) xs) ≡ true
    → AllByRecursion (λ y. (n == y.serial) ≡ false) xs
each_differs n [] e = tt
each_differs n (x ∷ xs) e =
    let p = parts (not (n == x.serial)) (list_all (λ other. not (n == other)) (map (λ row. row.serial) xs)) e in
    (not_true (n == x.serial) p.0, each_differs n xs p.1)

pub distinct : (xs : Segments) → are_distinct (map (λ row. row.serial) xs) ≡ true → Distinct xs
distinct [] e = tt
distinct (x ∷ xs) e =
    let p = parts (list_all (λ other. not (x.serial == other)) (map (λ row. row.serial) xs)) (are_distinct (map (λ row. row.serial) xs)) e in
    (each_differs x.serial xs p.0, distinct xs p.1)

pub distinct_kept : (test : SegmentRow → Bool) (xs : Segments) → Distinct xs → Distinct (filter test xs)
distinct_kept test [] h = tt
distinct_kept test (x ∷ xs) h = by (test x) (distinct_kept test xs h.1)
  where
    by : (t : Bool) → Distinct (filter test xs) → Distinct (cond t (x ∷ filter test xs) (filter test xs))
    by true rest = (all_kept _ test xs h.0, rest)
    by false rest = rest

-- a bounded segment has a low end
low_there : (x : SegmentRow) → is_bounded x ≡ true → low_of x.segment.range ≡ Some (first_point x)
low_there x e = by x.segment.range e
  where
    low_is : (low : Option ℤ) → is_some low ≡ true → low ≡ Some (unwrap_or low (pos 0))
    low_is None f = absurd (grind (arith, f))
    low_is (Some a) f = refl

    by : (range : Option Span) → (has_both_ends range && overlaps range range) ≡ true → low_of range ≡ Some (unwrap_or (low_of range) (pos 0))
    by None f = absurd (grind (arith, f))
    by (Some s) f = low_is s.low (parts (is_some s.low) (is_some s.high) (parts (has_both_ends (Some s)) (overlaps (Some s) (Some s)) f).0).0

-- one that begins before another doesn't stand behind it
not_behind : (x y : SegmentRow) → is_bounded x ≡ true → is_bounded y ≡ true → begins_before x y ≡ true → starts_before y x ≡ false
not_behind x y bx by_ e = rw (low_there x bx, low_there y by_) (by (first_point x) (first_point y) e)
  where
    by : (a b : ℤ) → int_lt a b ≡ true → (int_lt b a || (not (int_lt a b) && nat_lt y.serial x.serial)) ≡ false
    by a b f = rw f (turned (int_lt b a) refl)
      where
        turned : (t : Bool) → int_lt b a ≡ t → (t || (not true && nat_lt y.serial x.serial)) ≡ false
        turned true g = absurd (grind (arith, ints))
        turned false g = refl

-- segments in order are as they are
ordered_is : (xs : Segments) → AreBounded xs → Starts xs → in_order starts_before xs ≡ xs
ordered_is [] bounded up = refl
ordered_is (x ∷ xs) bounded up = ap (inserted starts_before x) (ordered_is xs bounded.1 up.1) ∙ in_front xs bounded.1 up.0
  where
    in_front : (ys : Segments) → AreBounded ys → AllByRecursion (λ y. begins_before x y ≡ true) ys → inserted starts_before x ys ≡ x ∷ ys
    in_front [] b h = refl
    in_front (y ∷ ys) b h = rw (not_behind x y bounded.0 b.0 h.0) refl

-- the segments on which a request works
pub requested_is : (request : DeleteRow) (xs : Segments) → AllByRecursion (λ x. (x.flow == request.flow) ≡ true) xs → AreBounded xs → Starts xs
    → requested xs request ≡ filter (is_wanted_by request) xs
requested_is request xs own bounded up =
    let all : segments_of request.flow xs ≡ xs = filter_all (λ (x : SegmentRow). x.flow == request.flow) xs own in
    let test : SegmentRow → Bool = λ x. covers request.range x.segment.range in
    ap (λ l. filter (λ (row : SegmentRow). nat_lt row.serial request.serial) (in_order starts_before (filter test l))) all
    ∙ ap (filter (λ (row : SegmentRow). nat_lt row.serial request.serial))
    (ordered_is (filter test xs) (all_kept (λ x. is_bounded x ≡ true) test xs bounded) (starts_kept test xs up))
    ∙ filter_twice (λ (row : SegmentRow). nat_lt row.serial request.serial) test xs

-- ---- what is left

-- the serial of a segment is one of these
abbrev pub is_gone : Segments → SegmentRow → Bool
is_gone gone row = list_any (λ other. other.serial == row.serial) gone

cut_front : (n : ℕ) (xs : Segments) → Distinct xs → filter (λ row. not (is_gone (take n xs) row)) xs ≡ drop n xs
cut_front zero xs h = filter_all (λ row. not (is_gone [] row)) xs (always (λ row. not (is_gone [] row) ≡ true) (λ row. refl) xs)
cut_front (suc n) [] h = refl
cut_front (suc n) (x ∷ xs) h =
    rw (number_same x.serial)
    (agreed (λ row. not (is_gone (x ∷ take n xs) row)) (λ row. not (is_gone (take n xs) row)) xs
    (all_map (λ y. (x.serial == y.serial) ≡ false) (λ y. not (is_gone (x ∷ take n xs) y) ≡ not (is_gone (take n xs) y))
    (λ y e. ap (λ b. not (b || is_gone (take n xs) y)) e) xs h.0)
    ∙ cut_front n xs h.1)

pub left_is : (request : DeleteRow) (n : ℕ) (xs : Segments) → AllByRecursion (λ x. (x.flow == request.flow) ≡ true) xs → AreBounded xs → Starts xs
    → Distinct xs → requested (without_segments (take n (filter (is_wanted_by request) xs)) xs) request ≡ drop n (filter (is_wanted_by request) xs)
left_is request n xs own bounded up apart =
    let wanted = filter (is_wanted_by request) xs in
    let stays : SegmentRow → Bool = λ row. not (is_gone (take n wanted) row) in
    requested_is request (filter stays xs) (all_kept (λ x. (x.flow == request.flow) ≡ true) stays xs own) (all_kept (λ x. is_bounded x ≡ true) stays xs bounded)
    (starts_kept stays xs up)
    ∙ filter_swap stays (is_wanted_by request) xs
    ∙ cut_front n wanted (distinct_kept (is_wanted_by request) xs apart)

-- ---- those that have a point in a range

ends_meet : (low high outer_low outer_high : Option ℤ) → (is_some low && is_some high) ≡ true → are_ordered low high ≡ true
    → (reaches_down outer_low low && reaches_up outer_high high) ≡ true → (are_ordered low outer_high && are_ordered outer_low high) ≡ true
ends_meet None high outer_low outer_high b o c = absurd (grind (arith, b))
ends_meet (Some a) None outer_low outer_high b o c = absurd (grind (arith, b))
ends_meet (Some a) (Some z) None None b o c = refl
ends_meet (Some a) (Some z) None (Some h) b o c = both (int_le a h) true (up a z h o c) refl
  where
    up : (l m n : ℤ) → int_le l m ≡ true → int_le m n ≡ true → int_le l n ≡ true
    up l m n e f = by (int_le l n) refl
      where
        by : (t : Bool) → int_le l n ≡ t → int_le l n ≡ true
        by true g = g
        by false g = absurd (grind (arith, ints))
ends_meet (Some a) (Some z) (Some l) None b o c = up l a z (parts (int_le l a) true c).0 o
  where
    up : (k m n : ℤ) → int_le k m ≡ true → int_le m n ≡ true → int_le k n ≡ true
    up k m n e f = by (int_le k n) refl
      where
        by : (t : Bool) → int_le k n ≡ t → int_le k n ≡ true
        by true g = g
        by false g = absurd (grind (arith, ints))
ends_meet (Some a) (Some z) (Some l) (Some h) b o c =
    let p = parts (int_le l a) (int_le z h) c in
    both (int_le a h) (int_le l z) (up a z h o p.1) (up l a z p.0 o)
  where
    up : (k m n : ℤ) → int_le k m ≡ true → int_le m n ≡ true → int_le k n ≡ true
    up k m n e f = by (int_le k n) refl
      where
        by : (t : Bool) → int_le k n ≡ t → int_le k n ≡ true
        by true g = g
        by false g = absurd (grind (arith, ints))

covered_meets : (outer inner : Option Span) → (has_both_ends inner && overlaps inner inner) ≡ true → covers outer inner ≡ true → overlaps inner outer ≡ true
covered_meets outer None b c = absurd (grind (arith, b))
covered_meets None (Some i) b c = absurd (grind (arith, c))
covered_meets (Some o) (Some i) b c =
    let p = parts (has_both_ends (Some i)) (overlaps (Some i) (Some i)) b in
    ends_meet i.low i.high o.low o.high p.0 (parts (are_ordered i.low i.high) (are_ordered i.low i.high) p.1).0 c

pub met_wanted : (request : DeleteRow) (xs : Segments) → AreBounded xs
    → filter (is_wanted_by request) (met xs request.range) ≡ filter (is_wanted_by request) xs
met_wanted request xs bounded =
    filter_inner (λ row. overlaps row.segment.range request.range) (is_wanted_by request) xs
    (all_map (λ x. is_bounded x ≡ true) (λ x. is_wanted_by request x ≡ true → overlaps x.segment.range request.range ≡ true)
    (λ x b w. covered_meets request.range x.segment.range b (parts (covers request.range x.segment.range) (nat_lt x.serial request.serial) w).0) xs bounded)

pub all_ahead : (request : DeleteRow) (xs : Segments) → ahead xs request None ≡ met xs request.range
all_ahead request xs = filter_all (λ row. is_past None false (first_point row)) (met xs request.range)
    (always (λ row. is_past None false (first_point row) ≡ true) (λ row. refl) (met xs request.range))

-- ---- a page

-- behind the n-th stand those that follow it
behind_place : (n : ℕ) (xs : Segments) (x : SegmentRow) → Starts xs → slice_get xs n ≡ Some x
    → filter (λ y. int_lt (first_point x) (first_point y)) xs ≡ drop (suc n) xs
behind_place n [] x up e = absurd (grind (arith, e))
behind_place zero (y ∷ ys) x up e =
    let same : y ≡ x = some_same e in
    let not_self : int_lt (first_point x) (first_point y) ≡ false = ap (λ z. int_lt (first_point x) (first_point z)) same ∙ never (first_point x) in
    rw not_self (filter_all (λ z. int_lt (first_point x) (first_point z)) ys
    (subst (λ w. AllByRecursion (λ z. int_lt (first_point w) (first_point z) ≡ true) ys) same up.0))
  where
    never : (a : ℤ) → int_lt a a ≡ false
    never a = by (int_lt a a) refl
      where
        by : (t : Bool) → int_lt a a ≡ t → int_lt a a ≡ false
        by true f = absurd (grind (arith, ints))
        by false f = f
behind_place (suc n) (y ∷ ys) x up e =
    let before : int_lt (first_point y) (first_point x) ≡ true = there n ys up.0 e in
    rw (turned (first_point y) (first_point x) before) (behind_place n ys x up.1 e)
  where
    turned : (a b : ℤ) → int_lt a b ≡ true → int_lt b a ≡ false
    turned a b f = by (int_lt b a) refl
      where
        by : (t : Bool) → int_lt b a ≡ t → int_lt b a ≡ false
        by true g = absurd (grind (arith, ints))
        by false g = g

    there : (m : ℕ) (zs : Segments) → AllByRecursion (λ z. begins_before y z ≡ true) zs → slice_get zs m ≡ Some x
        → int_lt (first_point y) (first_point x) ≡ true
    there m [] h f = absurd (grind (arith, f))
    there zero (z ∷ zs) h f = subst (λ w. begins_before y w ≡ true) (some_same f) h.0
    there (suc m) (z ∷ zs) h f = there m zs h.1 f

got_has : (P : SegmentRow → Type 0) (n : ℕ) (xs : Segments) (x : SegmentRow) → AllByRecursion P xs → slice_get xs n ≡ Some x → P x
got_has P n [] x h e = absurd (grind (arith, e))
got_has P zero (y ∷ ys) x h e = subst P (some_same e) h.0
got_has P (suc n) (y ∷ ys) x h e = got_has P n ys x h.1 e

got_taken : (m n : ℕ) (xs : Segments) → n < m → slice_get (take m xs) n ≡ slice_get xs n
got_taken zero n xs lt = absurd (omega (arith, lt))
got_taken (suc m) n [] lt = refl
got_taken (suc m) zero (x ∷ xs) lt = refl
got_taken (suc m) (suc n) (x ∷ xs) lt = got_taken m n xs (omega (arith, lt))

past_again : (after : Option ℤ) (key p : ℤ) → is_past after false key ≡ true → int_lt key p ≡ true → is_past after false p ≡ true
past_again None key p e f = refl
past_again (Some a) key p e f = by (int_lt a p) refl
  where
    by : (t : Bool) → int_lt a p ≡ t → int_lt a p ≡ true
    by true g = g
    by false g = absurd (grind (arith, ints))

pub page_rest : (n : ℕ) (xs : Segments) (request : DeleteRow) (after : Option ℤ) (x : SegmentRow) → Starts xs
    → slice_get (take (suc n) (ahead xs request after)) n ≡ Some x → ahead xs request (Some (first_point x)) ≡ drop (suc n) (ahead xs request after)
page_rest n xs request after x up e =
    let all = met xs request.range in
    let past : SegmentRow → Bool = λ y. is_past after false (first_point y) in
    let got : slice_get (filter past all) n ≡ Some x = sym (got_taken (suc n) n (filter past all) (omega arith)) ∙ e in
    let own : past x ≡ true = got_has (λ y. past y ≡ true) n (filter past all) x (each_passes past all) got in
    sym (filter_within past (λ y. int_lt (first_point x) (first_point y)) all (λ y f. past_again after (first_point x) (first_point y) own f))
    ∙ behind_place n (filter past all) x (starts_kept past all (starts_kept (λ y. overlaps y.segment.range request.range) xs up)) got

-- a page that isn't full has all
pub page_all : (n : ℕ) (xs : Segments) → slice_get (take (suc n) xs) n ≡ None → take (suc n) xs ≡ xs
page_all n [] e = refl
page_all zero (x ∷ xs) e = absurd (grind (arith, e))
page_all (suc n) (x ∷ xs) e = ap (λ l. x ∷ l) (page_all n xs e)

-- a full one leaves fewer
pub page_fewer : (n : ℕ) (xs : Segments) (x : SegmentRow) → slice_get (take (suc n) xs) n ≡ Some x → length (drop (suc n) xs) < length xs
page_fewer n [] x e = absurd (grind (arith, e))
page_fewer zero (y ∷ ys) x e = omega arith
page_fewer (suc n) (y ∷ ys) x e = let less = page_fewer n ys x e in omega (arith, less)

-- the segments of a page as the library's pages have them
pub page_is : (n : ℕ) (xs : Segments) (request : DeleteRow) (after : Option ℤ)
    → page_items first_point (record { after = after; limit = n; reverse = false }) (met xs request.range) ≡ take n (ahead xs request after)
page_is n xs request after = refl
