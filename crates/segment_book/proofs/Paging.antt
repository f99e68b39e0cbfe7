-- A page from the first segments that lie past its key.
use Rattle.std.proofs.Common.{◌≡◌, ℕ, zero, suc, ◌+◌, ◌≤◌, ◌-◌, Bool, true, false, ◌&&◌, cond, List, [], ◌∷◌, ◌++◌, Option, Some, None, filter, length, reverse, take, nat_lt, refl, sym, ap, ap₂, subst, ◌∙◌, arith, append-nil}
use Rattle.std.specs.Prelude.{if◌then◌else◌, option_map, slice_get}
use Rattle.std.specs.Borrow.{Bor}
use Rattle.std.proofs.lemmas.Bool.Decides.{nat_tests}
use Rattle.std.proofs.lemmas.List.{length-reverse, reverse-append}
use Rattle.std.proofs.lemmas.List.Elements.{filter-append}
use Rattle.time_range.specs.declared.ranges.Span.{Span}
use Rattle.media_rows.specs.declared.command.Page.{Page}
use Rattle.media_rows.specs.declared.segment.SegmentRow.{SegmentRow}
use Rattle.media_rows.specs.declared.reply.View.TheVariants.{Segments}
use Rattle.media_rows.specs.Lists.{is_past, items_past, last_key}
use Rattle.media_rows.specs.Ranges.{overlaps}
use Rattle.media_rows.specs.Segments.{first_point, names_object, overlapping}
use Rattle.media_rows.specs.Views.{shown_segments}
use Rattle.shared_tree.specs.Pairs.{IsRising, values_of}
use Rattle.library_laws.proofs.ListLemmas.{take-whole}
use Rattle.id_index.proofs.Pairs.{filter_swap}
use Rattle.segment_index.specs.Answers.{is_met, met}
use Rattle.segment_book.specs.Within.Flows.{AreCountedFlows, flow_rows, segments_in_flows}
use Rattle.segment_book.specs.Within.Paging.{IsFront, front_len, shown_rows}
use Rattle.segment_book.proofs.FlowRows.{Flows}
use Rattle.segment_book.proofs.Views.{flow_kept}

-- ---- lengths

take_less : {X : Type 0} (n m : ℕ) (xs : List X) → n ≤ m → take n (take m xs) ≡ take n xs
take_less zero m xs le = refl
take_less (suc n) zero xs le = absurd (omega (arith, le))
take_less (suc n) (suc m) [] le = refl
take_less (suc n) (suc m) (x ∷ xs) le = ap (λ l. x ∷ l) (take_less n m xs (omega (arith, le)))

take_tells : {X : Type 0} (n : ℕ) (xs : List X) → nat_lt n (length (take (n + 1) xs)) ≡ nat_lt n (length xs)
take_tells n [] = grind (arith, nat_tests)
take_tells zero (x ∷ xs) = grind (arith, nat_tests)
take_tells (suc n) (x ∷ xs) = grind (arith, nat_tests, take_tells n xs)

fewer : {X : Type 0} (test : X → Bool) (xs : List X) → length (filter test xs) ≤ length xs
fewer test [] = omega arith
fewer test (x ∷ xs) = by (test x) (fewer test xs)
  where
    by : (b : Bool) → length (filter test xs) ≤ length xs → length (cond b (x ∷ filter test xs) (filter test xs)) ≤ suc (length xs)
    by true le = omega (arith, le)
    by false le = omega (arith, le)

turned_length : {X : Type 0} (back : Bool) (xs : List X) → length (if back then reverse xs else xs) ≡ length xs
turned_length true xs = grind (arith, length-reverse)
turned_length false xs = refl

pub past_fits : (page : Page) (rows : List SegmentRow) → length (items_past first_point page rows) ≤ length rows
past_fits page rows =
    subst (λ n. length (items_past first_point page rows) ≤ n) (turned_length page.reverse rows)
    (fewer (λ row. is_past page.after page.reverse (first_point row)) (if page.reverse then reverse rows else rows))

-- ---- names among what lies past

reverse_first : (row : SegmentRow) (rows : List SegmentRow) → reverse (row ∷ rows) ≡ reverse rows ++ row ∷ []
reverse_first row rows = reverse-append (row ∷ []) rows

kept_turned : (test : SegmentRow → Bool) (rows : List SegmentRow) → filter test (reverse rows) ≡ reverse (filter test rows)
kept_turned test [] = refl
kept_turned test (row ∷ rows) =
    ap (filter test) (reverse_first row rows) ∙ filter-append test (reverse rows) (row ∷ [])
    ∙ ap (λ l. l ++ filter test (row ∷ [])) (kept_turned test rows) ∙ by (test row)
  where
    by : (b : Bool) → reverse (filter test rows) ++ cond b (row ∷ []) [] ≡ reverse (cond b (row ∷ filter test rows) (filter test rows))
    by true = sym (reverse_first row (filter test rows))
    by false = append-nil (reverse (filter test rows))

pub past_kept : (test : SegmentRow → Bool) (page : Page) (rows : List SegmentRow)
    → filter test (items_past first_point page rows) ≡ items_past first_point page (filter test rows)
past_kept test page rows =
    filter_swap (λ row. is_past page.after page.reverse (first_point row)) test (if page.reverse then reverse rows else rows)
    ∙ ap (filter (λ row. is_past page.after page.reverse (first_point row))) (by page.reverse)
  where
    by : (back : Bool) → filter test (if back then reverse rows else rows) ≡ (if back then reverse (filter test rows) else filter test rows)
    by true = kept_turned test rows
    by false = refl

-- ---- as many as tell a page

all_named : (rows : List SegmentRow) → filter (names_object None) rows ≡ rows
all_named [] = refl
all_named (row ∷ rows) = ap (λ l. row ∷ l) (all_named rows)

pub front_is : (object : Option (List ℕ)) (limit count : ℕ) (page : Page) (rows : List SegmentRow) → length rows ≤ count
    → IsFront limit (filter (names_object object) (take (front_len count object limit) (items_past first_point page rows)))
    (items_past first_point page (filter (names_object object) rows))
front_is (Some object) limit count page rows fits =
    let past = items_past first_point page rows in
    let whole = take-whole count past (omega (arith, fits, past_fits page rows)) in
    let same = ap (filter (names_object (Some object))) whole ∙ past_kept (names_object (Some object)) page rows in
    record { page = ap (take limit) same; more = ap (λ l. nat_lt limit (length l)) same }
front_is None limit count page rows fits =
    let past = items_past first_point page rows in
    let names = sym (ap (items_past first_point page) (all_named rows)) in
    by (nat_lt limit count) refl past (omega (arith, fits, past_fits page rows)) names
  where
    by : (b : Bool) → nat_lt limit count ≡ b → (past : List SegmentRow) → length past ≤ count
        → past ≡ items_past first_point page (filter (names_object None) rows)
        → IsFront limit (filter (names_object None) (take (cond b (limit + 1) count) past)) (items_past first_point page (filter (names_object None) rows))
    by true e past le names =
        let all = all_named (take (limit + 1) past) in
        record {
          page = ap (take limit) all ∙ take_less limit (limit + 1) past (omega arith) ∙ ap (take limit) names;
          more = ap (λ l. nat_lt limit (length l)) all ∙ take_tells limit past ∙ ap (λ l. nat_lt limit (length l)) names;
        }
    by false e past le names =
        let all = all_named (take count past) ∙ take-whole count past le ∙ names in
        record { page = ap (take limit) all; more = ap (λ l. nat_lt limit (length l)) all }

-- ---- what is shown

pub front_shown : (page : Page) (rows asked : List SegmentRow) → IsFront page.limit rows (items_past first_point page asked)
    → shown_rows page.limit rows ≡ shown_segments page asked
front_shown page rows asked front =
    ap₂ (λ (l : List SegmentRow) (b : Bool). Segments l (if b then last_key first_point l else None)) front.page front.more

filter_both : {X : Type 0} (p q : X → Bool) (xs : List X) → filter (λ x. p x && q x) xs ≡ filter q (filter p xs)
filter_both p q [] = refl
filter_both p q (x ∷ xs) = by (p x) (filter_both p q xs)
  where
    by : (b : Bool) → filter (λ y. p y && q y) xs ≡ filter q (filter p xs)
        → cond (b && q x) (x ∷ filter (λ y. p y && q y) xs) (filter (λ y. p y && q y) xs) ≡ filter q (cond b (x ∷ filter p xs) (filter p xs))
    by true rest = ap (λ l. cond (q x) (x ∷ l) l) rest
    by false rest = rest

-- the segments of a flow that are asked for are those of its index
pub asked_is : (flow : ℕ) (range : Option Span) (object : Option (List ℕ)) (flows : Flows) (count : ℕ) → IsRising flows → AreCountedFlows flows count
    → overlapping (segments_in_flows flows) flow range object ≡ filter (names_object object) (met (flow_rows flow flows) range)
asked_is flow range object flows count rising book =
    flow_kept (λ row. overlaps row.segment.range range && names_object object row) flow flows count rising book
    ∙ filter_both (is_met range) (names_object object) (flow_rows flow flows)

-- the same of an index's segments, from its first ones
pub front_from : (object : Option (List ℕ)) (limit most : ℕ) (page : Page) (range : Option Span) (index got : List SegmentRow)
    → most ≡ front_len (length index) object limit → got ≡ take most (items_past first_point page (met index range))
    → IsFront limit (filter (names_object object) got) (items_past first_point page (filter (names_object object) (met index range)))
front_from object limit most page range index got em eg =
    subst (λ l. IsFront limit (filter (names_object object) l) (items_past first_point page (filter (names_object object) (met index range))))
    (sym (eg ∙ ap (λ n. take n (items_past first_point page (met index range))) em))
    (front_is object limit (length index) page (met index range) (fewer (is_met range) index))

-- the key of the last of some rows
pub last_key_is : (rows : List (Bor SegmentRow))
    → option_map (λ (r : Bor SegmentRow). first_point r.now) (slice_get rows (length rows - 1)) ≡ last_key first_point (values_of rows)
last_key_is [] = refl
last_key_is (x ∷ []) = refl
last_key_is (x ∷ y ∷ ys) =
    let two : length (x ∷ y ∷ ys) - 1 ≡ suc (length ys) = omega arith in
    let one : length (y ∷ ys) - 1 ≡ length ys = omega arith in
    ap (λ n. option_map (λ (r : Bor SegmentRow). first_point r.now) (slice_get (x ∷ y ∷ ys) n)) two
    ∙ ap (λ n. option_map (λ (r : Bor SegmentRow). first_point r.now) (slice_get (y ∷ ys) n)) (sym one) ∙ last_key_is (y ∷ ys)
