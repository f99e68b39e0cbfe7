-- Rows that come one after the other, and what holds of all of them where it holds of each with those before it.
use Rattle.std.proofs.Common.{◌≡◌, ℕ, zero, suc, ◌+◌, ◌-◌, ◌<◌, ◌≤◌, nat_le, nat_lt, Bool, true, false, not, ◌&&◌, ◌||◌, cond, List, [], ◌∷◌, ◌++◌, Option, Some, None, bytes_eq, filter, length, map, take, refl, sym, ap, ap₂, subst, ◌∙◌, arith, append-nil, append_assoc}
use Rattle.std.specs.Prelude.{◌==◌, is_none, is_some, slice_get}
use Rattle.std.specs.List.{list_all}
use Rattle.std.proofs.lemmas.Bool.{and_from, and_parts, eqb-true, le-leb, lt-ltb, or_left}
use Rattle.std.proofs.lemmas.Bool.Decides.{nat_tests}
use Rattle.std.proofs.lemmas.List.Folds.{list_all-append}
use Rattle.time_range.specs.declared.ranges.Span.{Span}
use Rattle.time_range.specs.Points.{high_of, low_of}
use Rattle.media_rows.specs.declared.object.Digest.{Digest}
use Rattle.media_rows.specs.declared.object.Extent.{Extent}
use Rattle.media_rows.specs.declared.object.ObjectRow.{ObjectRow}
use Rattle.media_rows.specs.declared.object.ObjectState.{ObjectState}
use Rattle.media_rows.specs.declared.object.ObjectState.TheVariants.{Allocated, Stored}
use Rattle.media_rows.specs.declared.refusal.Refusal.{Refusal}
use Rattle.media_rows.specs.declared.refusal.Refusal.TheVariants.{NoObject}
use Rattle.media_rows.specs.declared.segment.SegmentRow.{SegmentRow}
use Rattle.media_rows.specs.Answer.{keep_refusal}
use Rattle.media_rows.specs.Posts.{overlap_refusal}
use Rattle.media_rows.specs.Collections.{is_kept}
use Rattle.media_rows.specs.Good.{are_compatible, are_extents_good, are_object_ids_distinct, are_references_good, are_serials_good, are_serials_in_order, are_states_apart, are_urls_distinct, is_catalog_in_order, is_extent_good, is_segment_good, rises_by}
use Rattle.media_rows.specs.Library.{serials_of}
use Rattle.media_rows.specs.Lists.{are_distinct_texts, each_pair, in_order, inserted, or_else}
use Rattle.media_rows.specs.Objects.{allocated_rows, blocks_of, is_clear_of, is_free, is_stored_object, object_of, stored_row, with_object}
use Rattle.media_rows.specs.Ranges.{has_both_ends, overlaps}
use Rattle.media_rows.specs.Refusals.{when}
use Rattle.media_rows.specs.Segments.{overlapping, starts_before}
use Rattle.library_laws.proofs.ListLemmas.{In-take, list_all-In, list_all-from_In, take-whole}
use Rattle.segment_book.specs.Answers.{meeting_refusal}
use Rattle.media_book.specs.Media.{Media, MediaAreGood, are_objects_below, are_objects_good, are_rows_good, are_segments_below, can_take, media_if, no_media, with_allocated, with_stored}
use Rattle.media_book.specs.Within.Restoring.{ObjectsCame, RowsCame, can_come, can_follow, can_hold, with_objects, with_segments_behind}
use Rattle.media_book.specs.Within.Ties.{row_refusal}
use Rattle.media_book.proofs.Held.{apart_turns, clear_apart, same_all}
use Rattle.media_book.proofs.ObjectRows.{same_bytes}
use Rattle.media_book.proofs.Serials.{pairs_taken}

-- ---- tests of all with one more at the end

and_true : (b : Bool) → (b && true) ≡ b
and_true true = refl
and_true false = refl

mixed : (a b c d : Bool) → ((a && b) && (c && d)) ≡ ((a && c) && (b && d))
mixed false b c d = refl
mixed true true c d = refl
mixed true false true d = refl
mixed true false false d = refl

turned : (a b c : Bool) → (a && (b && c)) ≡ (c && (b && a))
turned true true true = refl
turned true true false = refl
turned true false true = refl
turned true false false = refl
turned false true true = refl
turned false true false = refl
turned false false true = refl
turned false false false = refl

all_last : {X : Type 0} (p : X → Bool) (front : List X) (x : X) → list_all p (front ++ x ∷ []) ≡ (list_all p front && p x)
all_last p front x = list_all-append p front (x ∷ []) ∙ ap (λ b. list_all p front && b) (and_true (p x))

pairs_last : {X : Type 0} (t : X → X → Bool) (front : List X) (x : X) → each_pair t (front ++ x ∷ []) ≡ (each_pair t front && list_all (λ y. t y x) front)
pairs_last t [] x = refl
pairs_last t (y ∷ front) x =
    ap₂ (λ a b. a && b) (all_last (t y) front x) (pairs_last t front x)
    ∙ mixed (list_all (t y) front) (t y x) (each_pair t front) (list_all (λ z. t z x) front)

all_taken : {X : Type 0} (p : X → Bool) (n : ℕ) (xs : List X) → list_all p xs ≡ true → list_all p (take n xs) ≡ true
all_taken p n xs e = list_all-from_In p (take n xs) (λ x here. list_all-In p xs e x (In-take n xs x here))

-- ---- an object more

ids_append : (a b : List ObjectRow) → map (λ (r : ObjectRow). r.id) (a ++ b) ≡ map (λ (r : ObjectRow). r.id) a ++ map (λ (r : ObjectRow). r.id) b
ids_append [] b = refl
ids_append (r ∷ a) b = ap (λ l. r.id ∷ l) (ids_append a b)

ids_taken : (n : ℕ) (a : List ObjectRow) → map (λ (r : ObjectRow). r.id) (take n a) ≡ take n (map (λ (r : ObjectRow). r.id) a)
ids_taken zero a = refl
ids_taken (suc n) [] = refl
ids_taken (suc n) (r ∷ a) = ap (λ l. r.id ∷ l) (ids_taken n a)

-- an id is new
new_id : (id : List ℕ) (objects : List ObjectRow)
    → list_all (λ other. not (bytes_eq other id)) (map (λ (r : ObjectRow). r.id) objects) ≡ not (is_some (object_of id objects))
new_id id [] = refl
new_id id (r ∷ rs) = by (bytes_eq r.id id) (new_id id rs)
  where
    by : (b : Bool) → list_all (λ other. not (bytes_eq other id)) (map (λ (x : ObjectRow). x.id) rs) ≡ not (is_some (object_of id rs))
        → (not b && list_all (λ other. not (bytes_eq other id)) (map (λ (x : ObjectRow). x.id) rs)) ≡ not (is_some (cond b (Some r) (object_of id rs)))
    by true rest = refl
    by false rest = rest

-- its blocks are free
holds_is : (blocks : ℕ) (front : List ObjectRow) (s : ObjectState)
    → (list_all (λ (r : ObjectRow). are_states_apart r.state s) front && is_extent_good blocks s)
    ≡ can_hold (record { blocks = blocks; segments = []; objects = front }) s
holds_is blocks front Allocated = and_true (list_all (λ (r : ObjectRow). are_states_apart r.state Allocated) front) ∙ all front
  where
    bare : (s : ObjectState) → are_states_apart s Allocated ≡ true
    bare Allocated = refl
    bare (Stored start size digest) = refl

    all : (rows : List ObjectRow) → list_all (λ (r : ObjectRow). are_states_apart r.state Allocated) rows ≡ true
    all [] = refl
    all (r ∷ rows) =
        and_from (are_states_apart r.state Allocated) (list_all (λ (x : ObjectRow). are_states_apart x.state Allocated) rows) (bare r.state) (all rows)
holds_is blocks front (Stored start size digest) =
    ap (λ b. b && (nat_le (start + blocks_of size) blocks && (nat_lt 0 size || (start == 0))))
    (same_all (λ (r : ObjectRow). are_states_apart r.state (Stored start size digest)) (λ (r : ObjectRow). is_clear_of start (blocks_of size) r.state)
    (λ r. apart_turns r.state (Stored start size digest) ∙ sym (clear_apart start size digest r.state)) front)
    ∙ placed (list_all (λ (r : ObjectRow). is_clear_of start (blocks_of size) r.state) front) (nat_le (start + blocks_of size) blocks)
    (nat_lt 0 size || (start == 0))
  where
    placed : (a b c : Bool) → (a && (b && c)) ≡ ((b && a) && c)
    placed true true c = refl
    placed true false c = refl
    placed false true c = refl
    placed false false c = refl

pub objects_step : (blocks : ℕ) (front : List ObjectRow) (row : ObjectRow)
    → are_objects_good blocks (front ++ row ∷ [])
    ≡ (are_objects_good blocks front && can_follow (record { blocks = blocks; segments = []; objects = front }) row)
objects_step blocks front row =
    let apart : ObjectRow → ObjectRow → Bool = λ a b. are_states_apart a.state b.state in
    let good : ObjectRow → Bool = λ r. is_extent_good blocks r.state in
    let beside : Bool = list_all (λ (r : ObjectRow). are_states_apart r.state row.state) front in
    let below : Bool = are_objects_below row.serial front in
    let free : Bool = not (is_some (object_of row.id front)) in
    let holds : Bool = can_hold (record { blocks = blocks; segments = []; objects = front }) row.state in
    let extents : are_extents_good blocks (front ++ row ∷ []) ≡ (are_extents_good blocks front && holds) =
    ap₂ (λ a b. a && b) (pairs_last apart front row) (all_last good front row)
    ∙ mixed (each_pair apart front) beside (list_all good front) (good row)
    ∙ ap (λ b. are_extents_good blocks front && b) (holds_is blocks front row.state) in
    let ids : are_object_ids_distinct (front ++ row ∷ []) ≡ (are_object_ids_distinct front && free) =
    ap are_distinct_texts (ids_append front (row ∷ []))
    ∙ pairs_last (λ a b. not (bytes_eq a b)) (map (λ (r : ObjectRow). r.id) front) row.id
    ∙ ap (λ b. are_object_ids_distinct front && b) (new_id row.id front) in
    let serials : rises_by (λ (r : ObjectRow). r.serial) (front ++ row ∷ []) ≡ (rises_by (λ (r : ObjectRow). r.serial) front && below) =
    pairs_last (λ (a : ObjectRow) b. nat_lt a.serial b.serial) front row in
    ap₂ (λ a b. a && b) extents (ap₂ (λ a b. a && b) ids serials
    ∙ mixed (are_object_ids_distinct front) free (rises_by (λ (r : ObjectRow). r.serial) front) below)
    ∙ mixed (are_extents_good blocks front) holds (are_object_ids_distinct front && rises_by (λ (r : ObjectRow). r.serial) front) (free && below)
    ∙ ap (λ b. are_objects_good blocks front && b) (turned holds free below)

pub objects_front : (blocks : ℕ) (n : ℕ) (rows : List ObjectRow) → are_objects_good blocks rows ≡ true → are_objects_good blocks (take n rows) ≡ true
objects_front blocks n rows e =
    let apart : ObjectRow → ObjectRow → Bool = λ a b. are_states_apart a.state b.state in
    let good : ObjectRow → Bool = λ r. is_extent_good blocks r.state in
    let rise : Bool = rises_by (λ (r : ObjectRow). r.serial) rows in
    let all = and_parts (are_extents_good blocks rows) (are_object_ids_distinct rows && rise) e in
    let extents = and_parts (each_pair apart rows) (list_all good rows) all.0 in
    let names = and_parts (are_object_ids_distinct rows) rise all.1 in
    and_from (are_extents_good blocks (take n rows)) (are_object_ids_distinct (take n rows) && rises_by (λ (r : ObjectRow). r.serial) (take n rows))
    (and_from (each_pair apart (take n rows)) (list_all good (take n rows)) (pairs_taken apart n rows extents.0) (all_taken good n rows extents.1))
    (and_from (are_object_ids_distinct (take n rows)) (rises_by (λ (r : ObjectRow). r.serial) (take n rows))
    (ap are_distinct_texts (ids_taken n rows) ∙ pairs_taken (λ a b. not (bytes_eq a b)) n (map (λ (r : ObjectRow). r.id) rows) names.0)
    (pairs_taken (λ (a : ObjectRow) b. nat_lt a.serial b.serial) n rows names.1))

-- ---- a segment more

abbrev is_empty : {X : Type 0} → List X → Bool
is_empty [] = true
is_empty (x ∷ xs) = false

not_empty : {X : Type 0} (before : X → X → Bool) (x : X) (ys : List X) → is_empty (inserted before x ys) ≡ false
not_empty before x [] = refl
not_empty before x (y ∷ ys) = by (before y x)
  where
    by : (b : Bool) → is_empty (cond b (y ∷ inserted before x ys) (x ∷ y ∷ ys)) ≡ false
    by true = refl
    by false = refl

empty_ordered : {X : Type 0} (before : X → X → Bool) (xs : List X) → is_empty (in_order before xs) ≡ is_empty xs
empty_ordered before [] = refl
empty_ordered before (x ∷ xs) = not_empty before x (in_order before xs)

none_first : (met : List SegmentRow) → is_none (overlap_refusal (slice_get met 0)) ≡ is_empty met
none_first [] = refl
none_first (row ∷ rows) = refl

none_kept : (p o : SegmentRow → Bool) (rows : List SegmentRow) → is_empty (filter (λ r. o r && true) (filter p rows)) ≡ list_all (λ r. not (p r && o r)) rows
none_kept p o [] = refl
none_kept p o (row ∷ rows) = by (p row) (o row) refl (none_kept p o rows)
  where
    by : (a b : Bool) → o row ≡ b → is_empty (filter (λ r. o r && true) (filter p rows)) ≡ list_all (λ r. not (p r && o r)) rows
        → is_empty (filter (λ r. o r && true) (cond a (row ∷ filter p rows) (filter p rows))) ≡ (not (a && b) && list_all (λ r. not (p r && o r)) rows)
    by true true e rest = rw e refl
    by true false e rest = rw e rest
    by false b e rest = rest

-- nothing overlaps it
apart_is : (front : List SegmentRow) (row : SegmentRow) → is_none (meeting_refusal front row) ≡ list_all (λ r. are_compatible r row) front
apart_is front row =
    let own : SegmentRow → Bool = λ r. r.flow == row.flow in
    let meets : SegmentRow → Bool = λ r. overlaps r.segment.range row.segment.range in
    none_first (overlapping front row.flow row.segment.range None)
    ∙ empty_ordered starts_before (filter (λ r. meets r && true) (filter own front))
    ∙ none_kept own meets front

unrefused : (objects : List ObjectRow) (front : List SegmentRow) (row : SegmentRow) (blocks : ℕ)
    → is_none (row_refusal (record { blocks = blocks; segments = front; objects = objects }) row)
    ≡ (is_stored_object objects row.segment.object && list_all (λ r. are_compatible r row) front)
unrefused objects front row blocks =
    by (is_stored_object objects row.segment.object) (meeting_refusal front row)
    ∙ ap (λ b. is_stored_object objects row.segment.object && b) (apart_is front row)
  where
    by : (s : Bool) (m : Option Refusal) → is_none (or_else (when (not s) (NoObject row.segment.object)) m) ≡ (s && is_none m)
    by true m = refl
    by false m = refl

pub rows_step : (blocks : ℕ) (objects : List ObjectRow) (front : List SegmentRow) (row : SegmentRow)
    → are_rows_good objects (front ++ row ∷ [])
    ≡ (are_rows_good objects front && can_come (record { blocks = blocks; segments = front; objects = objects }) row)
rows_step blocks objects front row =
    let ends : SegmentRow → Bool = λ r. has_both_ends r.segment.range in
    let kept : SegmentRow → Bool = λ r. is_stored_object objects r.segment.object in
    let apart : Bool = list_all (λ r. are_compatible r row) front in
    let below : Bool = are_segments_below row.serial front in
    let rise : Bool = rises_by (λ (r : SegmentRow). r.serial) front in
    ap₂ (λ a b. a && b) (pairs_last are_compatible front row) (ap₂ (λ a b. a && b) (all_last ends front row)
    (ap₂ (λ a b. a && b) (all_last kept front row) (pairs_last (λ (a : SegmentRow) b. nat_lt a.serial b.serial) front row)
    ∙ mixed (list_all kept front) (kept row) rise below)
    ∙ mixed (list_all ends front) (ends row) (list_all kept front && rise) (kept row && below))
    ∙ mixed (each_pair are_compatible front) apart (list_all ends front && (list_all kept front && rise)) (ends row && (kept row && below))
    ∙ ap (λ b. are_rows_good objects front && b)
    (order apart (ends row) (kept row) below ∙ ap (λ b. below && (ends row && b)) (sym (unrefused objects front row blocks)))
  where
    order : (a e k b : Bool) → (a && (e && (k && b))) ≡ (b && (e && (k && a)))
    order a true true b = turned a true b
    order true true false true = refl
    order true true false false = refl
    order false true false true = refl
    order false true false false = refl
    order true false k true = refl
    order true false k false = refl
    order false false k true = refl
    order false false k false = refl

pub rows_front : (objects : List ObjectRow) (n : ℕ) (rows : List SegmentRow) → are_rows_good objects rows ≡ true → are_rows_good objects (take n rows) ≡ true
rows_front objects n rows e =
    let ends : SegmentRow → Bool = λ r. has_both_ends r.segment.range in
    let kept : SegmentRow → Bool = λ r. is_stored_object objects r.segment.object in
    let rise : Bool = rises_by (λ (r : SegmentRow). r.serial) rows in
    let all = and_parts (each_pair are_compatible rows) (list_all ends rows && (list_all kept rows && rise)) e in
    let more = and_parts (list_all ends rows) (list_all kept rows && rise) all.1 in
    let last = and_parts (list_all kept rows) rise more.1 in
    and_from (each_pair are_compatible (take n rows))
    (list_all ends (take n rows) && (list_all kept (take n rows) && rises_by (λ (r : SegmentRow). r.serial) (take n rows)))
    (pairs_taken are_compatible n rows all.0)
    (and_from (list_all ends (take n rows)) (list_all kept (take n rows) && rises_by (λ (r : SegmentRow). r.serial) (take n rows))
    (all_taken ends n rows more.0)
    (and_from (list_all kept (take n rows)) (rises_by (λ (r : SegmentRow). r.serial) (take n rows)) (all_taken kept n rows last.0)
    (pairs_taken (λ (a : SegmentRow) b. nat_lt a.serial b.serial) n rows last.1)))

-- ---- media where a test holds

pub told_some : (good : Bool) (next media : Media) → Some next ≡ media_if good media → (good ≡ true) × (next ≡ media)
told_some true next media e = (refl, let is : next ≡ media = grind (arith, e) in is)
told_some false next media e = absurd (grind (arith, e))

pub told_none : (good : Bool) (media : Media) → None ≡ media_if good media → good ≡ false
told_none true media e = absurd (grind (arith, e))
told_none false media e = refl

-- ---- objects that come

pub objects_start : (blocks : ℕ) (all : List ObjectRow) (media : Media) → media ≡ no_media blocks → ObjectsCame blocks 0 all media
objects_start blocks all media same = record { is = same; good = refl }

came_is : (blocks count : ℕ) (all : List ObjectRow) (media : Media) (row : ObjectRow) → ObjectsCame blocks count all media
    → can_follow media row ≡ can_follow (record { blocks = blocks; segments = []; objects = take count all }) row
came_is blocks count all media row was = ap (λ m. can_follow m row) was.is

pub objects_more : (blocks count : ℕ) (all : List ObjectRow) (media next : Media) (row : ObjectRow) → ObjectsCame blocks count all media
    → take (count + 1) all ≡ take count all ++ row ∷ [] → Some next ≡ media_if (can_follow media row) (with_objects (row ∷ []) media)
    → ObjectsCame blocks (count + 1) all next
objects_more blocks count all media next row was shape e =
    let told = told_some (can_follow media row) next (with_objects (row ∷ []) media) e in
    record {
      is = told.1 ∙ ap (with_objects (row ∷ [])) was.is ∙ ap (λ l. with_objects l (no_media blocks)) (sym shape);
      good = ap (are_objects_good blocks) shape ∙ objects_step blocks (take count all) row
          ∙ and_from (are_objects_good blocks (take count all)) (can_follow (record { blocks = blocks; segments = []; objects = take count all }) row) was.good
          (sym (came_is blocks count all media row was) ∙ told.0);
    }

unless_good : (good : Bool) (media : Media) → good ≡ false → None ≡ media_if good media
unless_good true media e = absurd (grind (arith, e))
unless_good false media e = refl

failed : (whole part here : Bool) → (whole ≡ true → part ≡ true) → (part ≡ true → here ≡ true) → here ≡ false → whole ≡ false
failed false part here f g e = refl
failed true part here f g e = absurd (let yes = g (f refl) in grind (arith, yes, e))

pub objects_fail : (blocks count : ℕ) (all : List ObjectRow) (media : Media) (row : ObjectRow) → ObjectsCame blocks count all media
    → take (count + 1) all ≡ take count all ++ row ∷ [] → None ≡ media_if (can_follow media row) (with_objects (row ∷ []) media)
    → None ≡ media_if (are_objects_good blocks all) (with_objects all (no_media blocks))
objects_fail blocks count all media row was shape e =
    let here = can_follow (record { blocks = blocks; segments = []; objects = take count all }) row in
    unless_good (are_objects_good blocks all) (with_objects all (no_media blocks))
    (failed (are_objects_good blocks all) (are_objects_good blocks (take (count + 1) all)) here (objects_front blocks (count + 1) all)
    (λ part. (and_parts (are_objects_good blocks (take count all)) here
    (sym (ap (are_objects_good blocks) shape ∙ objects_step blocks (take count all) row) ∙ part)).1)
    (sym (came_is blocks count all media row was) ∙ told_none (can_follow media row) (with_objects (row ∷ []) media) e))

if_good : (good : Bool) (next media : Media) → good ≡ true → next ≡ media → Some next ≡ media_if good media
if_good true next media e same = ap Some same
if_good false next media e same = absurd (grind (arith, e))

pub objects_done : (blocks count : ℕ) (all : List ObjectRow) (media : Media) → ObjectsCame blocks count all media → length all ≤ count
    → Some media ≡ media_if (are_objects_good blocks all) (with_objects all (no_media blocks))
objects_done blocks count all media was done =
    let whole = take-whole count all done in
    if_good (are_objects_good blocks all) media (with_objects all (no_media blocks)) (ap (are_objects_good blocks) (sym whole) ∙ was.good)
    (was.is ∙ ap (λ l. with_objects l (no_media blocks)) whole)

-- ---- segments that come

pub rows_start : (start media : Media) (all : List SegmentRow) → start.segments ≡ [] → media ≡ start → RowsCame start 0 all media
rows_start start media all none same = record {
  is = same ∙ ap (λ l. record { blocks = start.blocks; segments = l; objects = start.objects }) (sym (append-nil start.segments));
  good = refl;
}

come_is : (start : Media) (count : ℕ) (all : List SegmentRow) (media : Media) (row : SegmentRow) → start.segments ≡ [] → RowsCame start count all media
    → can_come media row ≡ can_come (record { blocks = start.blocks; segments = take count all; objects = start.objects }) row
come_is start count all media row none was =
    ap (λ m. can_come m row) (was.is ∙ ap (λ l. record { blocks = start.blocks; segments = l ++ take count all; objects = start.objects }) none)

pub rows_more : (start : Media) (count : ℕ) (all : List SegmentRow) (media next : Media) (row : SegmentRow) → start.segments ≡ []
    → RowsCame start count all media → take (count + 1) all ≡ take count all ++ row ∷ []
    → Some next ≡ media_if (can_come media row) (with_segments_behind (row ∷ []) media) → RowsCame start (count + 1) all next
rows_more start count all media next row none was shape e =
    let told = told_some (can_come media row) next (with_segments_behind (row ∷ []) media) e in
    record {
      is = told.1 ∙ ap (with_segments_behind (row ∷ [])) was.is
          ∙ ap (λ l. record { blocks = start.blocks; segments = l; objects = start.objects })
          (append_assoc start.segments (take count all) (row ∷ []) ∙ ap (λ l. start.segments ++ l) (sym shape));
      good = ap (are_rows_good start.objects) shape ∙ rows_step start.blocks start.objects (take count all) row
          ∙ and_from (are_rows_good start.objects (take count all))
          (can_come (record { blocks = start.blocks; segments = take count all; objects = start.objects }) row) was.good
          (sym (come_is start count all media row none was) ∙ told.0);
    }

pub rows_fail : (start : Media) (count : ℕ) (all : List SegmentRow) (media : Media) (row : SegmentRow) → start.segments ≡ []
    → RowsCame start count all media → take (count + 1) all ≡ take count all ++ row ∷ []
    → None ≡ media_if (can_come media row) (with_segments_behind (row ∷ []) media)
    → None ≡ media_if (are_rows_good start.objects all) (with_segments_behind all start)
rows_fail start count all media row none was shape e =
    let here = can_come (record { blocks = start.blocks; segments = take count all; objects = start.objects }) row in
    unless_good (are_rows_good start.objects all) (with_segments_behind all start)
    (failed (are_rows_good start.objects all) (are_rows_good start.objects (take (count + 1) all)) here (rows_front start.objects (count + 1) all)
    (λ part. (and_parts (are_rows_good start.objects (take count all)) here
    (sym (ap (are_rows_good start.objects) shape ∙ rows_step start.blocks start.objects (take count all) row) ∙ part)).1)
    (sym (come_is start count all media row none was) ∙ told_none (can_come media row) (with_segments_behind (row ∷ []) media) e))

pub rows_done : (start : Media) (count : ℕ) (all : List SegmentRow) (media : Media) → RowsCame start count all media → length all ≤ count
    → Some media ≡ media_if (are_rows_good start.objects all) (with_segments_behind all start)
rows_done start count all media was done =
    let whole = take-whole count all done in
    if_good (are_rows_good start.objects all) media (with_segments_behind all start) (ap (are_rows_good start.objects) (sym whole) ∙ was.good)
    (was.is ∙ ap (λ l. with_segments_behind l start) whole)

-- ---- one after the other

-- what none of the objects and then none of the segments refuses
pub both_good : (blocks : ℕ) (objects : List ObjectRow) (rows : List SegmentRow) (bare : Media) (result : Option Media)
    → Some bare ≡ media_if (are_objects_good blocks objects) (with_objects objects (no_media blocks))
    → result ≡ media_if (are_rows_good bare.objects rows) (with_segments_behind rows bare)
    → result ≡ media_if (are_objects_good blocks objects && are_rows_good objects rows) (record { blocks = blocks; segments = rows; objects = objects })
both_good blocks objects rows bare result e is =
    let told = told_some (are_objects_good blocks objects) bare (with_objects objects (no_media blocks)) e in
    is ∙ ap (λ m. media_if (are_rows_good m.objects rows) (with_segments_behind rows m)) told.1
    ∙ ap (λ b. media_if (b && are_rows_good objects rows) (record { blocks = blocks; segments = rows; objects = objects })) (sym told.0)

pub none_good : (blocks : ℕ) (objects : List ObjectRow) (rows : List SegmentRow)
    → None ≡ media_if (are_objects_good blocks objects) (with_objects objects (no_media blocks))
    → None ≡ media_if (are_objects_good blocks objects && are_rows_good objects rows) (record { blocks = blocks; segments = rows; objects = objects })
none_good blocks objects rows e =
    let bad = told_none (are_objects_good blocks objects) (with_objects objects (no_media blocks)) e in
    unless_good (are_objects_good blocks objects && are_rows_good objects rows) (record { blocks = blocks; segments = rows; objects = objects })
    (ap (λ b. b && are_rows_good objects rows) bad)

-- ---- an object with the state of its row

-- the object that came last is found by its id, where that is new
pub found_last : (objects : List ObjectRow) (row : ObjectRow) (serial moment : ℕ) → is_some (object_of row.id objects) ≡ false
    → keep_refusal (object_of row.id (objects ++ allocated_rows serial moment (row.id ∷ []))) ≡ None
found_last [] row serial moment new = rw (same_bytes row.id row.id refl) refl
found_last (o ∷ objects) row serial moment new = by (bytes_eq o.id row.id) new (found_last objects row serial moment)
  where
    by : (b : Bool) → is_some (cond b (Some o) (object_of row.id objects)) ≡ false
        → (is_some (object_of row.id objects) ≡ false
        → keep_refusal (object_of row.id (objects ++ allocated_rows serial moment (row.id ∷ []))) ≡ None)
        → keep_refusal (cond b (Some o) (object_of row.id (objects ++ allocated_rows serial moment (row.id ∷ [])))) ≡ None
    by true e rest = absurd (grind (arith, e))
    by false e rest = rest e

pub stored_last : (objects : List ObjectRow) (row : ObjectRow) (start size : ℕ) (digest : Option Digest) → row.state ≡ Stored start size digest → is_some (object_of row.id objects) ≡ false
    → with_object row.id (stored_row start size digest row.idle_since) (objects ++ allocated_rows row.serial row.idle_since (row.id ∷ [])) ≡ objects ++ row ∷ []
stored_last [] row start size digest is new =
    rw (same_bytes row.id row.id refl)
    (ap (λ s. record { id = row.id; serial = row.serial; state = s; idle_since = row.idle_since } ∷ []) (sym is))
stored_last (o ∷ objects) row start size digest is new = by (bytes_eq o.id row.id) new (stored_last objects row start size digest is)
  where
    by : (b : Bool) → is_some (cond b (Some o) (object_of row.id objects)) ≡ false
        → (is_some (object_of row.id objects) ≡ false
        → with_object row.id (stored_row start size digest row.idle_since) (objects ++ allocated_rows row.serial row.idle_since (row.id ∷ []))
        ≡ objects ++ row ∷ [])
        → cond b (stored_row start size digest row.idle_since o) o
        ∷ with_object row.id (stored_row start size digest row.idle_since) (objects ++ allocated_rows row.serial row.idle_since (row.id ∷ []))
        ≡ o ∷ objects ++ row ∷ []
    by true e rest = absurd (grind (arith, e))
    by false e rest = ap (λ l. o ∷ l) (rest e)

-- a place that is free stays so as an object without bytes comes
pub take_more : (media : Media) (row : ObjectRow) (extent : Extent) → can_take media extent ≡ true
    → can_take (with_allocated row.serial row.idle_since (row.id ∷ []) media) extent ≡ true
take_more media row extent can =
    let clear : ObjectRow → Bool = λ r. is_clear_of extent.start (blocks_of extent.length) r.state in
    ap (λ b. (nat_le (extent.start + blocks_of extent.length) media.blocks && b) && (nat_lt 0 extent.length || (extent.start == 0)))
    (list_all-append clear media.objects (allocated_rows row.serial row.idle_since (row.id ∷ [])) ∙ and_true (list_all clear media.objects)) ∙ can

-- a place of no blocks
pub no_blocks : (objects : List ObjectRow) (blocks start : ℕ)
    → ((nat_le (start + 0) blocks && list_all (λ r. is_clear_of start 0 r.state) objects) && (nat_lt 0 0 || (start == 0))) ≡ (start == 0)
no_blocks objects blocks start = by (start == 0) (nat_lt 0 0) refl refl
  where
    clear : start ≡ 0 → (s : ObjectState) → is_clear_of start 0 s ≡ true
    clear at_start Allocated = refl
    clear at_start (Stored other size digest) =
        or_left (nat_le (start + 0) other) (nat_le (other + blocks_of size) start) (le-leb (start + 0) other (omega (arith, at_start)))

    fits : start ≡ 0 → nat_le (start + 0) blocks ≡ true
    fits at_start = le-leb (start + 0) blocks (omega (arith, at_start))

    no : (b : Bool) → (b && false) ≡ false
    no true = refl
    no false = refl

    yes : (t : Bool) → (t || true) ≡ true
    yes true = refl
    yes false = refl

    by : (z t : Bool) → (start == 0) ≡ z → nat_lt 0 0 ≡ t
        → ((nat_le (start + 0) blocks && list_all (λ r. is_clear_of start 0 r.state) objects) && (t || z)) ≡ z
    by true t e et =
        let at_start = eqb-true start 0 e in
        and_from (nat_le (start + 0) blocks && list_all (λ r. is_clear_of start 0 r.state) objects) (t || true)
        (and_from (nat_le (start + 0) blocks) (list_all (λ r. is_clear_of start 0 r.state) objects) (fits at_start)
        (list_all-from_In (λ (r : ObjectRow). is_clear_of start 0 r.state) objects (λ r here. clear at_start r.state))) (yes t)
    by false true e et = absurd (grind (arith, nat_tests))
    by false false e et = no (nat_le (start + 0) blocks && list_all (λ r. is_clear_of start 0 r.state) objects)

-- the last of those that rise tells all
pub behind_last : {X : Type 0} (serial : X → ℕ) (rows : List X) (row : X) (n : ℕ) → rises_by serial (rows ++ row ∷ []) ≡ true
    → list_all (λ r. nat_lt (serial r) n) (rows ++ row ∷ []) ≡ nat_lt (serial row) n
behind_last serial rows row n rise =
    let parts = and_parts (rises_by serial rows) (list_all (λ r. nat_lt (serial r) (serial row)) rows)
    (sym (pairs_last (λ a b. nat_lt (serial a) (serial b)) rows row) ∙ rise) in
    all_last (λ r. nat_lt (serial r) n) rows row ∙ by (nat_lt (serial row) n) refl parts.1
  where
    through : (a b : ℕ) → nat_lt a b ≡ true → nat_lt b n ≡ true → nat_lt a n ≡ true
    through a b e f = grind (arith, nat_tests)

    all : (rs : List _) → nat_lt (serial row) n ≡ true → list_all (λ r. nat_lt (serial r) (serial row)) rs ≡ true
        → list_all (λ r. nat_lt (serial r) n) rs ≡ true
    all [] lt e = refl
    all (r ∷ rs) lt e =
        let p = and_parts (nat_lt (serial r) (serial row)) (list_all (λ x. nat_lt (serial x) (serial row)) rs) e in
        and_from (nat_lt (serial r) n) (list_all (λ x. nat_lt (serial x) n) rs) (through (serial r) (serial row) p.0 lt) (all rs lt p.1)

    by : (b : Bool) → nat_lt (serial row) n ≡ b → list_all (λ r. nat_lt (serial r) (serial row)) rows ≡ true
        → (list_all (λ r. nat_lt (serial r) n) rows && b) ≡ b
    by true e below = ap (λ x. x && true) (all rows e below)
    by false e below = no (list_all (λ r. nat_lt (serial r) n) rows)
      where
        no : (x : Bool) → (x && false) ≡ false
        no true = refl
        no false = refl

-- both ends, one by one
pub ends_are : (range : Option Span) → (is_some (low_of range) && is_some (high_of range)) ≡ has_both_ends range
ends_are None = refl
ends_are (Some s) = refl

-- ---- the media of a good library

pub media_are_good : MediaAreGood
media_are_good library good =
    let segments = library.segments in
    let objects = library.objects in
    let flows = library.catalog.flows in
    let rows = and_parts (each_pair are_compatible segments) (list_all (is_segment_good flows) segments) good.segments in
    let serials : Bool = are_serials_in_order library in
    let counted : Bool = are_serials_good library.next_serial (serials_of library) in
    let urls : Bool = are_urls_distinct library.outbox.hooks in
    let catalog : Bool = is_catalog_in_order library.catalog in
    let all = and_parts (((catalog && are_object_ids_distinct objects) && urls) && serials) counted good.names in
    let most = and_parts ((catalog && are_object_ids_distinct objects) && urls) serials all.0 in
    let ids = and_parts catalog (are_object_ids_distinct objects) (and_parts (catalog && are_object_ids_distinct objects) urls most.0).0 in
    let objects_rise : Bool = rises_by (λ (row : ObjectRow). row.serial) objects in
    let segments_rise : Bool = rises_by (λ (row : SegmentRow). row.serial) segments in
    let requests_rise : Bool = rises_by (λ row. row.serial) library.requests in
    let hooks_rise : Bool = rises_by (λ row. row.serial) library.outbox.hooks in
    let events_rise : Bool = rises_by (λ row. row.serial) library.outbox.events in
    let risen = and_parts objects_rise segments_rise (and_parts (objects_rise && segments_rise) requests_rise
    (and_parts ((objects_rise && segments_rise) && requests_rise) hooks_rise
    (and_parts (((objects_rise && segments_rise) && requests_rise) && hooks_rise) events_rise most.1).0).0).0 in
    let ends : SegmentRow → Bool = λ row. has_both_ends row.segment.range in
    let bounded : list_all ends segments ≡ true =
    list_all-from_In ends segments
    (λ row here. (and_parts (ends row) (is_kept flows row.flow) (list_all-In (is_segment_good flows) segments rows.1 row here)).0) in
    and_from (are_objects_good library.blocks objects) (are_rows_good objects segments)
    (and_from (are_extents_good library.blocks objects) (are_object_ids_distinct objects && rises_by (λ (row : ObjectRow). row.serial) objects) good.extents
    (and_from (are_object_ids_distinct objects) (rises_by (λ (row : ObjectRow). row.serial) objects) ids.1 risen.0))
    (and_from (each_pair are_compatible segments)
    (list_all ends segments && (are_references_good objects segments && rises_by (λ (row : SegmentRow). row.serial) segments)) rows.0
    (and_from (list_all ends segments) (are_references_good objects segments && rises_by (λ (row : SegmentRow). row.serial) segments) bounded
    (and_from (are_references_good objects segments) (rises_by (λ (row : SegmentRow). row.serial) segments) good.references risen.1)))

-- ---- an object with its bytes

pub held_last : (media bare : Media) (row : ObjectRow) (start size : ℕ) (digest : Option Digest) → row.state ≡ Stored start size digest
    → is_some (object_of row.id media.objects) ≡ false → bare ≡ with_allocated row.serial row.idle_since (row.id ∷ []) media
    → can_take media (record { start = start; length = size }) ≡ true
    → Some (with_stored row.id (record { start = start; length = size }) digest row.idle_since bare)
    ≡ media_if (can_hold media row.state) (with_objects (row ∷ []) media)
held_last media bare row start size digest is new came can =
    if_good (can_hold media row.state) (with_stored row.id (record { start = start; length = size }) digest row.idle_since bare) (with_objects (row ∷ []) media)
    (ap (can_hold media) is ∙ can)
    (ap (with_stored row.id (record { start = start; length = size }) digest row.idle_since) came
    ∙ ap (λ l. record { blocks = media.blocks; segments = media.segments; objects = l }) (stored_last media.objects row start size digest is new))

-- a place of no bytes
pub none_taken : (media : Media) (extent : Extent) → extent.length ≡ 0 → (extent.start == 0) ≡ can_take media extent
none_taken media extent none =
    sym (ap (λ n. (nat_le (extent.start + blocks_of n) media.blocks && list_all (λ r. is_clear_of extent.start (blocks_of n) r.state) media.objects)
    && (nat_lt 0 n || (extent.start == 0))) none ∙ no_blocks media.objects media.blocks extent.start)

-- a place of some
pub some_blocks : (n : ℕ) → 0 < n → 0 < blocks_of n
some_blocks n some = omega (arith, some)

pub some_taken : (media : Media) (extent : Extent) (free : Bool) → 0 < extent.length
    → free ≡ is_free media.objects media.blocks (blocks_of extent.length) extent.start → free ≡ can_take media extent
some_taken media extent free some is =
    is ∙ sym (and_true (is_free media.objects media.blocks (blocks_of extent.length) extent.start))
    ∙ ap (λ b. is_free media.objects media.blocks (blocks_of extent.length) extent.start && (b || (extent.start == 0))) (sym (lt-ltb 0 extent.length some))

-- the last of a list
record Ended {X : Type 0} (x : X) (xs : List X) : Type 0 where
  front : List X
  is : xs ≡ front ++ x ∷ []

ended : {X : Type 0} (x : X) (xs : List X) → Some x ≡ slice_get xs (length xs - 1) → Ended x xs
ended x [] e = absurd (grind (arith, e))
ended x (y ∷ []) e = record { front = []; is = let same : x ≡ y = grind (arith, e) in ap (λ z. z ∷ []) (sym same) }
ended x (y ∷ z ∷ zs) e =
    let less : length (y ∷ z ∷ zs) - 1 ≡ suc (length (z ∷ zs) - 1) = omega arith in
    let rest = ended x (z ∷ zs) (e ∙ ap (slice_get (y ∷ z ∷ zs)) less) in
    record { front = y ∷ rest.front; is = ap (λ l. y ∷ l) rest.is }

pub last_tells : {X : Type 0} (serial : X → ℕ) (rows : List X) (row : X) (n : ℕ) → rises_by serial rows ≡ true → Some row ≡ slice_get rows (length rows - 1)
    → nat_lt (serial row) n ≡ list_all (λ r. nat_lt (serial r) n) rows
last_tells serial rows row n rise e =
    let end = ended row rows e in
    sym (ap (list_all (λ r. nat_lt (serial r) n)) end.is
    ∙ behind_last serial end.front row n (subst (λ l. rises_by serial l ≡ true) end.is rise))
