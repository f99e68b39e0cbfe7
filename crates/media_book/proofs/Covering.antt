-- The segments that a cut or a delete step takes, among all segments by rising serial.
use Rattle.std.proofs.Common.{◌≡◌, ℕ, zero, suc, ◌-◌, nat_le, nat_lt, Bool, true, false, not, ◌||◌, cond, List, [], ◌∷◌, Option, Some, drop, filter, length, take, refl, sym, subst, ap, ◌∙◌, arith}
use Rattle.std.specs.Prelude.{◌==◌}
use Rattle.std.specs.List.{list_all, list_any}
use Rattle.std.proofs.lemmas.Bool.{and_parts}
use Rattle.std.proofs.lemmas.Bool.Decides.{nat_tests}
use Rattle.std.proofs.lemmas.List.{length-drop}
use Rattle.time_range.specs.declared.ranges.Span.{Span}
use Rattle.media_rows.specs.declared.request.DeleteRow.{DeleteRow}
use Rattle.media_rows.specs.declared.segment.SegmentRow.{SegmentRow}
use Rattle.media_rows.specs.Good.{rises_by}
use Rattle.media_rows.specs.Lists.{each_pair, in_order}
use Rattle.media_rows.specs.Objects.{idled}
use Rattle.media_rows.specs.Ranges.{covers}
use Rattle.media_rows.specs.Requests.{first_unfinished, is_finished_by_step, removed_by_step, requested, step_size}
use Rattle.media_rows.specs.Segments.{covered, segments_of, starts_before, without_segments}
use Rattle.delete_work.specs.Work.{AreOfFlow}
use Rattle.id_index.proofs.Pairs.{filter_swap}
use Rattle.library_laws.proofs.ListLemmas.{In, In-filter, In-in_order, In-take, list_all-In, list_all-from_In, rises-filter, take-whole}
use Rattle.library_laws.proofs.PageLemmas.{starts_in_order}
use Rattle.segment_book.proofs.Ordered.{kept_in_order}
use Rattle.media_book.specs.Media.{AreSome, Media, are_segments_below, without_rows}
use Rattle.media_book.proofs.Removals.{serial_of}
use Rattle.media_book.proofs.Serials.{all_ordered, are_two, distinct_of_two, pairs_ordered, pairs_taken, there_of, two_of_rising, two_turned, without, without_ordered}
use Rattle.library_laws.proofs.FollowLemmas.{filter-whole}

-- ---- the segments of a flow, by rising first point

-- each is of the flow, and no two have one serial
pub of_flow : (flow : ℕ) (segments : List SegmentRow) → rises_by (λ (row : SegmentRow). row.serial) segments ≡ true
    → AreOfFlow flow (in_order starts_before (segments_of flow segments))
of_flow flow segments rise =
    let own : SegmentRow → Bool = λ row. row.flow == flow in
    record {
      flows = all_ordered starts_before own (filter own segments)
          ∙ list_all-from_In own (filter own segments) (λ row here. (In-filter own segments row here).1);
      serials = distinct_of_two serial_of (in_order starts_before (filter own segments))
          (pairs_ordered starts_before (are_two serial_of) (two_turned serial_of) (filter own segments)
          ∙ rises-filter (are_two serial_of) own segments (two_of_rising serial_of segments rise));
    }

-- they are some of the segments
pub flow_some : (flow : ℕ) (rows segments : List SegmentRow) → rises_by (λ (row : SegmentRow). row.serial) segments ≡ true
    → rows ≡ in_order starts_before (segments_of flow segments) → AreSome rows segments
flow_some flow rows segments rise is =
    let all = of_flow flow segments rise in
    subst (λ l. AreSome l segments) (sym is)
    (record {
      there = there_of (in_order starts_before (segments_of flow segments)) segments (λ row here. (In-filter (λ r. r.flow == flow) segments row
          (In-in_order starts_before (segments_of flow segments) row here)).0);
      once = all.serials;
    })

-- and go as they would by serial
pub flow_goes : (flow moment : ℕ) (media : Media)
    → without_rows (in_order starts_before (segments_of flow media.segments)) moment media ≡ without_rows (segments_of flow media.segments) moment media
flow_goes flow moment media =
    ap (λ l. record { blocks = media.blocks; segments = l; objects = idled media.segments l moment media.objects })
    (without_ordered serial_of starts_before (segments_of flow media.segments) media.segments)

-- ---- a step removes some of the segments

covered_there : (segments : List SegmentRow) (flow : ℕ) (range : Option Span) (row : SegmentRow) → In row (covered segments flow range) → In row segments
covered_there segments flow range row here =
    (In-filter (λ r. r.flow == flow) segments row
    (In-filter (λ r. covers range r.segment.range) (segments_of flow segments) row
    (In-in_order starts_before (filter (λ r. covers range r.segment.range) (segments_of flow segments)) row here)).0).0

covered_two : (segments : List SegmentRow) (flow : ℕ) (range : Option Span) → rises_by (λ (row : SegmentRow). row.serial) segments ≡ true
    → each_pair (are_two serial_of) (covered segments flow range) ≡ true
covered_two segments flow range rise =
    pairs_ordered starts_before (are_two serial_of) (two_turned serial_of) (filter (λ r. covers range r.segment.range) (segments_of flow segments))
    ∙ rises-filter (are_two serial_of) (λ r. covers range r.segment.range) (segments_of flow segments)
    (rises-filter (are_two serial_of) (λ r. r.flow == flow) segments (two_of_rising serial_of segments rise))

pub removed_some : (request : DeleteRow) (segments : List SegmentRow) → rises_by (λ (row : SegmentRow). row.serial) segments ≡ true
    → AreSome (removed_by_step segments request) segments
removed_some request segments rise =
    let all = covered segments request.flow request.range in
    let was_there : SegmentRow → Bool = λ row. nat_lt row.serial request.serial in
    record {
      there = there_of (take step_size (filter was_there all)) segments (λ row here. covered_there segments request.flow request.range row
          (In-filter was_there all row (In-take step_size (filter was_there all) row here)).0);
      once = distinct_of_two serial_of (take step_size (filter was_there all))
          (pairs_taken (are_two serial_of) step_size (filter was_there all)
          (rises-filter (are_two serial_of) was_there all (covered_two segments request.flow request.range rise)));
    }

-- ---- a request that all segments were there before

pub requested_all : (request : DeleteRow) (segments : List SegmentRow) → are_segments_below request.serial segments ≡ true
    → requested segments request ≡ covered segments request.flow request.range
requested_all request segments below =
    let all = covered segments request.flow request.range in
    let was_there : SegmentRow → Bool = λ row. nat_lt row.serial request.serial in
    filter-whole was_there all
    (list_all-from_In was_there all (λ row here. list_all-In was_there segments below row (covered_there segments request.flow request.range row here)))

pub removed_all : (request : DeleteRow) (segments : List SegmentRow) → are_segments_below request.serial segments ≡ true
    → removed_by_step segments request ≡ take step_size (covered segments request.flow request.range)
removed_all request segments below = ap (take step_size) (requested_all request segments below)

-- those that a test keeps and a range covers
covered_kept : (test : SegmentRow → Bool) (segments : List SegmentRow) (flow : ℕ) (range : Option Span)
    → covered (filter test segments) flow range ≡ filter test (covered segments flow range)
covered_kept test segments flow range =
    let within : SegmentRow → Bool = λ r. covers range r.segment.range in
    ap (λ l. in_order starts_before (filter within l)) (filter_swap test (λ r. r.flow == flow) segments)
    ∙ ap (in_order starts_before) (filter_swap test within (segments_of flow segments))
    ∙ sym (kept_in_order starts_before starts_in_order test (filter within (segments_of flow segments)))

-- without its first ones a list is what follows them
same_serial : (n : ℕ) → (n == n) ≡ true
same_serial n = grind (arith, nat_tests)

agreed : {X : Type 0} (p q t : X → Bool) (xs : List X) → list_all t xs ≡ true → ((x : X) → t x ≡ true → p x ≡ q x) → filter p xs ≡ filter q xs
agreed p q t [] e same = refl
agreed p q t (x ∷ xs) e same =
    let parts = and_parts (t x) (list_all t xs) e in
    by (p x) (q x) (same x parts.0) (agreed p q t xs parts.1 same)
  where
    by : (a b : Bool) → a ≡ b → filter p xs ≡ filter q xs → cond a (x ∷ filter p xs) (filter p xs) ≡ cond b (x ∷ filter q xs) (filter q xs)
    by true true s rest = ap (λ l. x ∷ l) rest
    by false false s rest = rest
    by true false s rest = absurd (grind (arith, s))
    by false true s rest = absurd (grind (arith, s))

pub without_front : (n : ℕ) (rows : List SegmentRow) → each_pair (are_two serial_of) rows ≡ true → without serial_of (take n rows) rows ≡ drop n rows
without_front zero rows e = filter-whole (λ row. not (list_any (λ (gone : SegmentRow). gone.serial == row.serial) [])) rows
    (list_all-from_In (λ row. not (list_any (λ (gone : SegmentRow). gone.serial == row.serial) [])) rows (λ row here. refl))
without_front (suc n) [] e = refl
without_front (suc n) (row ∷ rows) e =
    let parts = and_parts (list_all (are_two serial_of row) rows) (each_pair (are_two serial_of) rows) e in
    rw (same_serial row.serial)
    (agreed (λ (r : SegmentRow). not (list_any (λ (gone : SegmentRow). gone.serial == r.serial) (row ∷ take n rows)))
    (λ (r : SegmentRow). not (list_any (λ (gone : SegmentRow). gone.serial == r.serial) (take n rows))) (are_two serial_of row) rows parts.0
    (λ r apart. by (row.serial == r.serial) (list_any (λ (gone : SegmentRow). gone.serial == r.serial) (take n rows)) apart)
    ∙ without_front n rows parts.1)
  where
    by : (p q : Bool) → not p ≡ true → not (p || q) ≡ not q
    by true q e' = absurd (grind (arith, e'))
    by false q e' = refl

-- a step of the request is the last one where it removes all that its range covers
pub finished_all : (request : DeleteRow) (segments : List SegmentRow) → rises_by (λ (row : SegmentRow). row.serial) segments ≡ true
    → are_segments_below request.serial segments ≡ true
    → is_finished_by_step segments request ≡ nat_le (length (covered segments request.flow request.range)) step_size
finished_all request segments rise below =
    let all = covered segments request.flow request.range in
    let stays : SegmentRow → Bool = λ row. not (list_any (λ (gone : SegmentRow). gone.serial == row.serial) (removed_by_step segments request)) in
    let left : requested (filter stays segments) request ≡ drop step_size all =
    requested_all request (filter stays segments) (list_all-from_In (λ row. nat_lt row.serial request.serial) (filter stays segments)
    (λ row here. list_all-In (λ (row : SegmentRow). nat_lt row.serial request.serial) segments below row (In-filter stays segments row here).0))
    ∙ covered_kept stays segments request.flow request.range
    ∙ ap (λ l. without_segments l all) (removed_all request segments below)
    ∙ without_front step_size all (covered_two segments request.flow request.range rise) in
    ap (λ l. length l == 0) left ∙ ap (λ n. n == 0) (length-drop step_size all) ∙ few (length all)
  where
    few : (n : ℕ) → ((n - step_size) == 0) ≡ nat_le n step_size
    few n = by ((n - step_size) == 0) (nat_le n step_size) refl refl
      where
        by : (p q : Bool) → ((n - step_size) == 0) ≡ p → nat_le n step_size ≡ q → p ≡ q
        by true true ep eq = refl
        by false false ep eq = refl
        by true false ep eq = absurd (grind (arith, nat_tests))
        by false true ep eq = absurd (grind (arith, nat_tests))

-- and all that is covered is what the first step takes
pub whole_taken : (rows all : List SegmentRow) (whole : Bool) → rows ≡ take step_size all → whole ≡ nat_le (length all) step_size → whole ≡ true → rows ≡ all
whole_taken rows all whole taken told e =
    taken ∙ take-whole step_size all (let few : nat_le (length all) step_size ≡ true = sym told ∙ e in grind (arith, nat_tests))

-- ---- the request that is due

one_due : (requests : List DeleteRow) (row other : DeleteRow) → first_unfinished requests ≡ Some row → first_unfinished requests ≡ Some other → row ≡ other
one_due requests row other e f = let same = sym e ∙ f in grind (arith, same)

-- what a step on the index of its flow says of all segments
pub index_is : (requests : List DeleteRow) (row other : DeleteRow) (index segments : List SegmentRow) → first_unfinished requests ≡ Some row
    → index ≡ in_order starts_before (segments_of row.flow segments) → first_unfinished requests ≡ Some other
    → index ≡ in_order starts_before (segments_of other.flow segments)
index_is requests row other index segments e is f =
    is ∙ ap (λ (r : DeleteRow). in_order starts_before (segments_of r.flow segments)) (one_due requests row other e f)
