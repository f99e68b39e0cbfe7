-- How many turns can change something: each removes a segment or an object, or works a delete request off, and each of these has a serial of its own.
use Rattle.std.proofs.Common.{◌≡◌, ◌≤◌, ◌<◌, ◌+◌, ◌∙◌, ◌==◌, ℕ, Bool, true, false, not, cond, List, [], ◌∷◌, ◌++◌, All, map, filter, length, take, Option, Some, None, inl, inr, refl, sym, ap, subst, arith, suc, length-append}
use Rattle.std.specs.Prelude.{is_some, nat_lt, nat_le, ◌&&◌}
use Rattle.std.specs.List.{AllByRecursion, IsDistinct, list_all, list_any}
use Rattle.std.proofs.lemmas.Bool.{and_parts, cond_both, eq-eqb, eqb-true, false≢true, not-true}
use Rattle.std.proofs.lemmas.Bool.Decides.{leb_tells}
use Rattle.std.proofs.lemmas.List.{length-map}
use Rattle.std.proofs.lemmas.List.Elements.{All-head, All-tail}
use Rattle.std.proofs.lemmas.Map.Steps.{length-le_from_distinct_below}
use Rattle.media_rows.specs.declared.change.Change.TheVariants as changes
use Rattle.media_rows.specs.declared.event.EventRow.{EventRow}
use Rattle.media_rows.specs.declared.hook.HookRow.{HookRow}
use Rattle.media_rows.specs.declared.object.ObjectRow.{ObjectRow}
use Rattle.media_rows.specs.declared.request.DeleteRow.{DeleteRow}
use Rattle.media_rows.specs.declared.segment.SegmentRow.{SegmentRow}
use Rattle.media_rows.specs.Changes.{after, after_request_step, after_step_of, is_flow_gone, remove_flow, remove_segments, touch_flow, with_step}
use Rattle.media_rows.specs.Apply.{turn}
use Rattle.media_rows.specs.Catalog.{after_touch}
use Rattle.media_rows.specs.declared.change.Change.{Change}
use Rattle.media_rows.specs.Good.{Good}
use Rattle.media_rows.specs.Library.{Library, last_serial, serials_of}
use Rattle.media_rows.specs.Lists.{are_distinct, rises}
use Rattle.media_rows.specs.Objects.{due_objects, idled_row, is_due, swept_objects, without_objects}
use Rattle.media_rows.specs.declared.request.DeleteStatus.TheVariants.{Done}
use Rattle.media_rows.specs.Requests.{after_end, after_step, done_kept, done_count, ended_row, first_unfinished, is_done, is_finished_by_step, is_unfinished, left_by_step, newest_done, removed_by_step, requested, stepped_row}
use Rattle.media_rows.specs.Segments.{covered, segments_of, without_segments}
use Rattle.library_laws.specs.MediaLaws.{IsGoodArchive}
use Rattle.library_laws.proofs.KeptLemmas.{same_by_key}
use Rattle.library_laws.proofs.ListLemmas.{In, in_order-In, In-filter, In-in_order, In-take, count-le, count-same, filter-In, find-In, length-filter_passing, list_any-In, list_any-from_In}
use Rattle.library_laws.proofs.OutboxKept.{Names-from}
use Rattle.run_history.specs.Steps.{last_or}
use Rattle.store_states.specs.States.{StoreState}
use Rattle.tams_machine.specs.Answers.{state_with_change, turned_by}
use Rattle.store_commands.specs.Working.{HaveTurned}

-- the segments, the objects and the delete requests that aren't worked off
abbrev pub turns_left : Library → ℕ
turns_left library = length library.segments + length library.objects + length (filter is_unfinished library.requests)

-- ---- fewer than before

length-filter-le : {X : Type 0} (p : X → Bool) (xs : List X) → length (filter p xs) ≤ length xs
length-filter-le p xs = omega (arith, count-le p (λ x. true) xs (λ x here e. refl), length-filter_passing (λ x. true) xs (λ x. refl))

-- a test that leaves one out
filter_less : {X : Type 0} (p : X → Bool) (xs : List X) (x : X) → In x xs → p x ≡ false → length (filter p xs) < length xs
filter_less p xs x here out =
    elim (leb_tells (length xs) (length (filter p xs))) [
      | inl all ↦ absurd (false≢true (sym out ∙ count-same p (λ y. true) xs (λ y there e. refl)
          (omega (arith, all.1, length-filter_passing (λ y. true) xs (λ y. refl))) x here refl))
      | inr some ↦ some.1
    ]

counted_map : {X : Type 0} (b : Bool) (y x : X) (ys xs : List X) → length ys ≡ length xs → length (cond b (y ∷ ys) ys) ≡ length (cond b (x ∷ xs) xs)
counted_map true y x ys xs e = ap suc e
counted_map false y x ys xs e = e

length-filter_map : {X : Type 0} (p : X → Bool) (f : X → X) (xs : List X) → length (filter p (map f xs)) ≡ length (filter (λ x. p (f x)) xs)
length-filter_map p f [] = refl
length-filter_map p f (x ∷ xs) =
    counted_map (p (f x)) (f x) x (filter p (map f xs)) (filter (λ y. p (f y)) xs) (length-filter_map p f xs)

-- rows that go by their serials, one of which is there
without_less : {X : Type 0} (serial : X → ℕ) (gone xs : List X) (x : X) → In x gone → In x xs
    → length (filter (λ row. not (list_any (λ other. serial other == serial row) gone)) xs) < length xs
without_less serial gone xs x going here =
    filter_less (λ row. not (list_any (λ other. serial other == serial row) gone)) xs x here
    (ap not (list_any-from_In (λ other. serial other == serial x) gone x going (eq-eqb (serial x) (serial x) refl)))

some_item : {X : Type 0} (xs : List X) → nat_lt 0 (length xs) ≡ true → (x : X) × In x xs
some_item [] e = absurd (false≢true e)
some_item (x ∷ xs) e = (x, inl refl)

some_taken : {X : Type 0} (n : ℕ) (xs : List X) (x : X) → In x xs → (y : X) × In y (take (suc n) xs)
some_taken n [] x here = absurd here
some_taken n (y ∷ ys) x here = (y, inl refl)

-- ---- a sweep

sweep_less : (library : Library) (moment : ℕ) → nat_lt 0 (length (swept_objects library.segments library.objects moment)) ≡ true
    → length (without_objects (swept_objects library.segments library.objects moment) library.objects) < length library.objects
sweep_less library moment some =
    let first = some_item (swept_objects library.segments library.objects moment) some in
    let due = In-take 16 (due_objects library.segments library.objects moment) first.0 first.1 in
    let kept = In-filter (is_due library.segments moment) library.objects first.0
    (In-in_order _ (filter (is_due library.segments moment) library.objects) first.0 due) in
    without_less (λ (row : ObjectRow). row.serial) (swept_objects library.segments library.objects moment) library.objects first.0 first.1 kept.0

-- ---- delete requests

kept_fewer : {X : Type 0} (b : Bool) (x : X) (xs ys : List X) → length xs ≤ length ys → length (cond b (x ∷ xs) xs) ≤ length (cond b (x ∷ ys) ys)
kept_fewer true x xs ys le = omega (arith, le)
kept_fewer false x xs ys le = le

done_fewer : (b : Bool) (row : DeleteRow) (later : List DeleteRow) → length (filter is_unfinished (newest_done later)) ≤ length (filter is_unfinished later)
    → (b ≡ true → is_done row.status ≡ true)
    → length (filter is_unfinished (cond b (newest_done later) (row ∷ newest_done later))) ≤ length (filter is_unfinished (row ∷ later))
done_fewer true row later le done =
    omega (arith, le, ap (λ c. length (cond (not c) (row ∷ filter is_unfinished later) (filter is_unfinished later))) (done refl))
done_fewer false row later le done = kept_fewer (is_unfinished row) row (filter is_unfinished (newest_done later)) (filter is_unfinished later) le

newest_fewer : (requests : List DeleteRow) → length (filter is_unfinished (newest_done requests)) ≤ length (filter is_unfinished requests)
newest_fewer [] = omega arith
newest_fewer (row ∷ later) =
    done_fewer (is_done row.status && nat_le done_kept (done_count later)) row later (newest_fewer later)
    (λ e. (and_parts (is_done row.status) (nat_le done_kept (done_count later)) e).0)

ended_was : (b : Bool) (row : DeleteRow) (moment : ℕ) → is_unfinished (cond b (record row { status = Done; updated = moment }) row) ≡ true
    → is_unfinished row ≡ true
ended_was true row moment e = absurd (false≢true e)
ended_was false row moment e = e

-- rows that become done or stay
ended_fewer : (flow moment : ℕ) (requests : List DeleteRow)
    → length (filter is_unfinished (after_end flow moment requests)) ≤ length (filter is_unfinished requests)
ended_fewer flow moment requests =
    omega (
      arith,
      newest_fewer (map (ended_row flow moment) requests),
      length-filter_map is_unfinished (ended_row flow moment) requests,
      count-le (λ row. is_unfinished (ended_row flow moment row)) is_unfinished requests
          (λ row here. ended_was (is_unfinished row && (row.flow == flow)) row moment),
    )

some_left : {X : Type 0} (xs : List X) → (length xs == 0) ≡ false → (x : X) × In x xs
some_left [] e = absurd (false≢true (sym e))
some_left (x ∷ xs) e = (x, inl refl)

-- ---- a step of the request that is due

module _ (library : Library) (moment : ℕ) (good : Good library) (request : DeleteRow) (is : first_unfinished library.requests ≡ Some request) where
  abbrev removed : List SegmentRow
  removed = removed_by_step library.segments request

  abbrev finished : Bool
  finished = is_finished_by_step library.segments request

  abbrev stepped : Bool → DeleteRow → DeleteRow
  stepped done row = cond (row.serial == request.serial) (stepped_row done moment row) row

  found : In request library.requests × (is_unfinished request ≡ true)
  found = find-In is_unfinished library.requests request is

  was_by : (b done : Bool) (row : DeleteRow) → In row library.requests → (row.serial == request.serial) ≡ b
      → is_unfinished (cond b (stepped_row done moment row) row) ≡ true → is_unfinished row ≡ true
  was_by true done row here same e =
      let one = same_by_key (λ (r : DeleteRow). r.serial) library.requests (Names-from library good.names).requests_rise row request here found.0
      (eqb-true row.serial request.serial same) in
      ap is_unfinished one ∙ found.1
  was_by false done row here same e = e

  was : (done : Bool) (row : DeleteRow) → In row library.requests → is_unfinished (stepped done row) ≡ true → is_unfinished row ≡ true
  was done row here = was_by (row.serial == request.serial) done row here refl

  requests_fewer : (done : Bool) → length (filter is_unfinished (after_step request.serial done moment library.requests))
      ≤ length (filter is_unfinished library.requests)
  requests_fewer done =
      omega (
        arith,
        newest_fewer (map (stepped done) library.requests),
        length-filter_map is_unfinished (stepped done) library.requests,
        count-le (λ row. is_unfinished (stepped done row)) is_unfinished library.requests (was done),
      )

  -- once nothing is left, the request is done
  is_done_then : is_unfinished (stepped true request) ≡ false
  is_done_then = ap (λ b. is_unfinished (cond b (stepped_row true moment request) request)) (eq-eqb request.serial request.serial refl)

  passes_less : length (filter (λ row. is_unfinished (stepped true row)) library.requests) < length (filter is_unfinished library.requests)
  passes_less =
      elim (leb_tells (length (filter is_unfinished library.requests)) (length (filter (λ row. is_unfinished (stepped true row)) library.requests))) [
        | inl all ↦ absurd (false≢true (sym is_done_then ∙ count-same (λ row. is_unfinished (stepped true row)) is_unfinished library.requests (was true)
            all.1 request found.0 found.1))
        | inr some ↦ some.1
      ]

  requests_less : length (filter is_unfinished (after_step request.serial true moment library.requests)) < length (filter is_unfinished library.requests)
  requests_less =
      omega (
        arith,
        newest_fewer (map (stepped true) library.requests),
        length-filter_map is_unfinished (stepped true) library.requests,
        passes_less,
      )

  -- what is asked for is among the segments
  asked_in : (segments : List SegmentRow) (row : SegmentRow) → In row (requested segments request) → In row segments
  asked_in segments row here =
      let early = In-filter (λ (s : SegmentRow). nat_lt s.serial request.serial) (covered segments request.flow request.range) row here in
      let covering = In-filter _ (segments_of request.flow segments) row (In-in_order _ _ row early.0) in
      (In-filter _ segments row covering.0).0

  still_asked : (segments fewer : List SegmentRow) → ((row : SegmentRow) → In row fewer → In row segments) → (row : SegmentRow)
      → In row (requested fewer request)
      → In row (requested segments request)
  still_asked segments fewer among row here =
      let early = In-filter (λ (s : SegmentRow). nat_lt s.serial request.serial) (covered fewer request.flow request.range) row here in
      let covering = In-filter _ (segments_of request.flow fewer) row (In-in_order _ _ row early.0) in
      let of_flow = In-filter _ fewer row covering.0 in
      filter-In (λ (s : SegmentRow). nat_lt s.serial request.serial) (covered segments request.flow request.range) row
      (in_order-In _ _ row (filter-In _ (segments_of request.flow segments) row (filter-In _ segments row (among row of_flow.0) of_flow.1) covering.1)) early.1

  -- where something is left, something went
  segments_less : finished ≡ false → length (without_segments removed library.segments) < length library.segments
  segments_less more =
      let left = left_by_step library.segments request in
      let some : (row : SegmentRow) × In row left = some_left left more in
      let asked = still_asked library.segments (without_segments removed library.segments)
      (λ row here. (In-filter (λ (s : SegmentRow). not (list_any (λ (gone : SegmentRow). gone.serial == s.serial) removed)) library.segments row here).0)
      some.0 some.1 in
      let first = some_taken 31 (requested library.segments request) some.0 asked in
      without_less (λ (row : SegmentRow). row.serial) removed library.segments first.0 first.1
      (asked_in library.segments first.0 (In-take 32 (requested library.segments request) first.0 first.1))

  segments_fewer : length (without_segments removed library.segments) ≤ length library.segments
  segments_fewer = length-filter-le _ library.segments

  -- both together
  less_by : (done : Bool) → finished ≡ done → length (without_segments removed library.segments)
      + length (filter is_unfinished (after_step request.serial done moment library.requests))
      < length library.segments + length (filter is_unfinished library.requests)
  less_by true e = omega (arith, requests_less, segments_fewer)
  less_by false e = omega (arith, requests_fewer false, segments_less e)

  segments_go : (touched : Library) → touched.segments ≡ library.segments → touched.objects ≡ library.objects
      → touched.requests ≡ after_step request.serial finished moment library.requests
      → turns_left (remove_segments removed moment touched) < turns_left library
  segments_go touched segments objects requests =
      omega (
        arith,
        less_by finished refl,
        ap (λ (s : List SegmentRow). length (without_segments removed s)) segments,
        length-map touched.objects (idled_row touched.segments (without_segments removed touched.segments) moment),
        ap (λ (o : List ObjectRow). length o) objects,
        ap (λ (r : List DeleteRow). length (filter is_unfinished r)) requests,
      )

  -- and the flow with the last ones, where that was asked for
  left_after : (gone : Bool) (touched : Library) → touched.segments ≡ library.segments → touched.objects ≡ library.objects
      → touched.requests ≡ after_step request.serial finished moment library.requests
      → turns_left (cond gone (remove_flow request.flow moment (remove_segments removed moment touched)) (remove_segments removed moment touched))
      < turns_left library
  left_after true touched segments objects requests =
      omega (arith, segments_go touched segments objects requests, ended_fewer request.flow moment touched.requests)
  left_after false touched segments objects requests = segments_go touched segments objects requests

  step_less : turns_left (after_request_step moment request library) < turns_left library
  step_less =
      let ws : Library = with_step request moment library in
      let other : Library = record ws { catalog = after_touch request.flow moment ws.catalog } in
      left_after (is_flow_gone request library) (touch_flow request.flow removed moment ws)
      (cond_both (length removed == 0) ws other (λ (l : Library). l.segments ≡ library.segments) (λ e. refl) (λ e. refl))
      (cond_both (length removed == 0) ws other (λ (l : Library). l.objects ≡ library.objects) (λ e. refl) (λ e. refl))
      (cond_both (length removed == 0) ws other (λ (l : Library). l.requests ≡ ws.requests) (λ e. refl) (λ e. refl))

-- ---- a turn

delete_less : (library : Library) (moment : ℕ) → Good library → (o : Option DeleteRow) → first_unfinished library.requests ≡ o → is_some o ≡ true
    → turns_left (after_step_of o moment library) < turns_left library
delete_less library moment good None is some = absurd (false≢true some)
delete_less library moment good (Some request) is some = step_less library moment good request is

turn_by : (library : Library) (moment : ℕ) (change : Change) → Good library → (asked due : Bool) → is_some (first_unfinished library.requests) ≡ asked
    → nat_lt 0 (length (swept_objects library.segments library.objects moment)) ≡ due
    → cond asked (Some (changes.DeleteStep moment)) (cond due (Some (changes.SweepStep moment)) None) ≡ Some change
    → turns_left (after change library) < turns_left library
turn_by library moment change good true due asked some is =
    let same : changes.DeleteStep moment ≡ change = cc in
    subst (λ (c : Change). turns_left (after c library) < turns_left library) same
    (delete_less library moment good (first_unfinished library.requests) refl asked)
turn_by library moment change good false true asked some is =
    let same : changes.SweepStep moment ≡ change = cc in
    subst (λ (c : Change). turns_left (after c library) < turns_left library) same (omega (arith, sweep_less library moment some))
turn_by library moment change good false false asked some is = absurd cc

-- each turn that changes something leaves fewer of them
pub turn_less : (library : Library) (moment : ℕ) (change : Change) → Good library → turn library moment ≡ Some change
    → turns_left (after change library) < turns_left library
turn_less library moment change good is = turn_by library moment change good _ _ refl refl is

-- ---- how many there are

distinct_all : (x : ℕ) (xs : List ℕ) → list_all (λ y. not (x == y)) xs ≡ true → AllByRecursion (λ y. (x == y) ≡ false) xs
distinct_all x [] e = tt
distinct_all x (y ∷ ys) e =
    let parts = and_parts (not (x == y)) (list_all (λ z. not (x == z)) ys) e in
    (not-true (x == y) parts.0, distinct_all x ys parts.1)

distinct_from : (xs : List ℕ) → are_distinct xs ≡ true → IsDistinct ◌==◌ xs
unfolding IsDistinct
distinct_from [] e = tt
distinct_from (x ∷ xs) e =
    let parts = and_parts (list_all (λ y. not (x == y)) xs) (rises (λ a b. not (a == b)) xs) e in
    (distinct_all x xs parts.0, distinct_from xs parts.1)

length-five : (a b c d e : List ℕ) → length (a ++ b ++ c ++ d ++ e) ≡ length a + length b + length c + length d + length e
length-five a b c d e =
    omega (arith, length-append (a ++ b ++ c ++ d) e, length-append (a ++ b ++ c) d, length-append (a ++ b) c, length-append a b)

-- each of them has a serial of its own
pub left_few : (library : Library) → Good library → turns_left library ≤ last_serial
left_few library good =
    let names = Names-from library good.names in
    let few : length (serials_of library) ≤ library.next_serial =
    length-le_from_distinct_below (serials_of library) library.next_serial (distinct_from (serials_of library) names.serials.distinct)
    (λ q any. let found = list_any-In (λ s. q == s) (serials_of library) any in
    omega (arith, (names.serials.within found.0 found.1).1, eqb-true q found.0 found.2)) in
    let all : length (serials_of library) ≡ length (map (λ (row : ObjectRow). row.serial) library.objects)
    + length (map (λ (row : SegmentRow). row.serial) library.segments) + length (map (λ (row : DeleteRow). row.serial) library.requests)
    + length (map (λ (row : HookRow). row.serial) library.outbox.hooks) + length (map (λ (row : EventRow). row.serial) library.outbox.events) =
    length-five _ _ _ _ _ in
    omega (
      arith,
      few,
      all,
      names.most,
      length-map library.objects (λ (row : ObjectRow). row.serial),
      length-map library.segments (λ (row : SegmentRow). row.serial),
      length-map library.requests (λ (row : DeleteRow). row.serial),
      length-filter-le is_unfinished library.requests,
    )

-- ---- turns of a run

abbrev pub left_in : StoreState → ℕ
left_in s = turns_left s.archive.library

fewer_by : (s next : StoreState) (moment : ℕ) (change : Change) (fits : Bool) → turns_left (after change s.archive.library) < left_in s
    → cond fits (Some (state_with_change s change [])) None ≡ Some next → left_in next < left_in s
fewer_by s next moment change true less is =
    let same : state_with_change s change [] ≡ next = cc in subst (λ (n : StoreState). left_in n < left_in s) same less
fewer_by s next moment change false less is = absurd cc

turned_less : (s next : StoreState) (moment : ℕ) (due : Option Change) → Good s.archive.library → turn s.archive.library moment ≡ due
    → turned_by s due ≡ Some next → left_in next < left_in s
turned_less s next moment None good due is = absurd cc
turned_less s next moment (Some change) good due is = fewer_by s next moment change _ (turn_less s.archive.library moment change good due) is

turns_fewer : (s : StoreState) (moments : List ℕ) (states : List StoreState) → HaveTurned s moments states → All (λ t. IsGoodArchive t.archive) (s ∷ states)
    → length moments + left_in (last_or s states) ≤ left_in s
turns_fewer s [] [] turned good = omega arith
turns_fewer s [] (next ∷ states) turned good = absurd cc
turns_fewer s (moment ∷ moments) [] turned good = absurd turned
turns_fewer s (moment ∷ moments) (next ∷ states) turned good =
    let here = All-head (λ (t : StoreState). IsGoodArchive t.archive) s (next ∷ states) good in
    let later = All-tail (λ (t : StoreState). IsGoodArchive t.archive) s (next ∷ states) good in
    omega (arith, turned_less s next moment (turn s.archive.library moment) here.good refl turned.0, turns_fewer next moments states turned.1 later)

-- a run of turns ends before they can't be counted any more
pub turns_few : (s : StoreState) (moments : List ℕ) (states : List StoreState) → HaveTurned s moments states → All (λ t. IsGoodArchive t.archive) (s ∷ states)
    → length moments ≤ last_serial
turns_few s moments states turned good =
    let here = All-head (λ (t : StoreState). IsGoodArchive t.archive) s states good in
    omega (arith, turns_fewer s moments states turned good, left_few s.archive.library here.good)
