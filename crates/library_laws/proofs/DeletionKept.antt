-- Delete requests that are made, worked off and ended, and flows that go, keep a library good.
use Rattle.std.proofs.Common.{◌≡◌, ℕ, suc, ◌+◌, ◌≤◌, Bool, true, false, not, ◌&&◌, ◌||◌, cond, List, [], ◌∷◌, ◌++◌, map, filter, length, nat_lt, Option, Some, None, refl, sym, ap, subst, ◌∙◌, arith}
use Rattle.std.specs.Prelude.{◌==◌, nat_le}
use Rattle.std.specs.List.{list_all}
use Rattle.std.proofs.lemmas.List.{map-append}
use Rattle.std.proofs.lemmas.Bool.{and_parts, and_from, or_right, le-leb, lt-ltb, eqb-true, eqb-false, eq-eqb, ne_eqb, not-true, not_from_false, cond_both, true≢false, false_from_ne_true}
use Rattle.time_range.specs.declared.ranges.Span.{Span}
use Rattle.media_rows.specs.declared.flow.FlowRow.{FlowRow}
use Rattle.media_rows.specs.declared.flow.Member.{Member}
use Rattle.media_rows.specs.declared.request.DeleteRow.{DeleteRow}
use Rattle.media_rows.specs.declared.request.DeleteStatus.TheVariants.{Done}
use Rattle.media_rows.specs.declared.segment.SegmentRow.{SegmentRow}
use Rattle.media_rows.specs.declared.source.SourceRow.{SourceRow}
use Rattle.media_rows.specs.Catalog.{fits_format, source_of, source_before, flow_before, has_flow, flows_after_drop}
use Rattle.media_rows.specs.Changes.{after_ask, with_step, remove_flow}
use Rattle.media_rows.specs.Collections.{member_ids, is_kept, collects_itself, without_entries, Collects, Reaches, there, through}
use Rattle.media_rows.specs.Good.{Good, are_compatible, is_segment_good, is_request_good, is_after_segments, is_collection_good, fits_kept, is_flow_text, is_source_text, is_request_text, is_member_text, rises_by, are_requests_good}
use Rattle.media_rows.specs.Library.{Library, last_serial}
use Rattle.media_rows.specs.Lists.{rises}
use Rattle.media_rows.specs.Moments.{is_moment}
use Rattle.media_rows.specs.Ranges.{has_both_ends, is_eternity}
use Rattle.media_rows.specs.Requests.{is_done, is_unfinished, asked_row, done_count, done_kept, newest_done, stepped_row, ended_row, is_finished_by_step}
use Rattle.library_laws.proofs.ListLemmas.{In, In-filter, filter-In, map-In, In-map, find-In, find-filter, In-from_Contains, Contains-from_In, list_all-In, list_all-from_In, list_any-In, list_any-from_In, rises-filter, list_all-filter}
use Rattle.library_laws.proofs.KeptLemmas.{same_by_key, Sub, fewer_requests, rises-Sub, Serials, counted-New, rises-counted, serials_requests, map-kept, list_all-both, rises-mapped, rises-keys}
use Rattle.library_laws.proofs.CircleLemmas.{collects_itself_is}
use Rattle.library_laws.proofs.CatalogKept.{BodyTexts-from, BodyTexts-test, RowTexts-from, RowTexts-test}
use Rattle.library_laws.proofs.FlowsKept.{kept_source}
use Rattle.library_laws.proofs.RequestLemmas.{request_stays_good, Sub-newest, In-newest, newest_few}
use Rattle.library_laws.proofs.OutboxKept.{request_below, segment_below, Names-from, Names-test, Texts-from, Texts-test}

-- ---- a request that is made

asked_good : (flows : List FlowRow) (segments : List SegmentRow) (flow : ℕ) (range : Option Span) (delete_flow : Bool) (serial moment : ℕ) → is_kept flows flow
    ≡ true → (not delete_flow || is_eternity range) ≡ true
    → is_after_segments segments (asked_row (record { flow = flow; range = range; delete_flow = delete_flow }) serial moment) ≡ true
    → is_request_good flows segments (asked_row (record { flow = flow; range = range; delete_flow = delete_flow }) serial moment) ≡ true
asked_good flows segments flow range false serial moment kept whole after = and_from (is_kept flows flow) true kept refl
asked_good flows segments flow range true serial moment kept whole after = and_from (is_kept flows flow)
    (is_eternity range && is_after_segments segments (asked_row (record { flow = flow; range = range; delete_flow = true }) serial moment)) kept
    (and_from (is_eternity range) (is_after_segments segments (asked_row (record { flow = flow; range = range; delete_flow = true }) serial moment)) whole
    after)

count-asked_step : (b : Bool) (first : DeleteRow) (all later : List DeleteRow) → length all ≡ length later → length (cond b (first ∷ all) all)
    ≡ length (cond b (first ∷ later) later)
count-asked_step true first all later e = ap suc e
count-asked_step false first all later e = e

count-asked : (requests : List DeleteRow) (row : DeleteRow) → is_done row.status ≡ false → done_count (requests ++ row ∷ []) ≡ done_count requests
count-asked [] row e = ap (λ b. length (cond b (row ∷ []) [])) e
count-asked (first ∷ later) row e = count-asked_step (is_done first.status) first (filter (λ r. is_done r.status) (later ++ row ∷ []))
    (filter (λ r. is_done r.status) later) (count-asked later row e)

pub asking_keeps_good : (library : Library) (moment flow : ℕ) (range : Option Span) (delete_flow : Bool) → Good library → is_moment moment ≡ true
    → is_kept library.catalog.flows flow ≡ true
    → (not delete_flow || is_eternity range) ≡ true → library.next_serial + 1 ≤ last_serial
    → Good (after_ask moment (record { flow = flow; range = range; delete_flow = delete_flow }) library)
asking_keeps_good library moment flow range delete_flow good at kept whole most =
    let names = Names-from library good.names in
    let texts = Texts-from library good.texts in
    let row : DeleteRow = asked_row (record { flow = flow; range = range; delete_flow = delete_flow }) library.next_serial moment in
    let asked = and_parts (list_all (is_request_good library.catalog.flows library.segments) library.requests) (nat_le (done_count library.requests) done_kept)
    good.requests in
    record {
      segments = good.segments;
      references = good.references;
      extents = good.extents;
      names = Names-test (after_ask moment (record { flow = flow; range = range; delete_flow = delete_flow }) library) (record {
        catalog = names.catalog;
        objects = names.objects;
        urls = names.urls;
        objects_rise = names.objects_rise;
        segments_rise = names.segments_rise;
        requests_rise = rises-counted (λ r. r.serial) library.requests (row ∷ []) library.next_serial 1 names.requests_rise (request_below library names) refl;
        hooks_rise = names.hooks_rise;
        events_rise = names.events_rise;
        serials = subst (λ (l : List ℕ). Serials (library.next_serial + 1)
            (map (λ r. r.serial) library.objects ++ map (λ r. r.serial) library.segments ++ l ++ map (λ r. r.serial) library.outbox.hooks ++ map (λ r. r.serial)
            library.outbox.events))
            (sym (map-append (λ (r : DeleteRow). r.serial) library.requests (row ∷ [])))
            (serials_requests library.next_serial (library.next_serial + 1) (map (λ r. r.serial) library.objects) (map (λ r. r.serial) library.segments)
            (map (λ r. r.serial) library.requests) (library.next_serial ∷ []) (map (λ r. r.serial) library.outbox.hooks)
            (map (λ r. r.serial) library.outbox.events)
            names.least (omega arith) names.serials (counted-New library.next_serial 1));
        least = omega (arith, names.least);
        most = most;
      });
      sources = good.sources;
      collections = good.collections;
      requests = and_from _ _ (list_all-both (is_request_good library.catalog.flows library.segments) library.requests (row ∷ []) asked.0
          (and_from (is_request_good library.catalog.flows library.segments row) true
          (asked_good library.catalog.flows library.segments flow range delete_flow library.next_serial moment kept whole
          (list_all-from_In (λ s. not (s.flow == flow) || nat_lt s.serial library.next_serial) library.segments
          (λ s here. or_right (not (s.flow == flow)) (nat_lt s.serial library.next_serial)
          (lt-ltb s.serial library.next_serial (segment_below library names s here))))) refl))
          (ap (λ n. nat_le n done_kept) (count-asked library.requests row refl) ∙ asked.1);
      outbox = good.outbox;
      texts = Texts-test (after_ask moment (record { flow = flow; range = range; delete_flow = delete_flow }) library) (record {
        sources = texts.sources;
        flows = texts.flows;
        objects = texts.objects;
        requests = list_all-both is_request_text library.requests (row ∷ []) texts.requests
            (and_from (is_request_text row) true (and_from (is_moment moment) (is_moment moment) at at) refl);
        hooks = texts.hooks;
        events = texts.events;
      });
    }

-- ---- requests that change, and too many done ones that go

-- a change of requests that keeps their serials and their goodness
record Steps (library : Library) (flows : List FlowRow) (change : DeleteRow → DeleteRow) : Type 0 where
  serial : (row : DeleteRow) → (change row).serial ≡ row.serial
  good : (row : DeleteRow) → In row library.requests → is_request_good flows library.segments (change row) ≡ true
  text : (row : DeleteRow) → In row library.requests → is_request_text (change row) ≡ true

requests_good : (library : Library) (flows : List FlowRow) (change : DeleteRow → DeleteRow) → Steps library flows change
    → are_requests_good flows library.segments (newest_done (map change library.requests)) ≡ true
requests_good library flows change is =
    and_from _ _ (list_all-from_In (is_request_good flows library.segments) (newest_done (map change library.requests)) (λ row here.
    let old = In-map change library.requests row (In-newest (map change library.requests) row here) in
    ap (is_request_good flows library.segments) old.2 ∙ is.good old.0 old.1))
    (le-leb (done_count (newest_done (map change library.requests))) done_kept (newest_few (map change library.requests)))

Sub-stepped : (library : Library) (flows : List FlowRow) (change : DeleteRow → DeleteRow) → Steps library flows change
    → Sub (map (λ r. r.serial) (newest_done (map change library.requests))) (map (λ r. r.serial) library.requests)
Sub-stepped library flows change is =
    subst (Sub (map (λ r. r.serial) (newest_done (map change library.requests)))) (map-kept (λ (r : DeleteRow). r.serial) change library.requests is.serial)
    (Sub-newest (map change library.requests))

stepped_rise : (library : Library) (flows : List FlowRow) (change : DeleteRow → DeleteRow) → Steps library flows change
    → rises_by (λ r. r.serial) library.requests ≡ true → rises_by (λ r. r.serial) (newest_done (map change library.requests)) ≡ true
stepped_rise library flows change is rise =
    sym (rises-keys nat_lt (λ (r : DeleteRow). r.serial) (newest_done (map change library.requests)))
    ∙ rises-Sub nat_lt (map (λ r. r.serial) (newest_done (map change library.requests))) (map (λ r. r.serial) library.requests)
    (Sub-stepped library flows change is) (rises-keys nat_lt (λ (r : DeleteRow). r.serial) library.requests ∙ rise)

stepped_texts : (library : Library) (flows : List FlowRow) (change : DeleteRow → DeleteRow) → Steps library flows change
    → list_all is_request_text (newest_done (map change library.requests)) ≡ true
stepped_texts library flows change is =
    list_all-from_In is_request_text (newest_done (map change library.requests)) (λ row here.
    let old = In-map change library.requests row (In-newest (map change library.requests) row here) in ap is_request_text old.2 ∙ is.text old.0 old.1)

-- ---- a step of a request

-- a request after a step: done, or started with all else as it was
stepped_good : (flows : List FlowRow) (segments : List SegmentRow) (finished : Bool) (moment : ℕ) (row : DeleteRow) → (is_unfinished row ≡ true)
    → is_request_good flows segments row ≡ true → is_request_good flows segments (stepped_row finished moment row) ≡ true
stepped_good flows segments true moment row u e = refl
stepped_good flows segments false moment row u e = subst
    (λ b. (not b || (is_kept flows row.flow && (not row.delete_flow || (is_eternity row.range && is_after_segments segments row)))) ≡ true) u e

pub step_keeps_good : (library : Library) (request : DeleteRow) (moment : ℕ) → Good library → is_moment moment ≡ true → In request library.requests
    → is_unfinished request ≡ true → Good (with_step request moment library)
step_keeps_good library request moment good at here_now open_now =
    let names = Names-from library good.names in
    let texts = Texts-from library good.texts in
    let finished : Bool = is_finished_by_step library.segments request in
    let change : DeleteRow → DeleteRow = λ row. cond (row.serial == request.serial) (stepped_row finished moment row) row in
    let asked = and_parts (list_all (is_request_good library.catalog.flows library.segments) library.requests) (nat_le (done_count library.requests) done_kept)
    good.requests in
    let is : Steps library library.catalog.flows change = record {
      serial = λ row. cond_both (row.serial == request.serial) (stepped_row finished moment row) row (λ (r : DeleteRow). r.serial ≡ row.serial) (λ e. refl)
          (λ e. refl);
      good = λ row here. cond_both (row.serial == request.serial) (stepped_row finished moment row) row
          (λ r. is_request_good library.catalog.flows library.segments r ≡ true)
          (λ e. let same = same_by_key (λ (r : DeleteRow). r.serial) library.requests names.requests_rise row request here here_now
          (eqb-true row.serial request.serial e) in
          stepped_good library.catalog.flows library.segments finished moment row (ap is_unfinished same ∙ open_now)
          (list_all-In (is_request_good library.catalog.flows library.segments) library.requests asked.0 row here))
          (λ e. list_all-In (is_request_good library.catalog.flows library.segments) library.requests asked.0 row here);
      text = λ row here. let old = list_all-In is_request_text library.requests texts.requests row here in
          cond_both (row.serial == request.serial) (stepped_row finished moment row) row (λ r. is_request_text r ≡ true)
          (λ e. and_from (is_moment row.created) (is_moment moment) (and_parts (is_moment row.created) (is_moment row.updated) old).0 at) (λ e. old);
    } in
    record {
      segments = good.segments;
      references = good.references;
      extents = good.extents;
      names = Names-test (with_step request moment library) (record {
        catalog = names.catalog;
        objects = names.objects;
        urls = names.urls;
        objects_rise = names.objects_rise;
        segments_rise = names.segments_rise;
        requests_rise = stepped_rise library library.catalog.flows change is names.requests_rise;
        hooks_rise = names.hooks_rise;
        events_rise = names.events_rise;
        serials = fewer_requests library.next_serial (map (λ r. r.serial) library.objects) (map (λ r. r.serial) library.segments)
            (map (λ r. r.serial) library.requests) (map (λ r. r.serial) (newest_done (map change library.requests))) (map (λ r. r.serial) library.outbox.hooks)
            (map (λ r. r.serial) library.outbox.events) (Sub-stepped library library.catalog.flows change is) names.serials;
        least = names.least;
        most = names.most;
      });
      sources = good.sources;
      collections = good.collections;
      requests = requests_good library library.catalog.flows change is;
      outbox = good.outbox;
      texts = Texts-test (with_step request moment library) (record {
        sources = texts.sources;
        flows = texts.flows;
        objects = texts.objects;
        requests = stepped_texts library library.catalog.flows change is;
        hooks = texts.hooks;
        events = texts.events;
      });
    }

-- ---- a flow that goes

-- a flow that stays is kept without the other one
kept_without : (flows : List FlowRow) (gone id : ℕ) → (id ≡ gone → ⊥) → is_kept flows id ≡ true → is_kept (flows_after_drop gone flows) id ≡ true
kept_without flows gone id apart e =
    let found = list_any-In (λ r. r.body.id == id) flows e in
    let same = eqb-true found.0.body.id id found.2 in
    list_any-from_In (λ r. r.body.id == id) (flows_after_drop gone flows) (without_entries gone found.0)
    (map-In (without_entries gone) (filter (λ r. not (r.body.id == gone)) flows) found.0
    (filter-In (λ r. not (r.body.id == gone)) flows found.0 found.1
    (not_from_false (found.0.body.id == gone) (ne_eqb found.0.body.id gone (λ bad. apart (sym same ∙ bad))))))
    found.2

-- the row of which a row without entries was made
record From (flows : List FlowRow) (gone : ℕ) (row : FlowRow) : Type 0 where
  old : FlowRow
  among : In old flows
  stays : old.body.id ≡ gone → ⊥
  made : row ≡ without_entries gone old

left_from : (flows : List FlowRow) (gone : ℕ) (row : FlowRow) → In row (flows_after_drop gone flows) → From flows gone row
left_from flows gone row here =
    let old = In-map (without_entries gone) (filter (λ r. not (r.body.id == gone)) flows) row here in
    let at = In-filter (λ r. not (r.body.id == gone)) flows old.0 old.1 in
    record { old = old.0; among = at.0; stays = eqb-false old.0.body.id gone (not-true (old.0.body.id == gone) at.1); made = old.2 }

-- an entry that stays is an old one, and isn't of the flow that goes
entry_from : (members : List Member) (gone id : ℕ) → In id (member_ids (filter (λ m. not (m.flow == gone)) members)) → In id (member_ids members)
    × (id ≡ gone → ⊥)
entry_from members gone id here =
    let m = In-map (λ (m : Member). m.flow) (filter (λ m. not (m.flow == gone)) members) id here in
    let at = In-filter (λ m. not (m.flow == gone)) members m.0 m.1 in (
      subst (λ i. In i (member_ids members)) (sym m.2) (map-In (λ (m : Member). m.flow) members m.0 at.0),
      λ bad. eqb-false m.0.flow gone
          (not-true (m.0.flow == gone) at.1) (sym m.2 ∙ bad),
    )

old_collects : (flows : List FlowRow) (gone from to : ℕ) → Collects (flows_after_drop gone flows) from to → Collects flows from to
old_collects flows gone from to c =
    let row = left_from flows gone c.row (In-from_Contains (flows_after_drop gone flows) c.row c.kept) in
    let entry : In to (member_ids (without_entries gone row.old).body.members) = subst (λ (r : FlowRow). In to (member_ids r.body.members)) row.made
    (In-from_Contains (member_ids c.row.body.members) to c.entry) in
    record {
      row = row.old;
      kept = Contains-from_In flows row.old row.among;
      row_is = sym (ap (λ (r : FlowRow). r.body.id) row.made) ∙ c.row_is;
      entry = Contains-from_In (member_ids row.old.body.members) to (entry_from row.old.body.members gone to entry).0;
    }

old_way : (flows : List FlowRow) (gone to from : ℕ) → Reaches (flows_after_drop gone flows) to from → Reaches flows to from
old_way flows gone to from (there _ same) = there from same
old_way flows gone to from (through _ next c way) = through from next (old_collects flows gone from next c) (old_way flows gone to next way)

without_text : (gone : ℕ) (row : FlowRow) → is_flow_text row ≡ true → is_flow_text (without_entries gone row) ≡ true
without_text gone row e =
    let t = RowTexts-from row e in
    let b = BodyTexts-from row.body t.body in
    RowTexts-test (without_entries gone row) (record {
      body = BodyTexts-test (without_entries gone row).body (record {
        codec = b.codec;
        container = b.container;
        label = b.label;
        description = b.description;
        tags = b.tags;
        members = list_all-filter is_member_text
            (λ m. not (m.flow == gone)) row.body.members b.members;
        essence = b.essence;
      });
      created = t.created;
      updated = t.updated;
      segments = t.segments;
    })

-- a request of the flow that goes is done
ended_good : (flows : List FlowRow) (segments : List SegmentRow) (gone moment : ℕ) (row : DeleteRow) → is_request_good flows segments row ≡ true
    → is_request_good (flows_after_drop gone flows) segments (ended_row gone moment row) ≡ true
ended_good flows segments gone moment row e =
    cond_both (is_unfinished row && (row.flow == gone)) (record row { status = Done; updated = moment }) row
    (λ r. is_request_good (flows_after_drop gone flows) segments r ≡ true) (λ f. refl)
    (λ f. request_stays_good flows (flows_after_drop gone flows) segments segments row
    (λ u k. kept_without flows gone row.flow (λ bad. true≢false (sym (and_from (is_unfinished row) (row.flow == gone) u (eq-eqb row.flow gone bad)) ∙ f)) k)
    (λ u d k. k) e)

fits_format_same : (o : Option SourceRow) (row old : FlowRow) → row.body.format ≡ old.body.format → fits_kept o row ≡ fits_kept o old
fits_format_same None row old same = refl
fits_format_same (Some source) row old same = ap (fits_format source.format) same

-- the source of a flow that stays stays
source_left : (library : Library) (left : List FlowRow) (row old : FlowRow) (gone : ℕ) → row ≡ without_entries gone old → In row left
    → fits_kept (source_of old.body.source library.catalog.sources) old ≡ true
    → fits_kept (source_of row.body.source (filter (has_flow left) library.catalog.sources)) row ≡ true
source_left library left row old gone made here e =
    let source : row.body.source ≡ old.body.source = ap (λ (r : FlowRow). r.body.source) made in
    let s = kept_source (source_of old.body.source library.catalog.sources) old e in
    let at = find-In (λ r. r.id == old.body.source) library.catalog.sources s.0 s.1 in
    let stays : has_flow left s.0 ≡ true = list_any-from_In (λ r. r.body.source == s.0.id) left row here
    (eq-eqb row.body.source s.0.id (source ∙ sym (eqb-true s.0.id old.body.source at.1))) in
    ap (λ i. fits_kept (source_of i (filter (has_flow left) library.catalog.sources)) row) source
    ∙ ap (λ o. fits_kept o row) (find-filter (λ r. r.id == old.body.source) (has_flow left) library.catalog.sources s.0 s.1 stays ∙ sym s.1)
    ∙ fits_format_same (source_of old.body.source library.catalog.sources) row old (ap (λ (r : FlowRow). r.body.format) made) ∙ e

pub gone_flow_keeps_good : (library : Library) (flow moment : ℕ) → Good library → is_moment moment ≡ true
    → ((s : SegmentRow) → In s library.segments → s.flow ≡ flow → ⊥) → Good (remove_flow flow moment library)
gone_flow_keeps_good library flow moment good at empty =
    let names = Names-from library good.names in
    let texts = Texts-from library good.texts in
    let order = and_parts (rises source_before library.catalog.sources) (rises flow_before library.catalog.flows) names.catalog in
    let flows : List FlowRow = library.catalog.flows in
    let left : List FlowRow = flows_after_drop flow flows in
    let one = and_parts (rises are_compatible library.segments) (list_all (is_segment_good flows) library.segments) good.segments in
    let five = and_parts (list_all (λ row. fits_kept (source_of row.body.source library.catalog.sources) row) flows)
    (list_all (has_flow flows) library.catalog.sources) good.sources in
    let asked = and_parts (list_all (is_request_good flows library.segments) library.requests) (nat_le (done_count library.requests) done_kept) good.requests in
    let ends : Steps library left (ended_row flow moment) = record {
      serial = λ row. cond_both (is_unfinished row && (row.flow == flow)) (record row { status = Done; updated = moment }) row
          (λ (r : DeleteRow). r.serial ≡ row.serial) (λ e. refl) (λ e. refl);
      good = λ row here. ended_good flows library.segments flow moment row
          (list_all-In (is_request_good flows library.segments) library.requests asked.0 row here);
      text = λ row here. let old = list_all-In is_request_text library.requests texts.requests row here in
          cond_both (is_unfinished row && (row.flow == flow)) (record row { status = Done; updated = moment }) row (λ r. is_request_text r ≡ true)
          (λ e. and_from (is_moment row.created) (is_moment moment) (and_parts (is_moment row.created) (is_moment row.updated) old).0 at) (λ e. old);
    } in
    record {
      segments = and_from _ _ one.0 (list_all-from_In (is_segment_good left) library.segments (λ s here.
          let p = and_parts (has_both_ends s.segment.range) (is_kept flows s.flow) (list_all-In (is_segment_good flows) library.segments one.1 s here) in
          and_from (has_both_ends s.segment.range) (is_kept left s.flow) p.0 (kept_without flows flow s.flow (empty s here) p.1)));
      references = good.references;
      extents = good.extents;
      names = Names-test (remove_flow flow moment library) (record {
        catalog = and_from _ _ (rises-filter source_before (has_flow left) library.catalog.sources order.0)
            (rises-mapped flow_before flow_before flow_before (without_entries flow) (filter (λ r. not (r.body.id == flow)) flows) (λ x y here there_too t u. t)
            (rises-filter flow_before (λ r. not (r.body.id == flow)) flows order.1) (rises-filter flow_before (λ r. not (r.body.id == flow)) flows order.1));
        objects = names.objects;
        urls = names.urls;
        objects_rise = names.objects_rise;
        segments_rise = names.segments_rise;
        requests_rise = stepped_rise library left (ended_row flow moment) ends names.requests_rise;
        hooks_rise = names.hooks_rise;
        events_rise = names.events_rise;
        serials = fewer_requests library.next_serial (map (λ r. r.serial) library.objects) (map (λ r. r.serial) library.segments)
            (map (λ r. r.serial) library.requests) (map (λ r. r.serial) (newest_done (map (ended_row flow moment) library.requests)))
            (map (λ r. r.serial) library.outbox.hooks) (map (λ r. r.serial) library.outbox.events) (Sub-stepped library left (ended_row flow moment) ends)
            names.serials;
        least = names.least;
        most = names.most;
      });
      sources = and_from _ _
          (list_all-from_In (λ row. fits_kept (source_of row.body.source (filter (has_flow left) library.catalog.sources)) row) left (λ row here.
          let from = left_from flows flow row here in
          source_left library left row from.old flow from.made here
          (list_all-In (λ r. fits_kept (source_of r.body.source library.catalog.sources) r) flows five.0 from.old from.among)))
          (list_all-from_In (has_flow left) (filter (has_flow left) library.catalog.sources)
          (λ s here. (In-filter (has_flow left) library.catalog.sources s here).1));
      collections = list_all-from_In (is_collection_good left) left (λ row here.
          let from = left_from flows flow row here in
          let old = and_parts (list_all (is_kept flows) (member_ids from.old.body.members)) (not (collects_itself flows from.old.body.id from.old.body.members))
          (list_all-In (is_collection_good flows) flows good.collections from.old from.among) in
          subst (λ (r : FlowRow). is_collection_good left r ≡ true) (sym from.made)
          (and_from (list_all (is_kept left) (member_ids (without_entries flow from.old).body.members))
          (not (collects_itself left from.old.body.id (without_entries flow from.old).body.members))
          (list_all-from_In (is_kept left) (member_ids (without_entries flow from.old).body.members) (λ id entry.
          let e = entry_from from.old.body.members flow id entry in
          kept_without flows flow id e.1 (list_all-In (is_kept flows) (member_ids from.old.body.members) old.0 id e.0)))
          (not_from_false (collects_itself left from.old.body.id (without_entries flow from.old).body.members)
          (false_from_ne_true (collects_itself left from.old.body.id (without_entries flow from.old).body.members) (λ bad.
          let any = (collects_itself_is left from.old.body.id (without_entries flow from.old).body.members).0 bad in
          let e = entry_from from.old.body.members flow any.first
          (In-from_Contains (member_ids (without_entries flow from.old).body.members) any.first any.entry) in
          true≢false (sym ((collects_itself_is flows from.old.body.id from.old.body.members).1
          (record {
            first = any.first;
            entry = Contains-from_In (member_ids from.old.body.members) any.first e.0;
            way = old_way flows flow from.old.body.id
                any.first any.way;
          }))
          ∙ not-true (collects_itself flows from.old.body.id from.old.body.members) old.1))))));
      requests = requests_good library left (ended_row flow moment) ends;
      outbox = good.outbox;
      texts = Texts-test (remove_flow flow moment library) (record {
        sources = list_all-filter is_source_text (has_flow left) library.catalog.sources texts.sources;
        flows = list_all-from_In is_flow_text left (λ row here. let from = left_from flows flow row here in ap is_flow_text from.made
            ∙ without_text flow from.old (list_all-In is_flow_text flows texts.flows from.old from.among));
        objects = texts.objects;
        requests = stepped_texts library left (ended_row flow moment) ends;
        hooks = texts.hooks;
        events = texts.events;
      });
    }
