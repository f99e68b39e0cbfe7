-- Each of the thirteen changes keeps a library good.
use Rattle.std.proofs.Common.{ℤ, ◌≡◌, ℕ, ◌≤◌, Bool, true, false, not, ◌&&◌, ◌||◌, cond, List, [], ◌∷◌, filter, length, nat_lt, Option, Some, None, refl, sym, ap, subst, ◌∙◌, arith}
use Rattle.std.specs.Prelude.{◌==◌, nat_le, is_some, is_none}
use Rattle.std.specs.List.{list_all, list_any}
use Rattle.std.proofs.lemmas.Bool.{and_parts, and_from, eqb-true, eq-eqb, not-true, cond_both, false≢true}
use Rattle.time_range.specs.declared.ranges.Span.{Span}
use Rattle.media_rows.specs.declared.change.Change.TheVariants as changes
use Rattle.media_rows.specs.declared.event.Happened.{Happened}
use Rattle.media_rows.specs.declared.segment.PostList.{PostList}
use Rattle.media_rows.specs.declared.flow.FlowRow.{FlowRow}
use Rattle.media_rows.specs.declared.refusal.Refusal.TheVariants as refusals
use Rattle.media_rows.specs.declared.request.DeleteRow.{DeleteRow}
use Rattle.media_rows.specs.declared.segment.SegmentRow.{SegmentRow}
use Rattle.media_rows.specs.Answer.{deleting_refusal, change_refusal, first_taken, is_kept_object, keep_refusal}
use Rattle.media_rows.specs.Posts.{posts_refusal}
use Rattle.media_rows.specs.Apply.{is_allowed}
use Rattle.media_rows.specs.Catalog.{flow_of, after_touch, touched, put_refusal, set_refusal, flow_refusal, flow_refusals}
use Rattle.media_rows.specs.Changes.{after, moment_of, remove_segments, touch_flow, remove_flow, with_step, is_flow_gone, after_request_step, after_step_of, request_step_events, step_events}
use Rattle.media_rows.specs.Collections.{is_kept}
use Rattle.media_rows.specs.Events.{put_events, set_events, source_event, added_events, removed_events, drop_events}
use Rattle.media_rows.specs.declared.event.EventKind.TheVariants.{SourceUpdated}
use Rattle.media_rows.specs.Good.{Good, is_good, is_request_good, is_after_segments, are_segments_good, are_references_good, are_extents_good, are_names_good, are_sources_good, are_collections_good, are_requests_good, is_outbox_good, are_texts_good}
use Rattle.media_rows.specs.Library.{Library, last_serial, with_happened}
use Rattle.media_rows.specs.Lists.{or_else}
use Rattle.media_rows.specs.Moments.{is_moment}
use Rattle.media_rows.specs.Objects.{is_free, blocks_of, object_of}
use Rattle.media_rows.specs.Ranges.{covers, reaches_down, reaches_up, is_eternity}
use Rattle.media_rows.specs.Refusals.{first_refusal}
use Rattle.media_rows.specs.Requests.{step_size, is_unfinished, is_deleting, first_unfinished, removed_by_step, left_by_step, is_finished_by_step, done_count, done_kept}
use Rattle.media_rows.specs.Segments.{posted, segments_of, covered, starts_before, without_segments}
use Rattle.library_laws.specs.Laws.{IsSound, ChangesKeepGood, ChangesApply, GoodIsTested}
use Rattle.library_laws.proofs.ListLemmas.{In, In-filter, filter-In, in_order-In, find-In, find-some, map-In, list_all-In, list_any-In, list_any-from_In}
use Rattle.library_laws.proofs.Neither.{neither}
use Rattle.library_laws.proofs.CatalogKept.{not_when, put_keeps_catalog}
use Rattle.library_laws.proofs.SettingsKept.{touch_keeps_good, set_keeps_catalog, set_source_keeps_catalog}
use Rattle.library_laws.proofs.FlowsKept.{with_catalog}
use Rattle.library_laws.proofs.ObjectsKept.{sweep_keeps_good, removal_keeps_good}
use Rattle.library_laws.proofs.NewObjectsKept.{allocation_keeps_good, storing_keeps_good}
use Rattle.library_laws.proofs.HooksKept.{delivered_keeps_good, dropped_hook_keeps_good, put_hook_keeps_good}
use Rattle.library_laws.proofs.PostsKept.{with_posts, posts_keep_good}
use Rattle.library_laws.proofs.DeletionKept.{asking_keeps_good, step_keeps_good, gone_flow_keeps_good}
use Rattle.library_laws.proofs.RequestLemmas.{unfinished_told}
use Rattle.library_laws.proofs.OutboxKept.{next_grows, happened_keeps_good}

-- ---- what is_none tells

pub none_from : {X : Type 0} (o : Option X) → is_none o ≡ true → o ≡ None
none_from None e = refl
none_from (Some x) e = absurd (false≢true e)

-- a flow that no change is refused for is kept, and isn't being deleted
record IsFree (library : Library) (flow : ℕ) : Type 0 where
  row : FlowRow
  kept : flow_of flow library.catalog.flows ≡ Some row
  free : is_deleting library.requests flow ≡ false

free_row : (o : Option FlowRow) → first_refusal (flow_refusals o) ≡ None → (row : FlowRow) × (o ≡ Some row)
free_row None e = absurd (cc)
free_row (Some row) e = (row, refl)

is_free_flow : (library : Library) (flow : ℕ) → change_refusal library flow ≡ None → IsFree library flow
is_free_flow library flow e =
    let parts = neither (deleting_refusal library flow) (flow_refusal library.catalog flow) e in
    let row = free_row (flow_of flow library.catalog.flows) parts.1 in
    record { row = row.0; kept = row.1; free = not_when (is_deleting library.requests flow) refusals.Deleting parts.0 }

kept_test : (library : Library) (flow : ℕ) → IsFree library flow → is_kept library.catalog.flows flow ≡ true
kept_test library flow is =
    let at = find-In (λ r. r.body.id == flow) library.catalog.flows is.row is.kept in list_any-from_In (λ r. r.body.id == flow) library.catalog.flows is.row
    at.0 at.1

touched_kept : (library : Library) (flow moment : ℕ) → IsFree library flow → is_kept (after_touch flow moment library.catalog).flows flow ≡ true
touched_kept library flow moment is =
    let at = find-In (λ r. r.body.id == flow) library.catalog.flows is.row is.kept in
    list_any-from_In (λ r. r.body.id == flow) (after_touch flow moment library.catalog).flows (cond (is.row.body.id == flow) (touched moment is.row) is.row)
    (map-In (λ r. cond (r.body.id == flow) (touched moment r) r) library.catalog.flows is.row at.0)
    (cond_both (is.row.body.id == flow) (touched moment is.row) is.row (λ (r : FlowRow). (r.body.id == flow) ≡ true) (λ e. at.1) (λ e. at.1))

-- ---- segments that go

-- a flow is touched where segments went
pub touched_keeps_good : (library : Library) (flow : ℕ) (rows : List SegmentRow) (moment : ℕ) (row : FlowRow) → Good library → is_moment moment ≡ true
    → flow_of flow library.catalog.flows ≡ Some row
    → Good (touch_flow flow rows moment library)
touched_keeps_good library flow rows moment row good at is =
    cond_both (length rows == 0) library (record library { catalog = after_touch flow moment library.catalog }) Good (λ e. good)
    (λ e. touch_keeps_good library flow moment row good at is)

-- no segment of a flow is left where all of them went
all_gone : (library : Library) (flow : ℕ) (s : SegmentRow) → In s (without_segments (segments_of flow library.segments) library.segments) → s.flow ≡ flow → ⊥
all_gone library flow s here same =
    let at = In-filter (λ row. not (list_any (λ gone. gone.serial == row.serial) (segments_of flow library.segments))) library.segments s here in
    false≢true (sym (not-true (list_any (λ gone. gone.serial == s.serial) (segments_of flow library.segments)) at.1)
    ∙ list_any-from_In (λ gone. gone.serial == s.serial) (segments_of flow library.segments) s
    (filter-In (λ row. row.flow == flow) library.segments s at.0 (eq-eqb s.flow flow same)) (eq-eqb s.serial s.serial refl))

-- ---- a delete step

ends_cover : (low high : Option ℤ) (s : Span) → (is_none low && is_none high) ≡ true → (reaches_down low s.low && reaches_up high s.high) ≡ true
ends_cover None None s e = refl
ends_cover None (Some b) s e = absurd (false≢true e)
ends_cover (Some a) high s e = absurd (false≢true e)

whole_covers : (range other : Option Span) → is_eternity range ≡ true → covers range other ≡ true
whole_covers range None e = refl
whole_covers None (Some s) e = absurd (false≢true e)
whole_covers (Some r) (Some s) e = ends_cover r.low r.high s e

earlier : (a b : ℕ) (less : Bool) → a ≡ b → (not (a == b) || less) ≡ true → less ≡ true
earlier a b less same e = ap (λ t. not t || less) (sym (eq-eqb a b same)) ∙ e

none_among : {X : Type 0} (xs : List X) (x : X) → length xs ≡ 0 → In x xs → ⊥
none_among [] x e here = here
none_among (y ∷ ys) x e here = absurd (cc)

-- a step that leaves none of a whole flow's segments leaves no segment of the flow
none_left : (library : Library) (request : DeleteRow) → is_eternity request.range ≡ true → is_after_segments library.segments request ≡ true
    → is_finished_by_step library.segments request ≡ true
    → (s : SegmentRow) → In s (without_segments (removed_by_step library.segments request) library.segments) → s.flow ≡ request.flow → ⊥
none_left library request whole later finished s here same =
    let at = In-filter (λ row. not (list_any (λ gone. gone.serial == row.serial) (removed_by_step library.segments request))) library.segments s here in
    let left : List SegmentRow = without_segments (removed_by_step library.segments request) library.segments in
    let own = filter-In (λ row. row.flow == request.flow) left s here (eq-eqb s.flow request.flow same) in
    let all = in_order-In starts_before (filter (λ row. covers request.range row.segment.range) (segments_of request.flow left)) s
    (filter-In (λ row. covers request.range row.segment.range) (segments_of request.flow left) s own (whole_covers request.range s.segment.range whole)) in
    let before : nat_lt s.serial request.serial ≡ true = earlier s.flow request.flow (nat_lt s.serial request.serial) same
    (list_all-In (λ r. not (r.flow == request.flow) || nat_lt r.serial request.serial) library.segments later s at.0) in
    none_among (left_by_step library.segments request) s (eqb-true (length (left_by_step library.segments request)) 0 finished)
    (filter-In (λ row. nat_lt row.serial request.serial) (covered left request.flow request.range) s all before)

unfinished_kept : (library : Library) (request : DeleteRow) → Good library → In request library.requests → is_unfinished request ≡ true
    → (is_kept library.catalog.flows request.flow ≡ true) ×
    (request.delete_flow ≡ true → (is_eternity request.range ≡ true) × (is_after_segments library.segments request ≡ true))
unfinished_kept library request good here open_one =
    let asked = and_parts (list_all (is_request_good library.catalog.flows library.segments) library.requests) (nat_le (done_count library.requests) done_kept)
    good.requests in
    let told = unfinished_told library.catalog.flows library.segments request open_one
    (list_all-In (is_request_good library.catalog.flows library.segments) library.requests asked.0 request here) in
    (told.kept, told.whole)

-- the end of a step: the flow goes too, or it stays
abbrev pub step_end : Bool → Library → DeleteRow → ℕ → Library → Library
step_end gone library request moment stepped =
    with_happened
    (cond gone (drop_events library.catalog request.flow (removed_by_step library.segments request))
    (removed_events library.catalog request.flow (removed_by_step library.segments request)))
    moment (cond gone (remove_flow request.flow moment stepped) stepped)

-- a touch leaves the segments
left_in_step : (library : Library) (request : DeleteRow) (moment : ℕ) (removed : List SegmentRow) (s : SegmentRow)
    → In s (without_segments removed (touch_flow request.flow removed moment (with_step request moment library)).segments)
    → In s (without_segments removed library.segments)
left_in_step library request moment removed s here =
    subst (λ l. In s (without_segments removed l)) (cond_both (length removed == 0) (with_step request moment library)
    (record (with_step request moment library) { catalog = after_touch request.flow moment library.catalog }) (λ (l : Library). l.segments ≡ library.segments)
    (λ e. refl) (λ e. refl)) here

-- with or without its flow
step_by : (gone : Bool) (library : Library) (request : DeleteRow) (moment : ℕ) (stepped : Library) → is_flow_gone request library ≡ gone → Good stepped
    → is_moment moment ≡ true
    → (gone ≡ true → (s : SegmentRow) → In s stepped.segments → s.flow ≡ request.flow → ⊥)
    → (step_end gone library request moment stepped).next_serial ≤ last_serial → Good (step_end gone library request moment stepped)
step_by true library request moment stepped is good at empty most =
    happened_keeps_good (drop_events library.catalog request.flow (removed_by_step library.segments request)) moment _
    (gone_flow_keeps_good stepped request.flow moment good at (empty refl)) at most
step_by false library request moment stepped is good at empty most =
    happened_keeps_good (removed_events library.catalog request.flow (removed_by_step library.segments request)) moment stepped good at most

-- the library of a step with its events
abbrev pub step_after : ℕ → DeleteRow → Library → Library
step_after moment request library = with_happened (request_step_events request library) moment (after_request_step moment request library)

-- a good one is left
pub request_step_keeps_good : (library : Library) (request : DeleteRow) (moment : ℕ) → Good library → is_moment moment ≡ true → In request library.requests
    → is_unfinished request ≡ true
    → (step_after moment request library).next_serial ≤ last_serial → Good (step_after moment request library)
request_step_keeps_good library request moment good at here open_one most =
    let told = unfinished_kept library request good here open_one in
    let row = list_any-In (λ r. r.body.id == request.flow) library.catalog.flows told.0 in
    let found = find-some (λ r. r.body.id == request.flow) library.catalog.flows row.0 row.1 row.2 in
    let removed : List SegmentRow = removed_by_step library.segments request in
    let asked : Library = touch_flow request.flow removed moment (with_step request moment library) in
    let first = touched_keeps_good (with_step request moment library) request.flow removed moment found.0
    (step_keeps_good library request moment good at here open_one) at found.1 in
    let stepped : Library = remove_segments removed moment asked in
    let second = removal_keeps_good asked removed moment first at in
    step_by (is_flow_gone request library) library request moment stepped refl second at
    (λ gone. let p = and_parts (is_finished_by_step library.segments request) request.delete_flow gone in let whole = told.1 p.1 in
    λ s here same. none_left library request whole.0 whole.1 p.0 s (left_in_step library request moment removed s here) same) most

delete_step_by : (library : Library) (moment : ℕ) → Good library → is_moment moment ≡ true → (o : Option DeleteRow) → first_unfinished library.requests ≡ o
    → is_some o ≡ true
    → (with_happened (step_events o library) moment (after_step_of o moment library)).next_serial ≤ last_serial
    → Good (with_happened (step_events o library) moment (after_step_of o moment library))
delete_step_by library moment good at None is some most = good
delete_step_by library moment good at (Some request) is some most =
    let found = find-In is_unfinished library.requests request is in request_step_keeps_good library request moment good at found.0 found.1 most

-- ---- segments that are posted

add_keeps_good : (library : Library) (moment flow : ℕ) (posts : PostList) → Good library → IsSound library (changes.AddSegments moment flow posts)
    → IsFree library flow
    → posts_refusal library flow posts.segments ≡ None → Good (after (changes.AddSegments moment flow posts) library)
add_keeps_good library moment flow posts good sound free none =
    let events : List Happened = added_events library.catalog flow (posted flow library.next_serial posts.segments) in
    let touched_one : Library = with_catalog (after_touch flow moment library.catalog) library in
    let with_new : Library = with_posts flow posts.segments touched_one in
    let grows = next_grows events moment (record { outbox = library.outbox; next = with_new.next_serial }) in
    happened_keeps_good events moment with_new
    (posts_keep_good touched_one flow posts.segments (touch_keeps_good library flow moment free.row good sound.at free.kept) (touched_kept library flow moment free)
    free.free sound.values none (omega (arith, grows, sound.serials))) sound.at sound.serials

-- ---- all changes

pub changes_keep_good : ChangesKeepGood
changes_keep_good library (changes.PutFlow moment body) good allowed sound =
    let none = neither (deleting_refusal library body.id) (put_refusal library.catalog body)
    (none_from (or_else (deleting_refusal library body.id) (put_refusal library.catalog body)) allowed) in
    happened_keeps_good (put_events library.catalog body) moment _ (put_keeps_catalog library body moment good sound.at sound.values none.1) sound.at
    sound.serials
changes_keep_good library (changes.SetFlow moment flow part) good allowed sound =
    let none = neither (deleting_refusal library flow) (set_refusal library.catalog flow part)
    (none_from (or_else (deleting_refusal library flow) (set_refusal library.catalog flow part)) allowed) in
    happened_keeps_good (set_events library.catalog flow) moment _ (set_keeps_catalog library flow part moment good sound.at sound.values none.1) sound.at
    sound.serials
changes_keep_good library (changes.SetSource moment source part) good allowed sound =
    happened_keeps_good (source_event SourceUpdated source ∷ []) moment _ (set_source_keeps_catalog library source part moment good sound.at sound.values)
    sound.at sound.serials
changes_keep_good library (changes.DropFlow moment flow) good allowed sound =
    happened_keeps_good (drop_events library.catalog flow (segments_of flow library.segments)) moment _
    (gone_flow_keeps_good (remove_segments (segments_of flow library.segments) moment library) flow moment
    (removal_keeps_good library (segments_of flow library.segments) moment good sound.at) sound.at (all_gone library flow)) sound.at sound.serials
changes_keep_good library (changes.Allocate moment flow ids) good allowed sound =
    let parts = and_parts (is_none (change_refusal library flow)) (is_none (first_taken (is_kept_object library) [] ids)) allowed in
    allocation_keeps_good library moment ids good sound.at sound.values (none_from (first_taken (is_kept_object library) [] ids) parts.1) sound.serials
changes_keep_good library (changes.Store moment object start size digest) good allowed sound =
    let parts = and_parts (is_none (keep_refusal (object_of object library.objects))) (is_free library.objects library.blocks (blocks_of size) start) allowed in
    storing_keeps_good library moment object start size digest good sound.at parts.1 sound.values
changes_keep_good library (changes.AddSegments moment flow posts) good allowed sound =
    let none = neither (change_refusal library flow) (posts_refusal library flow posts.segments)
    (none_from (or_else (change_refusal library flow) (posts_refusal library flow posts.segments)) allowed) in
    let free = is_free_flow library flow none.0 in
    add_keeps_good library moment flow posts good sound free none.1
changes_keep_good library (changes.CutSegments moment flow range) good allowed sound =
    let first = and_parts (is_none (change_refusal library flow) && nat_le 1 (length (covered library.segments flow range)))
    (nat_le (length (covered library.segments flow range)) step_size) allowed in
    let parts = and_parts (is_none (change_refusal library flow)) (nat_le 1 (length (covered library.segments flow range))) first.0 in
    let free = is_free_flow library flow (none_from (change_refusal library flow) parts.0) in
    let gone : List SegmentRow = covered library.segments flow range in
    happened_keeps_good (removed_events library.catalog flow gone) moment _
    (touched_keeps_good (remove_segments gone moment library) flow gone moment free.row (removal_keeps_good library gone moment good sound.at) sound.at
    free.kept) sound.at sound.serials
changes_keep_good library (changes.AskDelete moment flow range delete_flow) good allowed sound =
    let parts = and_parts (is_none (change_refusal library flow)) (nat_lt step_size (length (covered library.segments flow range))) allowed in
    let free = is_free_flow library flow (none_from (change_refusal library flow) parts.0) in
    asking_keeps_good library moment flow range delete_flow good sound.at (kept_test library flow free) sound.values sound.serials
changes_keep_good library (changes.DeleteStep moment) good allowed sound =
    delete_step_by library moment good sound.at (first_unfinished library.requests) refl allowed sound.serials
changes_keep_good library (changes.SweepStep moment) good allowed sound = sweep_keeps_good library moment good
changes_keep_good library (changes.PutHook moment hook) good allowed sound = put_hook_keeps_good library hook good sound.values sound.serials
changes_keep_good library (changes.DropHook moment url) good allowed sound = dropped_hook_keeps_good library url good
changes_keep_good library (changes.Delivered moment event) good allowed sound = delivered_keeps_good library event good

-- ---- the one test

pub good_is_tested : GoodIsTested
good_is_tested library = (
  λ e. let t = and_parts _ (are_texts_good library) e in
      let o = and_parts _ (is_outbox_good library.outbox) t.0 in
      let r = and_parts _ (are_requests_good library.catalog.flows library.segments library.requests) o.0 in
      let c = and_parts _ (are_collections_good library.catalog.flows) r.0 in
      let s = and_parts _ (are_sources_good library.catalog) c.0 in
      let n = and_parts _ (are_names_good library) s.0 in
      let x = and_parts _ (are_extents_good library.blocks library.objects) n.0 in
      let f = and_parts (are_segments_good library.catalog.flows library.segments) (are_references_good library.objects library.segments) x.0 in
      record { segments = f.0; references = f.1; extents = x.1; names = n.1; sources = s.1; collections = c.1; requests = r.1; outbox = o.1; texts = t.1 },
  λ good. and_from _ _ (and_from _ _ (and_from _ _ (and_from _ _
      (and_from _ _ (and_from _ _ (and_from _ _ (and_from _ _ good.segments good.references) good.extents) good.names) good.sources) good.collections)
      good.requests) good.outbox) good.texts,
)

pub changes_apply : ChangesApply
changes_apply library change good allowed sound =
    ap (λ b. cond b (Some (after change library)) None)
    (and_from (is_moment (moment_of change) && is_allowed library change) (is_good (after change library))
    (and_from (is_moment (moment_of change)) (is_allowed library change) sound.at allowed)
    ((good_is_tested (after change library)).1 (changes_keep_good library change good allowed sound)))
