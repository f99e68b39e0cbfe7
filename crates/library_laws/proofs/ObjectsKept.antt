-- Objects that come and go, and segments that go, keep a library good.
use Rattle.std.proofs.Common.{◌≡◌, ℕ, Bool, true, false, not, ◌&&◌, ◌||◌, List, map, filter, nat_lt, Option, Some, None, refl, sym, ap, ap₂, subst, ◌∙◌}
use Rattle.std.specs.Prelude.{◌==◌, nat_le, bytes_eq, option_map}
use Rattle.std.specs.List.{list_all, list_any}
use Rattle.std.proofs.lemmas.Bool.{and_parts, and_from, not-true, not_from_false, eqb-true, cond_both, false≢true, true≢false, false_from_ne_true}
use Rattle.media_rows.specs.declared.object.ObjectRow.{ObjectRow}
use Rattle.media_rows.specs.declared.segment.SegmentRow.{SegmentRow}
use Rattle.media_rows.specs.Changes.{remove_segments, after_sweep}
use Rattle.media_rows.specs.Good.{Good, are_compatible, is_segment_good, are_states_apart, is_extent_good, is_request_good, is_object_text, rises_by}
use Rattle.media_rows.specs.Library.{Library, serials_of}
use Rattle.media_rows.specs.Lists.{rises, are_distinct_texts}
use Rattle.media_rows.specs.Moments.{is_moment}
use Rattle.media_rows.specs.Objects.{object_of, is_stored, is_stored_row, is_stored_object, is_named, idled_row, idled, is_due, idles_before, due_objects, swept_objects}
use Rattle.media_rows.specs.Requests.{done_kept, done_count}
use Rattle.library_laws.proofs.ListLemmas.{In, In-filter, In-take, In-in_order, find-In, find-filter, find-map, list_all-In, list_all-from_In, list_any-In, list_any-from_In, rises-filter, list_all-filter}
use Rattle.library_laws.proofs.KeptLemmas.{Sub, Sub-same, Sub-filter, Sub-append, rises-Sub, Serials-Sub, map-kept, list_all-mapped, rises-mapped, same_by_key, same_text, text_same}
use Rattle.library_laws.proofs.RequestLemmas.{request_stays_good}
use Rattle.library_laws.proofs.OutboxKept.{Names-from, Names-test, Texts-from, Texts-test}

-- ---- an object that is kept

-- a kept and stored object, as the row that is found
record Found (objects : List ObjectRow) (id : List ℕ) : Type 0 where
  row : ObjectRow
  is : object_of id objects ≡ Some row
  state : is_stored row.state ≡ true

found_row : (o : Option ObjectRow) → is_stored_row o ≡ true → (row : ObjectRow) × (o ≡ Some row) × (is_stored row.state ≡ true)
found_row None e = absurd (false≢true e)
found_row (Some row) e = (row, refl, e)

found : (objects : List ObjectRow) (id : List ℕ) → is_stored_object objects id ≡ true → Found objects id
found objects id e = let f = found_row (object_of id objects) e in record { row = f.0; is = f.1; state = f.2 }

-- ---- a sweep

-- an object that goes in a sweep is kept, and no segment names it
swept_is : (library : Library) (moment : ℕ) (row : ObjectRow) → In row (swept_objects library.segments library.objects moment)
    → In row library.objects × (is_named library.segments row.id ≡ false)
swept_is library moment row here =
    let due = In-filter (is_due library.segments moment) library.objects row
    (In-in_order idles_before (filter (is_due library.segments moment) library.objects) row
    (In-take 16 (due_objects library.segments library.objects moment) row here)) in
    (due.0, not-true (is_named library.segments row.id) (and_parts (not (is_named library.segments row.id)) _ due.1).0)

named_by : (segments : List SegmentRow) (s : SegmentRow) (id : List ℕ) → In s segments → s.segment.object ≡ id → is_named segments id ≡ true
named_by segments s id here same = list_any-from_In (λ row. bytes_eq row.segment.object id) segments s here
    (ap (bytes_eq s.segment.object) (sym same) ∙ text_same s.segment.object)

-- an object that a segment names stays
named_stays : (library : Library) (moment : ℕ) → rises_by (λ row. row.serial) library.objects ≡ true → (s : SegmentRow) → In s library.segments
    → is_stored_object library.objects s.segment.object ≡ true → is_stored_object (after_sweep moment library).objects s.segment.object ≡ true
named_stays library moment rise s here e =
    let f = found library.objects s.segment.object e in
    let gone : List ObjectRow = swept_objects library.segments library.objects moment in
    let at = find-In (λ row. bytes_eq row.id s.segment.object) library.objects f.row f.is in
    let stays : not (list_any (λ other. other.serial == f.row.serial) gone) ≡ true = not_from_false (list_any (λ other. other.serial == f.row.serial) gone)
    (false_from_ne_true (list_any (λ other. other.serial == f.row.serial) gone) (λ bad.
    let other = list_any-In (λ o. o.serial == f.row.serial) gone bad in
    let swept = swept_is library moment other.0 other.1 in
    let same = same_by_key (λ o. o.serial) library.objects rise other.0 f.row swept.0 at.0 (eqb-true other.0.serial f.row.serial other.2) in
    true≢false (sym (named_by library.segments s other.0.id here (sym (same_text f.row.id s.segment.object at.1) ∙ ap (λ (o : ObjectRow). o.id) (sym same)))
    ∙ swept.1))) in
    ap is_stored_row (find-filter (λ row. bytes_eq row.id s.segment.object) (λ row. not (list_any (λ other. other.serial == row.serial) gone)) library.objects
    f.row f.is stays) ∙ f.state

pub sweep_keeps_good : (library : Library) (moment : ℕ) → Good library → Good (after_sweep moment library)
sweep_keeps_good library moment good =
    let names = Names-from library good.names in
    let texts = Texts-from library good.texts in
    let stays : ObjectRow → Bool = λ row. not (list_any (λ other. other.serial == row.serial) (swept_objects library.segments library.objects moment)) in
    let extents = and_parts (rises (λ a b. are_states_apart a.state b.state) library.objects)
    (list_all (λ row. is_extent_good library.blocks row.state) library.objects) good.extents in
    record {
      segments = good.segments;
      references = list_all-from_In (λ s. is_stored_object (after_sweep moment library).objects s.segment.object) library.segments (λ s here.
          named_stays library moment names.objects_rise s here (list_all-In (λ t. is_stored_object library.objects t.segment.object) library.segments
          good.references s here));
      extents = and_from _ _ (rises-filter (λ a b. are_states_apart a.state b.state) stays library.objects extents.0)
          (list_all-filter (λ row. is_extent_good library.blocks row.state) stays library.objects extents.1);
      names = Names-test (after_sweep moment library) (record {
        catalog = names.catalog;
        objects = rises-Sub _ (map (λ row. row.id) (filter stays library.objects)) (map (λ row. row.id) library.objects)
            (Sub-filter (λ row. row.id) stays library.objects) names.objects;
        urls = names.urls;
        objects_rise = rises-filter _ stays library.objects names.objects_rise;
        segments_rise = names.segments_rise;
        requests_rise = names.requests_rise;
        hooks_rise = names.hooks_rise;
        events_rise = names.events_rise;
        serials = Serials-Sub library.next_serial (serials_of (after_sweep moment library)) (serials_of library)
            (Sub-append _ _ _ _ (Sub-append _ _ _ _ (Sub-append _ _ _ _ (Sub-append _ _ _ _ (Sub-filter (λ row. row.serial) stays library.objects) (Sub-same _))
            (Sub-same _)) (Sub-same _)) (Sub-same _)) names.serials;
        least = names.least;
        most = names.most;
      });
      sources = good.sources;
      collections = good.collections;
      requests = good.requests;
      outbox = good.outbox;
      texts = Texts-test (after_sweep moment library) (record {
        sources = texts.sources;
        flows = texts.flows;
        objects = list_all-filter is_object_text stays library.objects texts.objects;
        requests = texts.requests;
        hooks = texts.hooks;
        events = texts.events;
      });
    }

-- ---- segments that go

-- an object that falls idle keeps all but its moment
pub idled_id : (before after : List SegmentRow) (moment : ℕ) (row : ObjectRow) → (idled_row before after moment row).id ≡ row.id
idled_id before after moment row = cond_both _ (record row { idle_since = moment }) row (λ (r : ObjectRow). r.id ≡ row.id) (λ e. refl) (λ e. refl)

pub idled_serial : (before after : List SegmentRow) (moment : ℕ) (row : ObjectRow) → (idled_row before after moment row).serial ≡ row.serial
idled_serial before after moment row = cond_both _ (record row { idle_since = moment }) row (λ (r : ObjectRow). r.serial ≡ row.serial) (λ e. refl) (λ e. refl)

pub idled_state : (before after : List SegmentRow) (moment : ℕ) (row : ObjectRow) → (idled_row before after moment row).state ≡ row.state
idled_state before after moment row = cond_both _ (record row { idle_since = moment }) row (λ (r : ObjectRow). r.state ≡ row.state) (λ e. refl) (λ e. refl)

idled_text : (before after : List SegmentRow) (moment : ℕ) (row : ObjectRow) → is_moment moment ≡ true → is_object_text row ≡ true
    → is_object_text (idled_row before after moment row) ≡ true
idled_text before after moment row at e =
    let parts = and_parts _ (is_moment row.idle_since) e in
    cond_both (is_named before row.id && not (is_named after row.id)) (record row { idle_since = moment }) row (λ (r : ObjectRow). is_object_text r ≡ true)
    (λ f. and_from _ (is_moment moment) parts.0 at) (λ f. e)

stored_idled : (before after : List SegmentRow) (moment : ℕ) (o : Option ObjectRow) → is_stored_row (option_map (idled_row before after moment) o)
    ≡ is_stored_row o
stored_idled before after moment None = refl
stored_idled before after moment (Some row) = ap is_stored (idled_state before after moment row)

pub stored_object_idled : (before after : List SegmentRow) (moment : ℕ) (objects : List ObjectRow) (id : List ℕ)
    → is_stored_object (idled before after moment objects) id ≡ is_stored_object objects id
stored_object_idled before after moment objects id =
    ap is_stored_row (find-map (λ row. bytes_eq row.id id) (idled_row before after moment) objects
    (λ row. ap (λ i. bytes_eq i id) (idled_id before after moment row)))
    ∙ stored_idled before after moment (object_of id objects)

pub removal_keeps_good : (library : Library) (removed : List SegmentRow) (moment : ℕ) → Good library → is_moment moment ≡ true
    → Good (remove_segments removed moment library)
removal_keeps_good library removed moment good at =
    let names = Names-from library good.names in
    let texts = Texts-from library good.texts in
    let stays : SegmentRow → Bool = λ row. not (list_any (λ gone. gone.serial == row.serial) removed) in
    let left : List SegmentRow = filter stays library.segments in
    let change : ObjectRow → ObjectRow = idled_row library.segments left moment in
    let one = and_parts (rises are_compatible library.segments) (list_all (is_segment_good library.catalog.flows) library.segments) good.segments in
    let extents = and_parts (rises (λ a b. are_states_apart a.state b.state) library.objects)
    (list_all (λ row. is_extent_good library.blocks row.state) library.objects) good.extents in
    let asked = and_parts (list_all (is_request_good library.catalog.flows library.segments) library.requests) (nat_le (done_count library.requests) done_kept)
    good.requests in
    let ids = map-kept (λ (row : ObjectRow). row.id) change library.objects (idled_id library.segments left moment) in
    let serials = map-kept (λ (row : ObjectRow). row.serial) change library.objects (idled_serial library.segments left moment) in
    record {
      segments = and_from _ _ (rises-filter are_compatible stays library.segments one.0)
          (list_all-filter (is_segment_good library.catalog.flows) stays library.segments one.1);
      references = list_all-from_In (λ s. is_stored_object (map change library.objects) s.segment.object) left (λ s here.
          stored_object_idled library.segments left moment library.objects s.segment.object
          ∙ list_all-In (λ t. is_stored_object library.objects t.segment.object) library.segments good.references s
          (In-filter stays library.segments s here).0);
      extents = and_from _ _
          (rises-mapped (λ a b. are_states_apart a.state b.state) (λ a b. are_states_apart a.state b.state) (λ a b. are_states_apart a.state b.state) change
          library.objects
          (λ x y here there t u. ap₂ are_states_apart (idled_state library.segments left moment x) (idled_state library.segments left moment y) ∙ t) extents.0
          extents.0)
          (list_all-mapped (λ row. is_extent_good library.blocks row.state) change library.objects
          (λ row here. ap (is_extent_good library.blocks) (idled_state library.segments left moment row)
          ∙ list_all-In (λ r. is_extent_good library.blocks r.state) library.objects extents.1 row here));
      names = Names-test (remove_segments removed moment library) (record {
        catalog = names.catalog;
        objects = ap are_distinct_texts ids ∙ names.objects;
        urls = names.urls;
        objects_rise = rises-mapped _ _ (λ a b. nat_lt a.serial b.serial) change library.objects
            (λ x y here there t u.
            ap₂ nat_lt (idled_serial library.segments left moment x) (idled_serial library.segments left moment y) ∙ t)
            names.objects_rise names.objects_rise;
        segments_rise = rises-filter _ stays library.segments names.segments_rise;
        requests_rise = names.requests_rise;
        hooks_rise = names.hooks_rise;
        events_rise = names.events_rise;
        serials = Serials-Sub library.next_serial (serials_of (remove_segments removed moment library)) (serials_of library)
            (Sub-append _ _ _ _ (Sub-append _ _ _ _ (Sub-append _ _ _ _
            (Sub-append _ _ _ _ (subst (λ (l : List ℕ). Sub l (map (λ row. row.serial) library.objects)) (sym serials) (Sub-same _))
            (Sub-filter (λ row. row.serial) stays library.segments)) (Sub-same _)) (Sub-same _)) (Sub-same _)) names.serials;
        least = names.least;
        most = names.most;
      });
      sources = good.sources;
      collections = good.collections;
      requests = and_from _ _ (list_all-from_In (is_request_good library.catalog.flows left) library.requests
          (λ row here. request_stays_good library.catalog.flows library.catalog.flows library.segments left row (λ u k. k)
          (λ u d k. list_all-filter (λ s. not (s.flow == row.flow) || nat_lt s.serial row.serial) stays library.segments k)
          (list_all-In (is_request_good library.catalog.flows library.segments) library.requests asked.0 row here))) asked.1;
      outbox = good.outbox;
      texts = Texts-test (remove_segments removed moment library) (record {
        sources = texts.sources;
        flows = texts.flows;
        objects = list_all-mapped is_object_text change library.objects
            (λ row here. idled_text library.segments left moment row at (list_all-In is_object_text library.objects texts.objects row here));
        requests = texts.requests;
        hooks = texts.hooks;
        events = texts.events;
      });
    }
