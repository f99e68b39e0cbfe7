-- Events that wait, and hooks that fail, keep an outbox and its library good.
use Rattle.std.proofs.Common.{◌≡◌, inl, inr, ℕ, suc, ◌+◌, ◌≤◌, ◌<◌, Bool, true, false, not, ◌&&◌, ◌||◌, cond, List, [], ◌∷◌, ◌++◌, map, filter, length, nat_lt, refl, sym, ap, ap₂, subst, ◌∙◌, append_assoc, append-nil, arith}
use Rattle.std.specs.Prelude.{◌==◌, nat_le}
use Rattle.std.specs.List.{list_all, list_any}
use Rattle.std.proofs.lemmas.List.{map-append}
use Rattle.std.proofs.lemmas.Bool.{and_parts, and_from, or_cases, or_left, or_right, ltb-true, leb-true, lt-ltb, le-leb, ne_eqb, eqb-true, eq-eqb, cases_lt, false≢true}
use Rattle.media_rows.specs.declared.event.EventRow.{EventRow}
use Rattle.media_rows.specs.declared.event.Happened.{Happened}
use Rattle.media_rows.specs.declared.hook.HookRow.{HookRow}
use Rattle.media_rows.specs.declared.object.ObjectRow.{ObjectRow}
use Rattle.media_rows.specs.declared.request.DeleteRow.{DeleteRow}
use Rattle.media_rows.specs.declared.segment.SegmentRow.{SegmentRow}
use Rattle.media_rows.specs.Lists.{are_distinct_texts}
use Rattle.media_rows.specs.Moments.{is_moment}
use Rattle.media_rows.specs.Outbox.{Outbox, Posted, waiting_for, waiting_count, takes, event_row, events_for, new_events, marked, after_one, after_post, most_waiting, same_event, is_of_source, admits}
use Rattle.media_rows.specs.Good.{Good, rises_by, are_serials_good, are_serials_in_order, are_names_good, has_hook, is_hook_good, is_outbox_good, are_urls_distinct, are_texts_good, is_hook_text, is_event_text, is_catalog_in_order, are_object_ids_distinct, is_source_text, is_flow_text, is_object_text, is_request_text}
use Rattle.media_rows.specs.Library.{Library, last_serial, serials_of, with_posted, with_happened}
use Rattle.library_laws.proofs.ListLemmas.{In, In-append, In-filter, map-In, list_all-In, list_all-from_In, list_any-In, list_any-from_In, rises-filter}
use Rattle.library_laws.proofs.KeptLemmas.{among_objects, among_segments, among_requests, among_hooks, among_events, same_by_key, counted, counted-New, rises-counted, Serials, New, Serials-from, Serials-test, Serials-more, map-kept, list_all-mapped, list_all-both, rises-mapped}

-- ---- new events

-- the serials of new events follow one another
serials-events_for : (happened : Happened) (moment serial : ℕ) (hooks : List HookRow) → map (λ row. row.serial) (events_for happened moment serial hooks)
    ≡ counted serial (length hooks)
serials-events_for happened moment serial [] = refl
serials-events_for happened moment serial (row ∷ later) = ap (λ l. serial ∷ l) (serials-events_for happened moment (serial + 1) later)

length-events_for : (happened : Happened) (moment serial : ℕ) (hooks : List HookRow) → length (events_for happened moment serial hooks) ≡ length hooks
length-events_for happened moment serial [] = refl
length-events_for happened moment serial (row ∷ later) = ap suc (length-events_for happened moment (serial + 1) later)

-- each is for one of the hooks, at the moment
record IsFor (hooks : List HookRow) (moment : ℕ) (event : EventRow) : Type 0 where
  row : HookRow
  among : In row hooks
  hook : event.hook ≡ row.serial
  at : event.moment ≡ moment

events_are_for : (happened : Happened) (moment serial : ℕ) (hooks : List HookRow) (event : EventRow) → In event (events_for happened moment serial hooks)
    → IsFor hooks moment event
events_are_for happened moment serial [] event here = absurd here
events_are_for happened moment serial (row ∷ later) event (inl same) = record
    { row = row; among = inl refl; hook = ap (λ e. e.hook) same; at = ap (λ e. e.moment) same }
events_are_for happened moment serial (row ∷ later) event (inr more) =
    let rest = events_are_for happened moment (serial + 1) later event more in
    record { row = rest.row; among = inr rest.among; hook = rest.hook; at = rest.at }

-- ---- at most one new event for a hook

-- no event is for a hook that isn't among them
none_for : (happened : Happened) (moment serial : ℕ) (hooks : List HookRow) (hook : ℕ) → ((row : HookRow) → In row hooks → row.serial ≡ hook → ⊥)
    → length (waiting_for hook (events_for happened moment serial hooks)) ≡ 0
none_for happened moment serial [] hook apart = refl
none_for happened moment serial (row ∷ later) hook apart =
    ap (λ b. length (cond b (event_row happened moment row serial ∷ waiting_for hook (events_for happened moment (serial + 1) later))
    (waiting_for hook (events_for happened moment (serial + 1) later)))) (ne_eqb row.serial hook (apart row (inl refl)))
    ∙ none_for happened moment (serial + 1) later hook (λ r here. apart r (inr here))

length-one : (b : Bool) (event : EventRow) (rest : List EventRow) → length rest ≤ 1 → (b ≡ true → length rest ≡ 0) → length (cond b (event ∷ rest) rest) ≤ 1
length-one true event rest le none = let e = none refl in omega arith
length-one false event rest le none = le

one_for : (happened : Happened) (moment serial : ℕ) (hooks : List HookRow) (hook : ℕ) → rises_by (λ row. row.serial) hooks ≡ true
    → length (waiting_for hook (events_for happened moment serial hooks)) ≤ 1
one_for happened moment serial [] hook e = omega arith
one_for happened moment serial (row ∷ later) hook e =
    let parts = and_parts (list_all (λ r. nat_lt row.serial r.serial) later) (rises_by (λ r. r.serial) later) e in
    length-one (row.serial == hook) (event_row happened moment row serial) (waiting_for hook (events_for happened moment (serial + 1) later))
    (one_for happened moment (serial + 1) later hook parts.1)
    (λ same. none_for happened moment (serial + 1) later hook (λ r here is.
    let low = ltb-true row.serial r.serial (list_all-In (λ q. nat_lt row.serial q.serial) later parts.0 r here) in
    let at = eqb-true row.serial hook same in
    absurd (omega arith)))

waiting_step : (b : Bool) (event : EventRow) (old all : List EventRow) (new : ℕ) → length all ≡ length old + new
    → length (cond b (event ∷ all) all) ≡ length (cond b (event ∷ old) old) + new
waiting_step true event old all new e = omega arith
waiting_step false event old all new e = e

-- the events that wait for a hook, old and new
waiting-append : (hook : ℕ) (old new : List EventRow) → waiting_count hook (old ++ new) ≡ waiting_count hook old + waiting_count hook new
waiting-append hook [] new = sym (omega arith)
waiting-append hook (event ∷ old) new = waiting_step (event.hook == hook) event (waiting_for hook old) (waiting_for hook (old ++ new)) (waiting_count hook new)
    (waiting-append hook old new)

-- ---- one happening

-- the hooks and events of a good library, as facts
record IsOutbox (next : ℕ) (outbox : Outbox) : Type 0 where
  hooks_rise : rises_by (λ row. row.serial) outbox.hooks ≡ true
  kept : (event : EventRow) → In event outbox.events → has_hook outbox.hooks event ≡ true
  good : (row : HookRow) → In row outbox.hooks → is_hook_good outbox.events row ≡ true

-- a hook is known by its serial once it is marked too
marked_hook : (events : List EventRow) (hooks : List HookRow) (event : EventRow) → has_hook hooks event ≡ true → has_hook (map (marked events) hooks) event
    ≡ true
marked_hook events hooks event e =
    let found = list_any-In (λ row. row.serial == event.hook) hooks e in
    list_any-from_In (λ row. row.serial == event.hook) (map (marked events) hooks) (marked events found.0) (map-In (marked events) hooks found.0 found.1)
    found.2

-- each event's hook is kept
hooks_kept : (next : ℕ) (outbox : Outbox) (happened : Happened) (moment : ℕ) → IsOutbox next outbox
    → list_all (has_hook (after_one happened moment next outbox).hooks) (after_one happened moment next outbox).events ≡ true
hooks_kept next outbox happened moment is =
    let fresh : List EventRow = new_events happened moment next outbox.hooks in
    list_all-from_In (has_hook (map (marked (outbox.events ++ fresh)) outbox.hooks)) (outbox.events ++ fresh)
    (λ event here. marked_hook (outbox.events ++ fresh) outbox.hooks event (elim (In-append outbox.events fresh event here) [
      | inl old ↦ is.kept event old
      | inr new ↦
          let by = events_are_for happened moment next (filter (takes happened) outbox.hooks) event new in
          list_any-from_In (λ row. row.serial == event.hook) outbox.hooks by.row (In-filter (takes happened) outbox.hooks by.row by.among).0
          (eq-eqb by.row.serial event.hook (sym by.hook))
    ]))

-- a hook that takes nothing has the events that it had
unmoved : (next : ℕ) (outbox : Outbox) (happened : Happened) (moment : ℕ) → IsOutbox next outbox → (row : HookRow) → In row outbox.hooks → takes happened row
    ≡ false
    → waiting_count row.serial (new_events happened moment next outbox.hooks) ≡ 0
unmoved next outbox happened moment is row here untaken =
    none_for happened moment next (filter (takes happened) outbox.hooks) row.serial (λ other among same.
    let found = In-filter (takes happened) outbox.hooks other among in
    let e = same_by_key (λ r. r.serial) outbox.hooks is.hooks_rise other row found.0 here same in
    false≢true (sym untaken ∙ ap (takes happened) (sym e) ∙ found.1))

-- a failed hook takes nothing
failed_takes_none : (happened : Happened) (row : HookRow) → row.failed ≡ true → takes happened row ≡ false
failed_takes_none happened row e = ap (λ b. not b && list_any (same_event happened.kind) row.hook.events &&
    (is_of_source happened.kind || admits row.hook.flow_ids happened.subject) && admits row.hook.source_ids happened.source) e

-- the test of a marked hook
good_marked : (failed : Bool) (count : ℕ) → count ≤ 1000 → (nat_le count most_waiting && (nat_lt count most_waiting || (failed || nat_le most_waiting count)))
    ≡ true
good_marked failed count le =
    and_from (nat_le count 1000) _ (le-leb count 1000 le) (elim (cases_lt count 1000) [
      | inl less ↦ or_left (nat_lt count 1000) (failed || nat_le 1000 count) (lt-ltb count 1000 less)
      | inr full ↦ or_right (nat_lt count 1000) (failed || nat_le 1000 count) (or_right failed (nat_le 1000 count) (le-leb 1000 count full))
    ])

-- no hook has more than the most waiting events
few_wait : (next : ℕ) (outbox : Outbox) (happened : Happened) (moment : ℕ) → IsOutbox next outbox → (row : HookRow) → In row outbox.hooks
    → waiting_count row.serial (outbox.events ++ new_events happened moment next outbox.hooks) ≤ 1000
few_wait next outbox happened moment is row here =
    let parts = and_parts (nat_le (waiting_count row.serial outbox.events) most_waiting)
    (nat_lt (waiting_count row.serial outbox.events) most_waiting || row.failed) (is.good row here) in
    let old = leb-true (waiting_count row.serial outbox.events) 1000 parts.0 in
    let both = waiting-append row.serial outbox.events (new_events happened moment next outbox.hooks) in
    elim (or_cases (nat_lt (waiting_count row.serial outbox.events) most_waiting) row.failed parts.1) [
      | inl below ↦
          let less = ltb-true (waiting_count row.serial outbox.events) 1000 below in
          let one = one_for happened moment next (filter (takes happened) outbox.hooks) row.serial (rises-filter _ (takes happened) outbox.hooks is.hooks_rise)
          in
          omega arith
      | inr failed ↦ let none = unmoved next outbox happened moment is row here (failed_takes_none happened row failed) in omega arith
    ]

hooks_good : (next : ℕ) (outbox : Outbox) (happened : Happened) (moment : ℕ) → IsOutbox next outbox
    → list_all (is_hook_good (after_one happened moment next outbox).events) (after_one happened moment next outbox).hooks ≡ true
hooks_good next outbox happened moment is =
    let all : List EventRow = outbox.events ++ new_events happened moment next outbox.hooks in
    list_all-mapped (is_hook_good all) (marked all) outbox.hooks
    (λ row here. good_marked row.failed (waiting_count row.serial all) (few_wait next outbox happened moment is row here))

pub outbox_stays_good : (next : ℕ) (outbox : Outbox) (happened : Happened) (moment : ℕ) → rises_by (λ row. row.serial) outbox.hooks ≡ true
    → is_outbox_good outbox ≡ true
    → is_outbox_good (after_one happened moment next outbox) ≡ true
outbox_stays_good next outbox happened moment rise e =
    let parts = and_parts (list_all (has_hook outbox.hooks) outbox.events) (list_all (is_hook_good outbox.events) outbox.hooks) e in
    let is : IsOutbox next outbox = record {
      hooks_rise = rise;
      kept = list_all-In (has_hook outbox.hooks) outbox.events parts.0;
      good = list_all-In
          (is_hook_good outbox.events) outbox.hooks parts.1;
    } in
    and_from _ _ (hooks_kept next outbox happened moment is) (hooks_good next outbox happened moment is)

-- ---- the library

-- the parts of the test on names
pub record Names (library : Library) : Type 0 where
  pub catalog : is_catalog_in_order library.catalog ≡ true
  pub objects : are_object_ids_distinct library.objects ≡ true
  pub urls : are_urls_distinct library.outbox.hooks ≡ true
  pub objects_rise : rises_by (λ row. row.serial) library.objects ≡ true
  pub segments_rise : rises_by (λ row. row.serial) library.segments ≡ true
  pub requests_rise : rises_by (λ row. row.serial) library.requests ≡ true
  pub hooks_rise : rises_by (λ row. row.serial) library.outbox.hooks ≡ true
  pub events_rise : rises_by (λ row. row.serial) library.outbox.events ≡ true
  pub serials : Serials library.next_serial (serials_of library)
  pub least : 1 ≤ library.next_serial
  pub most : library.next_serial ≤ last_serial

pub Names-from : (library : Library) → are_names_good library ≡ true → Names library
Names-from library e =
    let a = and_parts _ (are_serials_good library.next_serial (serials_of library)) e in
    let b = and_parts _ (are_serials_in_order library) a.0 in
    let c = and_parts _ (are_urls_distinct library.outbox.hooks) b.0 in
    let d = and_parts (is_catalog_in_order library.catalog) (are_object_ids_distinct library.objects) c.0 in
    let o = and_parts _ (rises_by (λ row. row.serial) library.outbox.events) b.1 in
    let h = and_parts _ (rises_by (λ row. row.serial) library.outbox.hooks) o.0 in
    let r = and_parts _ (rises_by (λ row. row.serial) library.requests) h.0 in
    let s = and_parts (rises_by (λ row. row.serial) library.objects) (rises_by (λ row. row.serial) library.segments) r.0 in
    let n = Serials-from library.next_serial (serials_of library) a.1 in
    record {
      catalog = d.0;
      objects = d.1;
      urls = c.1;
      objects_rise = s.0;
      segments_rise = s.1;
      requests_rise = r.1;
      hooks_rise = h.1;
      events_rise = o.1;
      serials = n.0;
      least = n.1;
      most = n.2;
    }

pub Names-test : (library : Library) → Names library → are_names_good library ≡ true
Names-test library is =
    and_from _ (are_serials_good library.next_serial (serials_of library))
    (and_from _ (are_serials_in_order library)
    (and_from _ (are_urls_distinct library.outbox.hooks) (and_from (is_catalog_in_order library.catalog) (are_object_ids_distinct library.objects) is.catalog
    is.objects) is.urls)
    (and_from _ _ (and_from _ _ (and_from _ _ (and_from _ _ is.objects_rise is.segments_rise) is.requests_rise) is.hooks_rise) is.events_rise))
    (Serials-test library.next_serial (serials_of library) is.serials is.least is.most)

-- the texts of a library, as facts
pub record Texts (library : Library) : Type 0 where
  pub sources : list_all is_source_text library.catalog.sources ≡ true
  pub flows : list_all is_flow_text library.catalog.flows ≡ true
  pub objects : list_all is_object_text library.objects ≡ true
  pub requests : list_all is_request_text library.requests ≡ true
  pub hooks : list_all is_hook_text library.outbox.hooks ≡ true
  pub events : list_all is_event_text library.outbox.events ≡ true

pub Texts-from : (library : Library) → are_texts_good library ≡ true → Texts library
Texts-from library e =
    let a = and_parts _ (list_all is_event_text library.outbox.events) e in
    let b = and_parts _ (list_all is_hook_text library.outbox.hooks) a.0 in
    let c = and_parts _ (list_all is_request_text library.requests) b.0 in
    let d = and_parts _ (list_all is_object_text library.objects) c.0 in
    let f = and_parts (list_all is_source_text library.catalog.sources) (list_all is_flow_text library.catalog.flows) d.0 in
    record { sources = f.0; flows = f.1; objects = d.1; requests = c.1; hooks = b.1; events = a.1 }

pub Texts-test : (library : Library) → Texts library → are_texts_good library ≡ true
Texts-test library is =
    and_from _ _ (and_from _ _ (and_from _ _ (and_from _ _ (and_from _ _ is.sources is.flows) is.objects) is.requests) is.hooks) is.events

-- ---- one happening in a library

-- the library after one happening
after_happened : Happened → ℕ → Library → Library
after_happened happened moment library = with_posted (record {
  outbox = after_one happened moment library.next_serial library.outbox;
  next = library.next_serial + length (new_events happened moment library.next_serial library.outbox.hooks);
}) library

-- serials are below the next one
pub object_below : (library : Library) → Names library → (row : ObjectRow) → In row library.objects → row.serial < library.next_serial
object_below library names row here = (names.serials.within row.serial
    (among_objects (map (λ r. r.serial) library.objects) (map (λ r. r.serial) library.segments) (map (λ r. r.serial) library.requests)
    (map (λ r. r.serial) library.outbox.hooks) (map (λ r. r.serial) library.outbox.events) row.serial (map-In (λ r. r.serial) library.objects row here))).1

pub segment_below : (library : Library) → Names library → (row : SegmentRow) → In row library.segments → row.serial < library.next_serial
segment_below library names row here = (names.serials.within row.serial
    (among_segments (map (λ r. r.serial) library.objects) (map (λ r. r.serial) library.segments) (map (λ r. r.serial) library.requests)
    (map (λ r. r.serial) library.outbox.hooks) (map (λ r. r.serial) library.outbox.events) row.serial (map-In (λ r. r.serial) library.segments row here))).1

pub request_below : (library : Library) → Names library → (row : DeleteRow) → In row library.requests → row.serial < library.next_serial
request_below library names row here = (names.serials.within row.serial
    (among_requests (map (λ r. r.serial) library.objects) (map (λ r. r.serial) library.segments) (map (λ r. r.serial) library.requests)
    (map (λ r. r.serial) library.outbox.hooks) (map (λ r. r.serial) library.outbox.events) row.serial (map-In (λ r. r.serial) library.requests row here))).1

pub hook_below : (library : Library) → Names library → (row : HookRow) → In row library.outbox.hooks → row.serial < library.next_serial
hook_below library names row here = (names.serials.within row.serial
    (among_hooks (map (λ r. r.serial) library.objects) (map (λ r. r.serial) library.segments) (map (λ r. r.serial) library.requests)
    (map (λ r. r.serial) library.outbox.hooks) (map (λ r. r.serial) library.outbox.events) row.serial
    (map-In (λ r. r.serial) library.outbox.hooks row here))).1

pub event_below : (library : Library) → Names library → (row : EventRow) → In row library.outbox.events → row.serial < library.next_serial
event_below library names row here = (names.serials.within row.serial
    (among_events (map (λ r. r.serial) library.objects) (map (λ r. r.serial) library.segments) (map (λ r. r.serial) library.requests)
    (map (λ r. r.serial) library.outbox.hooks) (map (λ r. r.serial) library.outbox.events) row.serial
    (map-In (λ r. r.serial) library.outbox.events row here))).1

serials_after : (library : Library) (hooks : List HookRow) (new : List EventRow) → map (λ row. row.serial) hooks ≡ map (λ row. row.serial) library.outbox.hooks
    → map (λ row. row.serial) library.objects ++ map (λ row. row.serial) library.segments ++ map (λ row. row.serial) library.requests ++ map (λ row. row.serial)
    hooks
    ++ map (λ row. row.serial) (library.outbox.events ++ new) ≡ serials_of library ++ map (λ row. row.serial) new
serials_after library hooks new e =
    ap₂ (λ (h v : List ℕ). map (λ row. row.serial) library.objects ++ map (λ row. row.serial) library.segments ++ map (λ row. row.serial) library.requests ++ h
    ++ v) e
    (map-append (λ row. row.serial) library.outbox.events new)
    ∙ sym (append_assoc _ (map (λ row. row.serial) library.outbox.events) (map (λ row. row.serial) new))

names_after : (happened : Happened) (moment : ℕ) (library : Library) → Names library
    → library.next_serial + length (new_events happened moment library.next_serial library.outbox.hooks) ≤ last_serial
    → Names (after_happened happened moment library)
unfolding after_happened
names_after happened moment library is most =
    let hooks : List HookRow = filter (takes happened) library.outbox.hooks in
    let fresh : List EventRow = events_for happened moment library.next_serial hooks in
    let all : List EventRow = library.outbox.events ++ fresh in
    let numbers = serials-events_for happened moment library.next_serial hooks in
    let count = length-events_for happened moment library.next_serial hooks in
    let kept : map (λ (row : HookRow). row.serial) (map (marked all) library.outbox.hooks)
    ≡ map (λ row. row.serial) library.outbox.hooks = map-kept (λ row. row.serial) (marked all) library.outbox.hooks (λ row. refl) in
    let grown = Serials-more library.next_serial (library.next_serial + length hooks) (serials_of library) (map (λ row. row.serial) fresh) [] is.least
    (omega arith) (subst (Serials library.next_serial) (sym (append-nil (serials_of library))) is.serials)
    (subst (New library.next_serial (library.next_serial + length hooks)) (sym numbers) (counted-New library.next_serial (length hooks))) in
    record {
      catalog = is.catalog;
      objects = is.objects;
      urls = ap are_distinct_texts (map-kept (λ (row : HookRow). row.hook.url) (marked all) library.outbox.hooks (λ row. refl)) ∙ is.urls;
      objects_rise = is.objects_rise;
      segments_rise = is.segments_rise;
      requests_rise = is.requests_rise;
      hooks_rise = rises-mapped _ _ _ (marked all) library.outbox.hooks (λ x y here there t u. t) is.hooks_rise is.hooks_rise;
      events_rise = rises-counted (λ row. row.serial) library.outbox.events fresh library.next_serial (length hooks) is.events_rise (event_below library is)
          numbers;
      serials = subst (λ (n : ℕ). Serials (library.next_serial + n) (serials_of (after_happened happened moment library))) (sym count)
          (subst (Serials (library.next_serial + length hooks)) (append-nil (serials_of library ++ map (λ row. row.serial) fresh)
          ∙ sym (serials_after library (map (marked all) library.outbox.hooks) fresh kept)) grown);
      least = omega (arith, is.least);
      most = most;
    }

texts_after : (happened : Happened) (moment : ℕ) (library : Library) → Texts library → is_moment moment ≡ true → Texts (after_happened happened moment library)
unfolding after_happened
texts_after happened moment library is at =
    let fresh : List EventRow = new_events happened moment library.next_serial library.outbox.hooks in
    record {
      sources = is.sources;
      flows = is.flows;
      objects = is.objects;
      requests = is.requests;
      hooks = list_all-mapped is_hook_text (marked (library.outbox.events ++ fresh)) library.outbox.hooks
          (λ row here. list_all-In is_hook_text library.outbox.hooks is.hooks row here);
      events = list_all-both is_event_text library.outbox.events fresh is.events
          (list_all-from_In is_event_text fresh (λ event here. ap is_moment
          (events_are_for happened moment library.next_serial (filter (takes happened) library.outbox.hooks) event here).at ∙ at));
    }

one_keeps : (happened : Happened) (moment : ℕ) (library : Library) → Good library → is_moment moment ≡ true
    → library.next_serial + length (new_events happened moment library.next_serial library.outbox.hooks) ≤ last_serial
    → Good (after_happened happened moment library)
unfolding after_happened
one_keeps happened moment library good at most =
    let names = Names-from library good.names in
    record {
      segments = good.segments;
      references = good.references;
      extents = good.extents;
      names = Names-test (after_happened happened moment library) (names_after happened moment library names most);
      sources = good.sources;
      collections = good.collections;
      requests = good.requests;
      outbox = outbox_stays_good library.next_serial library.outbox happened moment names.hooks_rise good.outbox;
      texts = Texts-test (after_happened happened moment library) (texts_after happened moment library (Texts-from library good.texts) at);
    }

-- the next serial never falls
pub next_grows : (happened : List Happened) (moment : ℕ) (posted : Posted) → posted.next ≤ (after_post happened moment posted).next
next_grows [] moment posted = omega arith
next_grows (one ∷ later) moment posted =
    let rest = next_grows later moment (record {
      outbox = after_one one moment posted.next posted.outbox;
      next = posted.next + length (new_events one moment posted.next posted.outbox.hooks);
    }) in
    omega (arith, rest)

-- what happens keeps a library good
pub happened_keeps_good : (happened : List Happened) (moment : ℕ) (library : Library) → Good library → is_moment moment ≡ true
    → (with_happened happened moment library).next_serial ≤ last_serial → Good (with_happened happened moment library)
unfolding after_happened
happened_keeps_good [] moment library good at most = good
happened_keeps_good (one ∷ later) moment library good at most =
    let grows = next_grows later moment (record {
      outbox = after_one one moment library.next_serial library.outbox;
      next = library.next_serial + length (new_events one moment library.next_serial library.outbox.hooks);
    }) in
    happened_keeps_good later moment (after_happened one moment library) (one_keeps one moment library good at (omega (arith, grows, most))) at most
