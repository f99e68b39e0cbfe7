-- Hooks that come and go, and events that were delivered, keep a library good.
use Rattle.std.proofs.Common.{◌≡◌, inl, inr, ℕ, ◌+◌, ◌≤◌, Bool, true, false, not, ◌&&◌, ◌||◌, cond, List, [], ◌∷◌, ◌++◌, map, filter, length, nat_lt, refl, sym, ap, ap₂, subst, ◌∙◌, arith}
use Rattle.std.specs.Prelude.{◌==◌, nat_le, bytes_eq}
use Rattle.std.specs.List.{list_all}
use Rattle.std.proofs.lemmas.List.{map-append}
use Rattle.std.proofs.lemmas.Bool.{and_parts, and_from, or_cases, or_left, or_right, ltb-true, leb-true, lt-ltb, le-leb, not-true, not_from_false, eqb-true, ne_eqb, true≢false, false_from_ne_true}
use Rattle.media_rows.specs.declared.event.EventRow.{EventRow}
use Rattle.media_rows.specs.declared.hook.Hook.{Hook}
use Rattle.media_rows.specs.declared.hook.HookRow.{HookRow}
use Rattle.media_rows.specs.Changes.{without_hook, without_event, after_hook}
use Rattle.media_rows.specs.Good.{Good, has_hook, is_hook_good, is_outbox_good, is_hook_text, is_event_text}
use Rattle.media_rows.specs.Library.{Library, last_serial, serials_of}
use Rattle.media_rows.specs.Lists.{are_distinct_texts, has_number}
use Rattle.media_rows.specs.Outbox.{Outbox, has_url, waiting_for, waiting_count, gone_serials, after_drop_hook, after_delivered, hook_row, most_waiting}
use Rattle.library_laws.proofs.ListLemmas.{In, In-front, In-filter, filter-In, map-In, In-map, list_all-In, list_all-from_In, list_any-In, list_any-from_In, rises-filter, list_all-filter, In-has_number, count-filter}
use Rattle.library_laws.proofs.KeptLemmas.{Sub-same, Sub-filter, Sub-append, rises-Sub, Serials, Serials-Sub, counted-New, rises-counted, serials_hooks, list_all-both, rises-both}
use Rattle.library_laws.proofs.OutboxKept.{hook_below, Names-from, Names-test, Texts-from, Texts-test}

-- ---- a hook that goes

stays : List ℕ → HookRow → Bool
stays url row = not (has_url url row)

waits : List ℕ → List HookRow → EventRow → Bool
waits url hooks row = not (has_number row.hook (gone_serials url hooks))

-- the hook of an event that waits still is kept
hook_stays : (url : List ℕ) (hooks : List HookRow) (event : EventRow) → has_hook hooks event ≡ true → waits url hooks event ≡ true
    → has_hook (filter (stays url) hooks) event ≡ true
unfolding stays waits
hook_stays url hooks event e w =
    let found = list_any-In (λ row. row.serial == event.hook) hooks e in
    let kept : stays url found.0 ≡ true = not_from_false (has_url url found.0) (false_from_ne_true (has_url url found.0) (λ goes.
    true≢false (sym (In-has_number event.hook (gone_serials url hooks)
    (subst (λ s. In s (gone_serials url hooks)) (eqb-true found.0.serial event.hook found.2)
    (map-In (λ row. row.serial) (filter (has_url url) hooks) found.0 (filter-In (has_url url) hooks found.0 found.1 goes))))
    ∙ not-true (has_number event.hook (gone_serials url hooks)) w))) in
    list_any-from_In (λ row. row.serial == event.hook) (filter (stays url) hooks) found.0 (filter-In (stays url) hooks found.0 found.1 kept) found.2

-- fewer events leave a hook good
fewer_wait : (few many : ℕ) (failed : Bool) → few ≤ many → (nat_le many most_waiting && (nat_lt many most_waiting || failed)) ≡ true
    → (nat_le few most_waiting && (nat_lt few most_waiting || failed)) ≡ true
fewer_wait few many failed le e =
    let parts = and_parts (nat_le many 1000) (nat_lt many 1000 || failed) e in
    let most = leb-true many 1000 parts.0 in
    and_from (nat_le few 1000) (nat_lt few 1000 || failed) (le-leb few 1000 (omega arith)) (elim (or_cases (nat_lt many 1000) failed parts.1) [
      | inl less ↦ or_left (nat_lt few 1000) failed (lt-ltb few 1000 (let l = ltb-true many 1000 less in omega arith))
      | inr f ↦ or_right (nat_lt few 1000) failed f
    ])

drop_outbox_good : (url : List ℕ) (outbox : Outbox) → is_outbox_good outbox ≡ true → is_outbox_good (after_drop_hook url outbox) ≡ true
unfolding stays waits
drop_outbox_good url outbox e =
    let parts = and_parts (list_all (has_hook outbox.hooks) outbox.events) (list_all (is_hook_good outbox.events) outbox.hooks) e in
    let left : List EventRow = filter (waits url outbox.hooks) outbox.events in
    and_from _ _
    (list_all-from_In (has_hook (filter (stays url) outbox.hooks)) left (λ event here.
    let w = In-filter (waits url outbox.hooks) outbox.events event here in
    hook_stays url outbox.hooks event (list_all-In (has_hook outbox.hooks) outbox.events parts.0 event w.0) w.1))
    (list_all-from_In (is_hook_good left) (filter (stays url) outbox.hooks) (λ row here.
    fewer_wait (waiting_count row.serial left) (waiting_count row.serial outbox.events) row.failed
    (count-filter (λ event. event.hook == row.serial) (waits url outbox.hooks) outbox.events)
    (list_all-In (is_hook_good outbox.events) outbox.hooks parts.1 row (In-filter (stays url) outbox.hooks row here).0)))

pub dropped_hook_keeps_good : (library : Library) (url : List ℕ) → Good library → Good (without_hook url library)
unfolding stays waits
dropped_hook_keeps_good library url good =
    let names = Names-from library good.names in
    let texts = Texts-from library good.texts in
    record {
      segments = good.segments;
      references = good.references;
      extents = good.extents;
      names = Names-test (without_hook url library) (record {
        catalog = names.catalog;
        objects = names.objects;
        urls = rises-Sub _ (map (λ row. row.hook.url) (filter (stays url) library.outbox.hooks)) (map (λ row. row.hook.url) library.outbox.hooks)
            (Sub-filter (λ row. row.hook.url) (stays url) library.outbox.hooks) names.urls;
        objects_rise = names.objects_rise;
        segments_rise = names.segments_rise;
        requests_rise = names.requests_rise;
        hooks_rise = rises-filter _ (stays url) library.outbox.hooks names.hooks_rise;
        events_rise = rises-filter _ (waits url library.outbox.hooks) library.outbox.events names.events_rise;
        serials = Serials-Sub library.next_serial (serials_of (without_hook url library)) (serials_of library)
            (Sub-append _ _ _ _ (Sub-append _ _ _ _ (Sub-same _) (Sub-filter (λ row. row.serial) (stays url) library.outbox.hooks))
            (Sub-filter (λ row. row.serial) (waits url library.outbox.hooks) library.outbox.events)) names.serials;
        least = names.least;
        most = names.most;
      });
      sources = good.sources;
      collections = good.collections;
      requests = good.requests;
      outbox = drop_outbox_good url library.outbox good.outbox;
      texts = Texts-test (without_hook url library) (record {
        sources = texts.sources;
        flows = texts.flows;
        objects = texts.objects;
        requests = texts.requests;
        hooks = list_all-filter is_hook_text (stays url) library.outbox.hooks texts.hooks;
        events = list_all-filter is_event_text (waits url library.outbox.hooks) library.outbox.events texts.events;
      });
    }

-- ---- an event that was delivered

waits_on : ℕ → EventRow → Bool
waits_on event row = not (row.serial == event)

delivered_outbox_good : (event : ℕ) (outbox : Outbox) → is_outbox_good outbox ≡ true → is_outbox_good (after_delivered event outbox) ≡ true
unfolding waits_on
delivered_outbox_good event outbox e =
    let parts = and_parts (list_all (has_hook outbox.hooks) outbox.events) (list_all (is_hook_good outbox.events) outbox.hooks) e in
    let left : List EventRow = filter (waits_on event) outbox.events in
    and_from _ _ (list_all-filter (has_hook outbox.hooks) (waits_on event) outbox.events parts.0)
    (list_all-from_In (is_hook_good left) outbox.hooks (λ row here.
    fewer_wait (waiting_count row.serial left) (waiting_count row.serial outbox.events) row.failed
    (count-filter (λ other. other.hook == row.serial) (waits_on event) outbox.events)
    (list_all-In (is_hook_good outbox.events) outbox.hooks parts.1 row here)))

pub delivered_keeps_good : (library : Library) (event : ℕ) → Good library → Good (without_event event library)
unfolding waits_on
delivered_keeps_good library event good =
    let names = Names-from library good.names in
    let texts = Texts-from library good.texts in
    record {
      segments = good.segments;
      references = good.references;
      extents = good.extents;
      names = Names-test (without_event event library) (record {
        catalog = names.catalog;
        objects = names.objects;
        urls = names.urls;
        objects_rise = names.objects_rise;
        segments_rise = names.segments_rise;
        requests_rise = names.requests_rise;
        hooks_rise = names.hooks_rise;
        events_rise = rises-filter _ (waits_on event) library.outbox.events names.events_rise;
        serials = Serials-Sub library.next_serial (serials_of (without_event event library)) (serials_of library)
            (Sub-append _ _ _ _ (Sub-same (map (λ row. row.serial) library.objects ++ map (λ row. row.serial) library.segments
            ++ map (λ row. row.serial) library.requests ++ map (λ row. row.serial) library.outbox.hooks))
            (Sub-filter (λ row. row.serial) (waits_on event) library.outbox.events)) names.serials;
        least = names.least;
        most = names.most;
      });
      sources = good.sources;
      collections = good.collections;
      requests = good.requests;
      outbox = delivered_outbox_good event library.outbox good.outbox;
      texts = Texts-test (without_event event library) (record {
        sources = texts.sources;
        flows = texts.flows;
        objects = texts.objects;
        requests = texts.requests;
        hooks = texts.hooks;
        events = list_all-filter is_event_text (waits_on event) library.outbox.events texts.events;
      });
    }

-- ---- a hook that comes

-- a library with one hook more, of a new address
add_hook : HookRow → Library → Library
add_hook row library = record library {
  outbox = record library.outbox { hooks = library.outbox.hooks ++ row ∷ [] };
  next_serial = library.next_serial + 1;
}

none_waits : (serial : ℕ) (events : List EventRow) → ((event : EventRow) → In event events → event.hook ≡ serial → ⊥) → waiting_count serial events ≡ 0
none_waits serial [] apart = refl
none_waits serial (event ∷ later) apart =
    ap (λ b. length (cond b (event ∷ waiting_for serial later) (waiting_for serial later))) (ne_eqb event.hook serial (apart event (inl refl)))
    ∙ none_waits serial later (λ e here. apart e (inr here))

new_hook_good : (count : ℕ) → count ≡ 0 → (nat_le count most_waiting && (nat_lt count most_waiting || false)) ≡ true
new_hook_good count e = ap (λ c. nat_le c most_waiting && (nat_lt c most_waiting || false)) e

added_hook_keeps_good : (library : Library) (row : HookRow) → Good library → row.serial ≡ library.next_serial → row.failed ≡ false → is_hook_text row ≡ true
    → ((other : HookRow) → In other library.outbox.hooks → bytes_eq other.hook.url row.hook.url ≡ false) → library.next_serial + 1 ≤ last_serial
    → Good (add_hook row library)
unfolding add_hook
added_hook_keeps_good library row good serial fresh text apart most =
    let names = Names-from library good.names in
    let texts = Texts-from library good.texts in
    let outbox = and_parts (list_all (has_hook library.outbox.hooks) library.outbox.events) (list_all (is_hook_good library.outbox.events) library.outbox.hooks)
    good.outbox in
    let below = hook_below library names in
    let waiting = none_waits row.serial library.outbox.events (λ event here same.
    let hook = list_any-In (λ h. h.serial == event.hook) library.outbox.hooks
    (list_all-In (has_hook library.outbox.hooks) library.outbox.events outbox.0 event here) in
    let at = eqb-true hook.0.serial event.hook hook.2 in
    let low = below hook.0 hook.1 in
    absurd (omega arith)) in
    record {
      segments = good.segments;
      references = good.references;
      extents = good.extents;
      names = Names-test (add_hook row library) (record {
        catalog = names.catalog;
        objects = names.objects;
        urls = ap are_distinct_texts (map-append (λ (h : HookRow). h.hook.url) library.outbox.hooks (row ∷ []))
            ∙ rises-both (λ a b. not (bytes_eq a b)) (map (λ (h : HookRow). h.hook.url) library.outbox.hooks) (row.hook.url ∷ []) names.urls refl
            (λ a b here there. not_from_false (bytes_eq a b) (elim there [
              | inl same ↦ let h = In-map (λ (r : HookRow). r.hook.url) library.outbox.hooks a here in ap₂ bytes_eq h.2 same ∙ apart h.0 h.1
              | inr bad ↦ absurd bad
            ]));
        objects_rise = names.objects_rise;
        segments_rise = names.segments_rise;
        requests_rise = names.requests_rise;
        hooks_rise = rises-counted (λ h. h.serial) library.outbox.hooks (row ∷ []) library.next_serial 1 names.hooks_rise below (ap (λ s. s ∷ []) serial);
        events_rise = names.events_rise;
        serials = subst (λ (l : List ℕ). Serials (library.next_serial + 1)
            (map (λ r. r.serial) library.objects ++ map (λ r. r.serial) library.segments ++ map (λ r. r.serial) library.requests ++ l ++ map (λ r. r.serial)
            library.outbox.events))
            (ap (λ s. map (λ (h : HookRow). h.serial) library.outbox.hooks ++ s ∷ []) (sym serial)
            ∙ sym (map-append (λ (h : HookRow). h.serial) library.outbox.hooks (row ∷ [])))
            (serials_hooks library.next_serial (library.next_serial + 1) (map (λ r. r.serial) library.objects) (map (λ r. r.serial) library.segments)
            (map (λ r. r.serial) library.requests) (map (λ h. h.serial) library.outbox.hooks) (library.next_serial ∷ [])
            (map (λ e. e.serial) library.outbox.events) names.least (omega arith) names.serials (counted-New library.next_serial 1));
        least = omega (arith, names.least);
        most = most;
      });
      sources = good.sources;
      collections = good.collections;
      requests = good.requests;
      outbox = and_from _ _
          (list_all-from_In (has_hook (library.outbox.hooks ++ row ∷ [])) library.outbox.events (λ event here.
          let hook = list_any-In (λ h. h.serial == event.hook) library.outbox.hooks
          (list_all-In (has_hook library.outbox.hooks) library.outbox.events outbox.0 event here) in
          list_any-from_In (λ h. h.serial == event.hook) (library.outbox.hooks ++ row ∷ []) hook.0 (In-front library.outbox.hooks (row ∷ []) hook.0 hook.1)
          hook.2))
          (list_all-both (is_hook_good library.outbox.events) library.outbox.hooks (row ∷ []) outbox.1
          (and_from _ true (ap (λ f. nat_le (waiting_count row.serial library.outbox.events) most_waiting &&
          (nat_lt (waiting_count row.serial library.outbox.events) most_waiting || f)) fresh
          ∙ new_hook_good (waiting_count row.serial library.outbox.events) waiting) refl));
      texts = Texts-test (add_hook row library) (record {
        sources = texts.sources;
        flows = texts.flows;
        objects = texts.objects;
        requests = texts.requests;
        hooks = list_all-both is_hook_text library.outbox.hooks (row ∷ []) texts.hooks (and_from (is_hook_text row) true text refl);
        events = texts.events;
      });
    }

pub put_hook_keeps_good : (library : Library) (hook : Hook) → Good library → is_hook_text (hook_row hook library.next_serial) ≡ true
    → library.next_serial + 1 ≤ last_serial → Good (after_hook hook library)
unfolding add_hook stays waits
put_hook_keeps_good library hook good text most =
    added_hook_keeps_good (without_hook hook.url library) (hook_row hook library.next_serial) (dropped_hook_keeps_good library hook.url good) refl refl text
    (λ other here. not-true (has_url hook.url other) (In-filter (stays hook.url) library.outbox.hooks other here).1) most
