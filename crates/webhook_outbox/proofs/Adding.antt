-- What waits once an event was added behind all others.
use Rattle.std.proofs.Common.{◌≡◌, ◌<◌, ◌+◌, nat_le, length, ℕ, ℤ, pos, ◌<ℤ◌, Bool, true, false, ◌||◌, List, [], ◌∷◌, ◌++◌, Some, None, filter, map, option_map, refl, sym, ap, subst, ◌∙◌, arith, append-nil, length-append}
use Rattle.std.specs.Prelude.{◌==◌}
use Rattle.std.specs.List.{AllByRecursion}
use Rattle.std.proofs.lemmas.Bool.{eq-eqb, ne_eqb, or_left, or_right}
use Rattle.std.proofs.lemmas.Int.{ints}
use Rattle.std.proofs.lemmas.List.{map-append, length-map}
use Rattle.std.proofs.lemmas.List.Elements.{filter-append}
use Rattle.std.proofs.lemmas.List.Folds.{list_any-append}
use Rattle.media_rows.specs.declared.event.EventRow.{EventRow}
use Rattle.media_rows.specs.declared.hook.HookRow.{HookRow}
use Rattle.media_rows.specs.Good.{has_hook}
use Rattle.media_rows.specs.Outbox.{marked, most_waiting, waiting_count, with_events}
use Rattle.shared_tree.specs.Pairs.{IsRising, first, is_above, is_at, is_below, value_at, values, with_pair}
use Rattle.shared_tree.specs.Rows.{IsKeyedBy}
use Rattle.shared_tree.proofs.Counted.{all_append, all_kept, each_passes}
use Rattle.shared_tree.proofs.Rising.{all_map, filter_all, filter_none}
use Rattle.shared_tree.proofs.Rows.{keyed_with}
use Rattle.webhook_outbox.specs.declared.outbox.Slot.{Slot}
use Rattle.webhook_outbox.specs.Delivered.{IsBehind}
use Rattle.webhook_outbox.specs.Within.Slots.{AreSlots, HasFailedWhenFull, event_key, has_slot, hook_serial, hooks_of, is_for, marked_by, seen_outbox, slot_key}
use Rattle.webhook_outbox.proofs.Found.{at_split}
use Rattle.webhook_outbox.proofs.Waiting.{Events, Slots, found_waiting, none_serial, same_serials, waiting_is}

-- a pair behind all others stands at the end
at_end : {V : Type 0} (key : ℤ) (row : V) (events : List (ℤ × V)) → AllByRecursion (λ p. p.0 <ℤ key) events
    → with_pair (key, row) events ≡ events ++ (key, row) ∷ []
at_end key row events last =
    rw (
      filter_all (is_below key) events (all_map (λ p. p.0 <ℤ key) _ (λ p lt. grind (arith, ints)) events last),
      filter_none (is_above key) events (all_map (λ p. p.0 <ℤ key) _ (λ p lt. grind (arith, ints)) events last),
    ) refl

-- a serial behind all others, by keys
pub behind_keys : (serial : ℕ) (events : Events) → IsKeyedBy event_key events → IsBehind serial (values events) → AllByRecursion (λ p. p.0 <ℤ pos serial) events
behind_keys serial [] k h = tt
behind_keys serial (p ∷ ps) k h = (let key = k.0 in let lt = h.0 in rw key (grind (arith, ints)), behind_keys serial ps k.1 h.1)

has_is : (row : EventRow) (slots : Slots) → has_slot slots (pos row.serial, row) ≡ has_hook (hooks_of slots) row
has_is row [] = refl
has_is row (p ∷ ps) = ap (λ b. (hook_serial p.1 == row.hook) || b) (has_is row ps)

-- the hook of an event that is added is kept
pub hook_is_kept : (row : EventRow) (slots : Slots) → IsKeyedBy slot_key slots → has_hook (hooks_of slots) row ≡ true → None ≡ value_at (pos row.hook) slots → ⊥
hook_is_kept row slots keyed has e = none_serial row.hook slots keyed e (pos row.serial, row) refl (has_is row slots ∙ has)

-- what is known where an event is added
pub record Adds (row : EventRow) (slot more : Slot) (slots : Slots) (events : Events) : Type 0 where
  pub kept : AreSlots slots events
  pub slots_rise : IsRising slots
  pub slot_is : Some slot ≡ value_at (pos row.hook) slots
  pub last : AllByRecursion (λ p. p.0 <ℤ pos row.serial) events
  pub marked_row : more.row.value ≡ marked_by (length slot.waiting + 1) slot.row.value
  pub waits : more.waiting ≡ with_pair (event_key row, row) slot.waiting

-- the number of events that wait for a hook
count_is : (hook : ℕ) (events : Events) → waiting_count hook (values events) ≡ length (filter (is_for hook) events)
count_is hook events = ap length (sym (waiting_is hook events)) ∙ length-map (filter (is_for hook) events) (λ p. p.1)

or_implied : (a b : Bool) → (b ≡ true → a ≡ true) → (a || b) ≡ a
or_implied true b f = refl
or_implied false true f = sym (f refl)
or_implied false false f = refl

-- a hook's events, where one more stands at the end
own_more : (hook : ℕ) (row : EventRow) (events : Events) → row.hook ≡ hook → filter (is_for hook) (events ++ (pos row.serial, row) ∷ []) ≡ filter (is_for hook)
    events ++ (pos row.serial, row) ∷ []
own_more hook row events e = filter-append (is_for hook) events ((pos row.serial, row) ∷ []) ∙ rw (eq-eqb row.hook hook e) refl

-- another hook has the same events as before
other_same : (hook : ℕ) (row : EventRow) (events : Events) → (row.hook ≡ hook → ⊥) → filter (is_for hook) (events ++ (pos row.serial, row) ∷ []) ≡ filter
    (is_for hook) events
other_same hook row events apart = filter-append (is_for hook) events ((pos row.serial, row) ∷ []) ∙ rw (ne_eqb row.hook hook apart)
    (append-nil (filter (is_for hook) events))

-- a hook whose events wait, and which is marked as it is
pub record Stays (all : Events) (p : ℤ × Slot) : Type 0 where
  pub waits : p.1.waiting ≡ filter (is_for (hook_serial p.1)) all
  pub full : HasFailedWhenFull p.1

pub marked_same : (all : Events) (p : ℤ × Slot) → Stays all p → marked (values all) p.1.row.value ≡ p.1.row.value
marked_same all p h =
    ap (λ b. record p.1.row.value { failed = b })
    (or_implied p.1.row.value.failed (nat_le most_waiting (waiting_count (hook_serial p.1) (values all)))
    (λ most. h.full (ap (nat_le most_waiting) (ap length h.waits ∙ sym (count_is (hook_serial p.1) all)) ∙ most)))

joined : (all : Events) (key : ℤ) (slot more : Slot) (front rest : Slots) → more.row.value ≡ marked (values all) slot.row.value
    → AllByRecursion (Stays all) front → AllByRecursion (Stays all) rest
    → hooks_of (front ++ (key, more) ∷ rest) ≡ map (marked (values all)) (hooks_of (front ++ (key, slot) ∷ rest))
joined all key slot more [] rest own f r = ap (λ h. h ∷ hooks_of rest) own ∙ ap (λ l. marked (values all) slot.row.value ∷ l) (later rest r)
  where
    later : (ps : Slots) → AllByRecursion (Stays all) ps → hooks_of ps ≡ map (marked (values all)) (hooks_of ps)
    later [] h = refl
    later (p ∷ ps) h = ap (λ x. x ∷ hooks_of ps) (sym (marked_same all p h.0)) ∙ ap (λ l. marked (values all) p.1.row.value ∷ l) (later ps h.1)
joined all key slot more (p ∷ front) rest own f r =
    ap (λ x. x ∷ hooks_of (front ++ (key, more) ∷ rest)) (sym (marked_same all p f.0)) ∙ ap (λ l. marked (values all) p.1.row.value ∷ l)
    (joined all key slot more front rest own f.1 r)

-- hooks of other keys stay
others_stay : (row : EventRow) (slots : Slots) (events : Events) → AreSlots slots events → (test : ℤ × Slot → Bool)
    → ((p : ℤ × Slot) → test p ≡ true → p.0 ≡ pos row.hook → ⊥) → AllByRecursion (Stays (events ++ (pos row.serial, row) ∷ [])) (filter test slots)
others_stay row slots events kept test apart = use_all (filter test slots) (all_kept Fact test slots (facts slots kept.slots_keyed kept.waiting kept.full))
    (each_passes test slots)
  where
    Fact : ℤ × Slot → Type 0
    Fact p = (p.0 ≡ pos row.hook → ⊥) → Stays (events ++ (pos row.serial, row) ∷ []) p

    facts : (ps : Slots) → IsKeyedBy slot_key ps → AllByRecursion (λ p. p.1.waiting ≡ filter (is_for (hook_serial p.1)) events) ps
        → AllByRecursion (λ p. HasFailedWhenFull p.1) ps → AllByRecursion Fact ps
    facts [] k w f = tt
    facts (p ∷ ps) k w f = (
      (λ n. record { waits = w.0 ∙ sym (other_same (hook_serial p.1) row events (λ e. n (k.0 ∙ ap pos (sym e)))); full = f.0 }),
      facts ps k.1 w.1 f.1,
    )

    use_all : (ps : Slots) → AllByRecursion Fact ps → AllByRecursion (λ p. test p ≡ true) ps → AllByRecursion (Stays (events ++ (pos row.serial, row) ∷ [])) ps
    use_all [] h t = tt
    use_all (p ∷ ps) h t = (h.0 (apart p t.0), use_all ps h.1 t.1)

-- ---- an event that is added

own_serial : (row : EventRow) (slot more : Slot) (slots : Slots) (events : Events) → Adds row slot more slots events → hook_serial more ≡ hook_serial slot
own_serial row slot more slots events d = ap (λ (r : HookRow). r.serial) d.marked_row

more_waits : (row : EventRow) (slot more : Slot) (slots : Slots) (events : Events) → Adds row slot more slots events
    → more.waiting ≡ filter (is_for row.hook) (events ++ (pos row.serial, row) ∷ [])
more_waits row slot more slots events d =
    let own = found_waiting row.hook slots events slot d.kept d.slot_is in
    d.waits ∙ ap (with_pair (event_key row, row)) own.1
    ∙ at_end (pos row.serial) row (filter (is_for row.hook) events) (all_kept (λ p. p.0 <ℤ pos row.serial) (is_for row.hook) events d.last)
    ∙ sym (own_more row.hook row events refl)

-- the hook is marked by the number of its events
more_marked : (row : EventRow) (slot more : Slot) (slots : Slots) (events : Events) → Adds row slot more slots events
    → more.row.value ≡ marked (values (events ++ (pos row.serial, row) ∷ [])) slot.row.value
more_marked row slot more slots events d =
    let own = found_waiting row.hook slots events slot d.kept d.slot_is in
    let count : waiting_count (hook_serial slot) (values (events ++ (pos row.serial, row) ∷ [])) ≡ length slot.waiting + 1 =
    count_is (hook_serial slot) (events ++ (pos row.serial, row) ∷ [])
    ∙ ap length (own_more (hook_serial slot) row events (sym own.0))
    ∙ length-append (filter (is_for (hook_serial slot)) events) ((pos row.serial, row) ∷ [])
    ∙ ap (λ n. n + 1) (ap length (ap (λ h. filter (is_for h) events) own.0 ∙ sym own.1)) in
    d.marked_row ∙ sym (ap (λ n. marked_by n slot.row.value) count)

-- the hook has failed where its events are the most
more_full : (row : EventRow) (slot more : Slot) (slots : Slots) (events : Events) → Adds row slot more slots events → HasFailedWhenFull more
more_full row slot more slots events d most =
    let own = found_waiting row.hook slots events slot d.kept d.slot_is in
    let count : length more.waiting ≡ length slot.waiting + 1 =
    ap length (more_waits row slot more slots events d ∙ own_more row.hook row events refl)
    ∙ length-append (filter (is_for row.hook) events) ((pos row.serial, row) ∷ [])
    ∙ ap (λ n. n + 1) (ap length (sym own.1)) in
    ap (λ (r : HookRow). r.failed) d.marked_row ∙ or_right slot.row.value.failed (nat_le most_waiting (length slot.waiting + 1))
    (sym (ap (nat_le most_waiting) count) ∙ most)

added_slots : (row : EventRow) (slot more : Slot) (slots : Slots) (events : Events) → has_slot slots (pos row.serial, row) ≡ true
    → Adds row slot more slots events → AreSlots (with_pair (pos row.hook, more) slots) (events ++ (pos row.serial, row) ∷ [])
added_slots row slot more slots events has d =
    let key : ℤ = pos row.hook in
    let all : Events = events ++ (pos row.serial, row) ∷ [] in
    let own = found_waiting row.hook slots events slot d.kept d.slot_is in
    let serial : hook_serial more ≡ row.hook = own_serial row slot more slots events d ∙ own.0 in
    let early = others_stay row slots events d.kept (is_below key) (λ p below e. grind (arith, ints)) in
    let late = others_stay row slots events d.kept (is_above key) (λ p above e. grind (arith, ints)) in
    let mine : Stays all (key, more) = record {
      waits = subst (λ h. more.waiting ≡ filter (is_for h) all) (sym serial) (more_waits row slot more slots events d);
      full = more_full row slot more slots events d;
    } in
    let each : AllByRecursion (Stays all) (with_pair (key, more) slots) = all_append (Stays all) (filter (is_below key) slots)
    ((key, more) ∷ filter (is_above key) slots) early (mine, late) in
    let kept_slots : (p : ℤ × EventRow) → has_slot slots p ≡ true → has_slot (with_pair (key, more) slots) p ≡ true = λ p there.
    same_serials key slot more slots (own_serial row slot more slots events d) p.1.hook ∙ sym
    (ap (λ l. has_slot l p) (at_split key slots slot d.slots_rise (sym d.slot_is))) ∙ there in
    record {
      slots_keyed = keyed_with slot_key key more slots (ap pos (sym serial)) d.kept.slots_keyed;
      events_keyed = all_append (λ p. p.0 ≡ event_key p.1) events ((pos row.serial, row) ∷ []) d.kept.events_keyed (refl, tt);
      waiting = all_map (Stays all) (λ p. p.1.waiting ≡ filter (is_for (hook_serial p.1)) all) (λ p h. h.waits) (with_pair (key, more) slots) each;
      hooked = all_append (λ p. has_slot (with_pair (key, more) slots) p ≡ true) events ((pos row.serial, row) ∷ [])
          (all_map (λ p. has_slot slots p ≡ true) _ kept_slots events d.kept.hooked) (kept_slots (pos row.serial, row) has, tt);
      full = all_map (Stays all) (λ p. HasFailedWhenFull p.1) (λ p h. h.full) (with_pair (key, more) slots) each;
    }

-- the rows of the outbox then
added_hooks : (row : EventRow) (slot more : Slot) (slots : Slots) (events : Events) → Adds row slot more slots events
    → hooks_of (with_pair (pos row.hook, more) slots) ≡ map (marked (values (events ++ (pos row.serial, row) ∷ []))) (hooks_of slots)
added_hooks row slot more slots events d =
    let key : ℤ = pos row.hook in
    let all : Events = events ++ (pos row.serial, row) ∷ [] in
    joined all key slot more (filter (is_below key) slots) (filter (is_above key) slots) (more_marked row slot more slots events d)
    (others_stay row slots events d.kept (is_below key) (λ p below e. grind (arith, ints)))
    (others_stay row slots events d.kept (is_above key) (λ p above e. grind (arith, ints)))
    ∙ sym (ap (λ l. map (marked (values all)) (hooks_of l)) (at_split key slots slot d.slots_rise (sym d.slot_is)))

pub added_kept : (row : EventRow) (slot more : Slot) (slots new_slots : Slots) (events new_events : Events) → has_hook (hooks_of slots) row ≡ true
    → Adds row slot more slots events → new_slots ≡ with_pair (pos row.hook, more) slots → new_events ≡ with_pair (event_key row, row) events
    → AreSlots new_slots new_events
added_kept row slot more slots new_slots events new_events has d es ee =
    subst (λ l. AreSlots l new_events) (sym es) (subst (AreSlots (with_pair (pos row.hook, more) slots)) (sym (ee ∙ at_end (pos row.serial) row events d.last))
    (added_slots row slot more slots events (has_is row slots ∙ has) d))

pub added_is : (row : EventRow) (slot more : Slot) (slots new_slots : Slots) (events new_events : Events) → Adds row slot more slots events
    → new_slots ≡ with_pair (pos row.hook, more) slots → new_events ≡ with_pair (event_key row, row) events
    → seen_outbox new_slots new_events ≡ with_events (row ∷ []) (seen_outbox slots events)
added_is row slot more slots new_slots events new_events d es ee =
    let rows : values new_events ≡ values events ++ row ∷ [] = ap values (ee ∙ at_end (pos row.serial) row events d.last) ∙ map-append (λ p. p.1) events
    ((pos row.serial, row) ∷ []) in
    let hooks : hooks_of new_slots ≡ map (marked (values events ++ row ∷ [])) (hooks_of slots) =
    ap hooks_of es ∙ added_hooks row slot more slots events d ∙ ap (λ l. map (marked l) (hooks_of slots))
    (map-append (λ p. p.1) events ((pos row.serial, row) ∷ [])) in
    ap (λ l. record { hooks = l; events = values new_events }) hooks ∙ ap
    (λ l. record { hooks = map (marked (values events ++ row ∷ [])) (hooks_of slots); events = l }) rows

-- ---- a hook that is added

pub behind_hooks : (serial : ℕ) (slots : Slots) → IsKeyedBy slot_key slots → AllByRecursion (λ row. row.serial < serial) (hooks_of slots)
    → AllByRecursion (λ p. p.0 <ℤ pos serial) slots
behind_hooks serial [] k h = tt
behind_hooks serial (p ∷ ps) k h = (let key = k.0 in let lt = h.0 in rw key (grind (arith, ints)), behind_hooks serial ps k.1 h.1)

none_behind : (serial : ℕ) (slots : Slots) → AllByRecursion (λ p. p.0 <ℤ pos serial) slots → None ≡ value_at (pos serial) slots
none_behind serial slots last = sym (ap (λ l. option_map (λ p. p.1) (first l))
    (filter_none (is_at (pos serial)) slots (all_map (λ p. p.0 <ℤ pos serial) _ (λ p lt. grind (arith, ints)) slots last)))

pub hooked_slots : (serial : ℕ) (slot : Slot) (slots new_slots : Slots) (events : Events) → AreSlots slots events → hook_serial slot ≡ serial
    → slot.waiting ≡ [] → AllByRecursion (λ p. p.0 <ℤ pos serial) slots → new_slots ≡ with_pair (pos serial, slot) slots → AreSlots new_slots events
hooked_slots serial slot slots new_slots events kept own empty last e =
    let none = none_behind serial slots last in
    let waits : filter (is_for serial) events ≡ [] = filter_none (is_for serial) events (all_map (λ p. has_slot slots p ≡ true) (λ p. is_for serial p ≡ false)
    (λ p has. not_for p none has) events kept.hooked) in
    subst (λ l. AreSlots l events) (sym (e ∙ at_end (pos serial) slot slots last))
    (record {
      slots_keyed = all_append (λ p. p.0 ≡ slot_key p.1) slots ((pos serial, slot) ∷ []) kept.slots_keyed (ap pos (sym own), tt);
      events_keyed = kept.events_keyed;
      waiting = all_append (λ p. p.1.waiting ≡ filter (is_for (hook_serial p.1)) events) slots ((pos serial, slot) ∷ []) kept.waiting
          (empty ∙ sym waits ∙ ap (λ h. filter (is_for h) events) (sym own), tt);
      hooked = all_map (λ p. has_slot slots p ≡ true) (λ p. has_slot (slots ++ (pos serial, slot) ∷ []) p ≡ true)
          (λ p has. list_any-append (λ s. hook_serial s.1 == p.1.hook) slots ((pos serial, slot) ∷ []) ∙ or_left (has_slot slots p) _ has) events kept.hooked;
      full = all_append (λ p. HasFailedWhenFull p.1) slots ((pos serial, slot) ∷ []) kept.full ((λ most. not_full slot.waiting empty most), tt);
    })
  where
    not_for : (p : ℤ × EventRow) → None ≡ value_at (pos serial) slots → has_slot slots p ≡ true → is_for serial p ≡ false
    not_for p none has = ne_eqb p.1.hook serial (λ same. none_serial serial slots kept.slots_keyed none p same has)

    not_full : (waiting : Events) → waiting ≡ [] → nat_le most_waiting (length waiting) ≡ true → slot.row.value.failed ≡ true
    not_full waiting none most = absurd (let is = ap (λ (l : Events). nat_le most_waiting (length l)) none in grind (arith, sym is ∙ most))

pub hooked_is : (serial : ℕ) (slot : Slot) (slots new_slots : Slots) (events : Events) → AllByRecursion (λ p. p.0 <ℤ pos serial) slots
    → new_slots ≡ with_pair (pos serial, slot) slots → seen_outbox new_slots events ≡ record (seen_outbox slots events)
    { hooks = hooks_of slots ++ slot.row.value ∷ [] }
hooked_is serial slot slots new_slots events last e =
    ap (λ l. record { hooks = l; events = values events }) (ap hooks_of (e ∙ at_end (pos serial) slot slots last) ∙ joined_hooks slots)
  where
    joined_hooks : (ps : Slots) → hooks_of (ps ++ (pos serial, slot) ∷ []) ≡ hooks_of ps ++ slot.row.value ∷ []
    joined_hooks [] = refl
    joined_hooks (p ∷ ps) = ap (λ l. p.1.row.value ∷ l) (joined_hooks ps)
