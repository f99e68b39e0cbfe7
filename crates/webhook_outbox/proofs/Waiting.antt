-- What waits for a hook, and what is left once an event was delivered.
use Rattle.std.proofs.Common.{◌≡◌, ◌≤◌, nat_le, length, inl, inr, ℕ, ℤ, pos, negsuc, Bool, true, false, not, ◌&&◌, ◌||◌, List, [], ◌∷◌, ◌++◌, Option, Some, None, filter, option_map, refl, sym, ap, subst, ◌∙◌, arith}
use Rattle.std.specs.Prelude.{◌==◌, IsTrue}
use Rattle.std.specs.List.{AllByRecursion, list_any}
use Rattle.std.proofs.lemmas.Bool.{eqb-true, false≢true, le-leb, leb-true, ne_eqb, or_cases}
use Rattle.std.proofs.lemmas.Int.{ints}
use Rattle.std.proofs.lemmas.List.Folds.{list_any-append}
use Rattle.media_rows.specs.declared.event.EventRow.{EventRow}
use Rattle.media_rows.specs.declared.hook.HookRow.{HookRow}
use Rattle.media_rows.specs.Outbox.{after_delivered, is_least_waiting, most_waiting, waiting_for, waits_first}
use Rattle.shared_tree.specs.Pairs.{IsRising, first, is_above, is_at, is_below, value_at, values, with_pair, without_key}
use Rattle.shared_tree.specs.Rows.{IsKeyedBy}
use Rattle.shared_tree.proofs.Counted.{all_append, all_kept, each_passes, rising_kept}
use Rattle.shared_tree.proofs.Rising.{all_map, fewer, filter_all}
use Rattle.shared_tree.proofs.Rows.{keyed_with, keyed_without, left_out_is, others_are, values_kept}
use Rattle.webhook_outbox.specs.declared.outbox.Slot.{Slot}
use Rattle.webhook_outbox.specs.Within.Slots.{AreSlots, HasFailedWhenFull, event_key, has_slot, hook_serial, hooks_of, seen_outbox, is_for, slot_key}
use Rattle.webhook_outbox.proofs.Found.{at_is, at_split, first_value, found_pair, kept_without, none_at, without_kept}

abbrev pub Slots : Type 0
Slots = List (ℤ × Slot)

abbrev pub Events : Type 0
Events = List (ℤ × EventRow)

-- each event is above this key
pub all_above : (events : Events) → IsKeyedBy event_key events → filter (is_above (negsuc 0)) events ≡ events
all_above events keyed = filter_all (is_above (negsuc 0)) events (all_map (λ p. p.0 ≡ event_key p.1) _ (λ p key. rw key (grind (arith, ints))) events keyed)

pub first_event : (events : Events) (o : Option (ℤ × EventRow)) → IsKeyedBy event_key events → o ≡ first (filter (is_above (negsuc 0)) events)
    → option_map (λ p. p.1) o ≡ first (values events)
first_event events o keyed e = ap (option_map (λ p. p.1)) (e ∙ ap first (all_above events keyed)) ∙ sym (first_value events)

-- the values of those that wait
pub waiting_is : (hook : ℕ) (events : Events) → values (filter (is_for hook) events) ≡ waiting_for hook (values events)
waiting_is hook events = sym (values_kept (λ row. row.hook == hook) (is_for hook) events (each events))
  where
    each : (ps : Events) → AllByRecursion (λ p. (p.1.hook == hook) ≡ is_for hook p) ps
    each [] = tt
    each (p ∷ ps) = (refl, each ps)

-- a hook that is found has the events that wait for it
pub found_waiting : (hook : ℕ) (slots : Slots) (events : Events) (slot : Slot) → AreSlots slots events → Some slot ≡ value_at (pos hook) slots
    → (hook_serial slot ≡ hook) × (slot.waiting ≡ filter (is_for hook) events)
found_waiting hook slots events slot kept e =
    let key = found_pair (λ p. p.0 ≡ slot_key p.1) (pos hook) slots slot (sym e) kept.slots_keyed in
    let own = found_pair (λ p. p.1.waiting ≡ filter (is_for (hook_serial p.1)) events) (pos hook) slots slot (sym e) kept.waiting in
    let same : hook_serial slot ≡ hook = grind (arith, key) in
    (same, subst (λ h. slot.waiting ≡ filter (is_for h) events) same own)

-- ---- a hook that isn't kept

pub none_serial : (hook : ℕ) (slots : Slots) → IsKeyedBy slot_key slots → None ≡ value_at (pos hook) slots → (pair : ℤ × EventRow) → pair.1.hook ≡ hook
    → has_slot slots pair ≡ true → ⊥
none_serial hook slots keyed e pair same has = by slots keyed (none_at (pos hook) slots (sym e)) has
  where
    by : (ps : Slots) → IsKeyedBy slot_key ps → AllByRecursion (λ p. is_at (pos hook) p ≡ false) ps → list_any (λ p. hook_serial p.1 == pair.1.hook) ps ≡ true
        → ⊥
    by [] k n h = grind (arith, h)
    by (p ∷ ps) k n h =
        elim (or_cases (hook_serial p.1 == pair.1.hook) (list_any (λ q. hook_serial q.1 == pair.1.hook) ps) h) [
          | inl own ↦
              (let number : hook_serial p.1 ≡ hook = eqb-true (hook_serial p.1) pair.1.hook own ∙ same in
              let key : p.0 ≡ pos hook = k.0 ∙ ap pos number in
              let here : is_at (pos hook) p ≡ true = rw key (grind (arith, ints)) in
              grind (arith, here, n.0))
          | inr later ↦ by ps k.1 n.1 later
        ]

-- no event waits for it
pub none_waiting : (hook : ℕ) (slots : Slots) (events : Events) → AreSlots slots events → None ≡ value_at (pos hook) slots
    → waiting_for hook (values events) ≡ []
none_waiting hook slots events kept e = each events kept.hooked
  where
    each : (ps : Events) → AllByRecursion (λ p. IsTrue (has_slot slots p)) ps → waiting_for hook (values ps) ≡ []
    each [] h = refl
    each (p ∷ ps) h = by (p.1.hook == hook) refl (each ps h.1)
      where
        by : (b : Bool) → (p.1.hook == hook) ≡ b → waiting_for hook (values ps) ≡ [] → waiting_for hook (values (p ∷ ps)) ≡ []
        by true at rest = absurd (none_serial hook slots kept.slots_keyed e p (eqb-true p.1.hook hook at) h.0)
        by false at rest = rw at rest

-- ---- an event that is delivered

-- an event of whose serial none is isn't its hook's first
pub none_first : (event : ℕ) (all rows : List EventRow) → AllByRecursion (λ row. row.serial ≡ event → ⊥) rows
    → list_any (λ row. (row.serial == event) && is_least_waiting all row) rows ≡ true → ⊥
none_first event all [] others e = false≢true e
none_first event all (row ∷ rows) others e = by (row.serial == event) refl (none_first event all rows others.1) e
  where
    by : (b : Bool) → (row.serial == event) ≡ b → (list_any (λ row. (row.serial == event) && is_least_waiting all row) rows ≡ true → ⊥)
        → ((b && is_least_waiting all row) || list_any (λ row. (row.serial == event) && is_least_waiting all row) rows) ≡ true → ⊥
    by true at later is = others.0 (eqb-true row.serial event at)
    by false at later is = later is

-- where nothing is at a serial's key, each event has another serial
pub others_than : (event : ℕ) (events : Events) → IsKeyedBy event_key events → value_at (pos event) events ≡ None
    → AllByRecursion (λ row. row.serial ≡ event → ⊥) (values events)
others_than event events keyed e = each events keyed (none_at (pos event) events e)
  where
    each : (ps : Events) → IsKeyedBy event_key ps → AllByRecursion (λ p. is_at (pos event) p ≡ false) ps
        → AllByRecursion (λ row. row.serial ≡ event → ⊥) (values ps)
    each [] k n = tt
    each (p ∷ ps) k n = (
      (λ same. (let key : p.0 ≡ pos event = k.0 ∙ ap pos same in let here : is_at (pos event) p ≡ true = rw key (grind (arith, ints)) in
          grind (arith, here, n.0))),
      each ps k.1 n.1,
    )

-- an event that is its hook's first waits
pub event_is_there : (event : ℕ) (events : Events) → IsKeyedBy event_key events → IsTrue (waits_first event (values events))
    → None ≡ value_at (pos event) events → ⊥
event_is_there event events keyed is e = none_first event (values events) (values events) (others_than event events keyed (sym e)) is

-- and its hook is kept
pub hook_is_there : (event : ℕ) (row : EventRow) (slots : Slots) (events : Events) → AreSlots slots events → Some row ≡ value_at (pos event) events
    → None ≡ value_at (pos row.hook) slots → ⊥
hook_is_there event row slots events kept e none =
    none_serial row.hook slots kept.slots_keyed none (pos event, row) refl (found_pair (λ p. IsTrue (has_slot slots p)) (pos event) events row (sym e)
    kept.hooked)

-- what is known where an event is delivered
pub record Delivers (event : ℕ) (row : EventRow) (slot left : Slot) (slots : Slots) (events : Events) : Type 0 where
  pub kept : AreSlots slots events
  pub slots_rise : IsRising slots
  pub events_rise : IsRising events
  pub row_is : Some row ≡ value_at (pos event) events
  pub slot_is : Some slot ≡ value_at (pos row.hook) slots
  pub same_row : left.row.value ≡ slot.row.value
  pub fewer : left.waiting ≡ without_key (pos event) slot.waiting

pub same_serials : (key : ℤ) (slot left : Slot) (slots : Slots) → hook_serial left ≡ hook_serial slot → (n : ℕ)
    → list_any (λ p. hook_serial p.1 == n) (with_pair (key, left) slots) ≡ list_any (λ p. hook_serial p.1 == n) (with_pair (key, slot) slots)
same_serials key slot left slots same n =
    list_any-append (λ p. hook_serial p.1 == n) (filter (is_below key) slots) ((key, left) ∷ filter (is_above key) slots)
    ∙ ap (λ k. list_any (λ p. hook_serial p.1 == n) (filter (is_below key) slots)
    || ((k == n) || list_any (λ p. hook_serial p.1 == n) (filter (is_above key) slots))) same
    ∙ sym (list_any-append (λ p. hook_serial p.1 == n) (filter (is_below key) slots) ((key, slot) ∷ filter (is_above key) slots))

same_hooks : (key : ℤ) (slot left : Slot) (slots : Slots) → left.row.value ≡ slot.row.value
    → hooks_of (with_pair (key, left) slots) ≡ hooks_of (with_pair (key, slot) slots)
same_hooks key slot left slots same = by (filter (is_below key) slots)
  where
    by : (front : Slots) → hooks_of (front ++ (key, left) ∷ filter (is_above key) slots) ≡ hooks_of (front ++ (key, slot) ∷ filter (is_above key) slots)
    by [] = ap (λ row. row ∷ hooks_of (filter (is_above key) slots)) same
    by (p ∷ front) = ap (λ l. p.1.row.value ∷ l) (by front)

pub delivered_hooks : (event : ℕ) (row : EventRow) (slot left : Slot) (slots : Slots) (events : Events) → Delivers event row slot left slots events
    → hooks_of (with_pair (pos row.hook, left) slots) ≡ hooks_of slots
delivered_hooks event row slot left slots events d =
    same_hooks (pos row.hook) slot left slots d.same_row ∙ sym (ap hooks_of (at_split (pos row.hook) slots slot d.slots_rise (sym d.slot_is)))

pub delivered_events : (event : ℕ) (row : EventRow) (slot left : Slot) (slots : Slots) (events : Events) → Delivers event row slot left slots events
    → values (without_key (pos event) events) ≡ filter (λ r. not (r.serial == event)) (values events)
delivered_events event row slot left slots events d = left_out_is (λ r. r.serial == event) (pos event) events d.events_rise (tests events d.kept.events_keyed)
  where
    same_test : (key : ℤ) (n : ℕ) → key ≡ pos n → (n == event) ≡ is_at (pos event) (key, row)
    same_test key n e = rw e (grind (arith, ints))

    tests : (ps : Events) → IsKeyedBy event_key ps → AllByRecursion (λ p. (p.1.serial == event) ≡ is_at (pos event) p) ps
    tests [] k = tt
    tests (p ∷ ps) k = (same_test p.0 p.1.serial k.0, tests ps k.1)

waiting_rises : (event : ℕ) (row : EventRow) (slot : Slot) (slots : Slots) (events : Events) → {left : Slot} → Delivers event row slot left slots events
    → IsRising slot.waiting
waiting_rises event row slot slots events d =
    subst IsRising (sym (found_waiting row.hook slots events slot d.kept d.slot_is).1) (rising_kept (is_for row.hook) events d.events_rise)

pub delivered_slots : (event : ℕ) (row : EventRow) (slot left : Slot) (slots : Slots) (events : Events) → Delivers event row slot left slots events
    → AreSlots (with_pair (pos row.hook, left) slots) (without_key (pos event) events)
delivered_slots event row slot left slots events d =
    let key : ℤ = pos row.hook in
    let own = found_waiting row.hook slots events slot d.kept d.slot_is in
    let serial : hook_serial left ≡ row.hook = ap (λ (r : HookRow). r.serial) d.same_row ∙ own.0 in
    let own_waiting : left.waiting ≡ filter (is_for row.hook) (without_key (pos event) events) = d.fewer ∙ ap (without_key (pos event)) own.1 ∙ without_kept
    (is_for row.hook) (pos event) events d.events_rise in
    let split = at_split key slots slot d.slots_rise (sym d.slot_is) in
    record {
      slots_keyed = keyed_with slot_key key left slots (ap pos (sym serial)) d.kept.slots_keyed;
      events_keyed = keyed_without event_key (pos event) events d.kept.events_keyed;
      waiting = all_append Waits (filter (is_below key) slots) ((key, left) ∷ filter (is_above key) slots)
          (others (is_below key) (λ p below. grind (arith, ints))) (
            subst (λ h. left.waiting ≡ filter (is_for h) (without_key (pos event) events)) (sym serial) own_waiting,
            others (is_above key) (λ p above. grind (arith, ints)),
          );
      hooked = all_append (λ p. IsTrue (has_slot (with_pair (key, left) slots) p)) (filter (is_below (pos event)) events) (filter (is_above (pos event)) events)
          (still (is_below (pos event)) split) (still (is_above (pos event)) split);
      full = all_append (λ p. HasFailedWhenFull p.1) (filter (is_below key) slots) ((key, left) ∷ filter (is_above key) slots)
          (all_kept (λ p. HasFailedWhenFull p.1) (is_below key) slots d.kept.full)
          ((λ most. fails_still most), all_kept (λ p. HasFailedWhenFull p.1) (is_above key) slots d.kept.full);
    }
  where
    fails_still : nat_le most_waiting (length left.waiting) ≡ true → left.row.value.failed ≡ true
    fails_still most =
        let shorter : length left.waiting ≤ length slot.waiting =
        rw (d.fewer, others_are (pos event) slot.waiting (waiting_rises event row slot slots events d))
        (fewer (λ p. not (is_at (pos event) p)) slot.waiting) in
        let before : nat_le most_waiting (length slot.waiting) ≡ true = le-leb most_waiting (length slot.waiting)
        (omega (arith, leb-true most_waiting (length left.waiting) most, shorter)) in
        ap (λ (r : HookRow). r.failed) d.same_row ∙ found_pair (λ p. HasFailedWhenFull p.1) (pos row.hook) slots slot (sym d.slot_is) d.kept.full before

    Waits : ℤ × Slot → Type 0
    Waits p = p.1.waiting ≡ filter (is_for (hook_serial p.1)) (without_key (pos event) events)

    -- another hook's events stay
    other : (hook : ℕ) → (hook ≡ row.hook → ⊥) → filter (is_for hook) (without_key (pos event) events) ≡ filter (is_for hook) events
    other hook apart = kept_without (is_for hook) (pos event) events d.events_rise
        (all_map (λ p. is_at (pos event) p ≡ true → p.1 ≡ row) (λ p. is_at (pos event) p ≡ true → is_for hook p ≡ false) (λ p same at. fails p (same at)) events
        (at_is (pos event) events row d.events_rise (sym d.row_is)))
      where
        fails : (p : ℤ × EventRow) → p.1 ≡ row → is_for hook p ≡ false
        fails p same = rw same (ne_eqb row.hook hook (λ e. apart (sym e)))

    apart_key : (p : ℤ × Slot) → p.0 ≡ slot_key p.1 → (p.0 ≡ pos row.hook → ⊥) → hook_serial p.1 ≡ row.hook → ⊥
    apart_key p k n e = n (k ∙ ap pos e)

    both : (ps : Slots) → IsKeyedBy slot_key ps → AllByRecursion (λ p. p.1.waiting ≡ filter (is_for (hook_serial p.1)) events) ps
        → AllByRecursion (λ p. (p.0 ≡ pos row.hook → ⊥) → Waits p) ps
    both [] k w = tt
    both (p ∷ ps) k w = ((λ n. w.0 ∙ sym (other (hook_serial p.1) (apart_key p k.0 n))), both ps k.1 w.1)

    others : (test : ℤ × Slot → Bool) → ((p : ℤ × Slot) → test p ≡ true → p.0 ≡ pos row.hook → ⊥) → AllByRecursion Waits (filter test slots)
    others test apart = use_all (filter test slots) (all_kept (λ p. (p.0 ≡ pos row.hook → ⊥) → Waits p) test slots
        (both slots d.kept.slots_keyed d.kept.waiting)) (each_passes test slots)
      where
        use_all : (ps : Slots) → AllByRecursion (λ p. (p.0 ≡ pos row.hook → ⊥) → Waits p) ps → AllByRecursion (λ p. test p ≡ true) ps → AllByRecursion Waits ps
        use_all [] h t = tt
        use_all (p ∷ ps) h t = (h.0 (apart p t.0), use_all ps h.1 t.1)

    still : (test : ℤ × EventRow → Bool) → slots ≡ with_pair (pos row.hook, slot) slots
        → AllByRecursion (λ p. IsTrue (has_slot (with_pair (pos row.hook, left) slots) p)) (filter test events)
    still test split = all_map (λ p. IsTrue (has_slot slots p)) (λ p. IsTrue (has_slot (with_pair (pos row.hook, left) slots) p))
        (λ p has. same_serials (pos row.hook) slot left slots (ap (λ (r : HookRow). r.serial) d.same_row) p.1.hook ∙ sym (ap (λ l. has_slot l p) split) ∙ has)
        (filter test events) (all_kept (λ p. IsTrue (has_slot slots p)) test events d.kept.hooked)

pub delivered_is : (event : ℕ) (row : EventRow) (slot left : Slot) (slots : Slots) (events : Events) (new_slots : Slots) (new_events : Events)
    → Delivers event row slot left slots events → new_slots ≡ with_pair (pos row.hook, left) slots → new_events ≡ without_key (pos event) events
    → seen_outbox new_slots new_events ≡ after_delivered event (seen_outbox slots events)
delivered_is event row slot left slots events new_slots new_events d es ee =
    ap (λ l. record { hooks = hooks_of l; events = values new_events }) es
    ∙ ap (λ l. record { hooks = l; events = values new_events }) (delivered_hooks event row slot left slots events d)
    ∙ ap (λ l. record { hooks = hooks_of slots; events = l }) (ap values ee ∙ delivered_events event row slot left slots events d)
