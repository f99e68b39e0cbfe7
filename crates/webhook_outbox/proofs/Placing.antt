-- Hooks and events that come at their places.
use Rattle.std.proofs.Common.{◌≡◌, ◌<◌, ◌+◌, nat_le, nat_lt, length, inl, inr, ℕ, suc, ℤ, pos, ◌<ℤ◌, int_lt, int_eq, Bool, true, false, not, ◌&&◌, ◌||◌, cond, List, [], ◌∷◌, ◌++◌, Option, Some, None, is_some, option_copied, Bor, filter, option_map, refl, sym, ap, subst, ◌∙◌, arith}
use Rattle.std.specs.Prelude.{◌==◌}
use Rattle.std.specs.List.{AllByRecursion, list_all, list_any}
use Rattle.std.specs.Cmp.{signed_Decides}
use Rattle.std.proofs.lemmas.Bool.{and_parts, and_from, eq-eqb, ne_eqb, le-leb, leb-true, lt-ltb, ltb-true, or_cases, or_left, or_right}
use Rattle.std.proofs.lemmas.Int.{ints}
use Rattle.std.proofs.lemmas.List.Elements.{filter-append}
use Rattle.std.proofs.lemmas.List.Folds.{list_any-append}
use Rattle.media_rows.specs.declared.event.EventRow.{EventRow}
use Rattle.media_rows.specs.declared.hook.HookRow.{HookRow}
use Rattle.media_rows.specs.Good.{is_hook_good}
use Rattle.media_rows.specs.Lists.{inserted}
use Rattle.media_rows.specs.Outbox.{most_waiting, waiting_count, waiting_for}
use Rattle.shared_tree.specs.Pairs.{IsRising, first, is_above, is_at, is_below, value_at, values, with_pair, without_key}
use Rattle.shared_tree.specs.Rows.{IsKeyedBy}
use Rattle.shared_tree.proofs.Counted.{all_append, all_kept, length_with}
use Rattle.shared_tree.proofs.Rising.{Around, all_map, filter_all, put_left, put_right}
use Rattle.shared_tree.proofs.Rows.{keyed_with, others_are}
use Rattle.webhook_outbox.specs.declared.outbox.Slot.{Slot}
use Rattle.webhook_outbox.specs.Within.Restored.{event_before, has_room, hook_before, has_no_serial, with_hook_joined, may_join, may_wait, waits}
use Rattle.webhook_outbox.specs.Within.Slots.{AreSlots, HasFailedWhenFull, event_key, has_slot, hook_rows, hook_serial, hooks_of, is_for, seen_outbox, slot_has_room, slot_key}
use Rattle.webhook_outbox.proofs.Dropping.{Held, held, kept_so, not_true}
use Rattle.webhook_outbox.proofs.Found.{at_is, at_split, none_at, without_kept}
use Rattle.webhook_outbox.proofs.Waiting.{Events, Slots, found_waiting, none_serial, same_serials, waiting_is}

is_lower : (a b : ℤ) → int_lt a b ≡ true → a <ℤ b
is_lower a b e = omega (arith, ints, e)

same_is : (a b : ℤ) → int_eq a b ≡ true → a ≡ b
same_is a b e = let d = signed_Decides a b in d.0 e

is_same : (a b : ℤ) → a ≡ b → int_eq a b ≡ true
is_same a b e = let d = signed_Decides a b in d.1 e

not_lower : (a b : ℤ) → int_lt a b ≡ false → int_lt b a ≡ false → a ≡ b
not_lower a b e f = omega (arith, ints, e, f)

lower_serial : (a b : ℕ) → pos a <ℤ pos b → nat_lt a b ≡ true
lower_serial a b lt = let l : a < b = omega (arith, ints, lt) in lt-ltb a b l

higher_serial : (a b : ℕ) → pos b <ℤ pos a → nat_lt a b ≡ false
higher_serial a b lt = by (nat_lt a b) refl
  where
    by : (t : Bool) → nat_lt a b ≡ t → nat_lt a b ≡ false
    by true e = absurd (let l : a < b = ltb-true a b e in omega (arith, ints, lt, l))
    by false e = e

-- ---- a row at its place

module _ {V : Type 0} (own : V → ℕ) where
  first_around : (p : ℤ × V) (rest : List (ℤ × V)) → IsRising (p ∷ rest) → Around [] p rest
  first_around p rest rising = record { left = tt; right = rising.1; before = tt; behind = rising.0 }

  -- in front of the first one that doesn't stand before it
  pub inserted_is : (row : V) (ps : List (ℤ × V)) → IsRising ps → IsKeyedBy (λ v. pos (own v)) ps → AllByRecursion (λ p. is_at (pos (own row)) p ≡ false) ps
      → values (with_pair (pos (own row), row) ps) ≡ inserted (λ a b. nat_lt (own a) (own b)) row (values ps)
  inserted_is row [] up k f = refl
  inserted_is row (p ∷ rest) up k f =
      by (int_lt p.0 (pos (own row))) (int_lt (pos (own row)) p.0) refl refl (inserted_is row rest up.1 k.1 f.1)
    where
      key : ℤ
      key = pos (own row)

      by : (b a : Bool) → int_lt p.0 key ≡ b → int_lt key p.0 ≡ a
          → values (with_pair (key, row) rest) ≡ inserted (λ a b. nat_lt (own a) (own b)) row (values rest)
          → values (with_pair (key, row) (p ∷ rest)) ≡ inserted (λ a b. nat_lt (own a) (own b)) row (values (p ∷ rest))
      by true a eb ea ih =
          let lt = is_lower p.0 key eb in
          ap values (put_right key row [] p rest (first_around p rest up) lt)
          ∙ rw (lower_serial (own p.1) (own row) (subst (λ z. z <ℤ key) k.0 lt)) (ap (λ l. p.1 ∷ l) ih)
      by false true eb ea ih =
          let lt = is_lower key p.0 ea in
          ap values (put_left key row [] p rest (first_around p rest up) lt)
          ∙ rw (higher_serial (own p.1) (own row) (subst (λ z. key <ℤ z) k.0 lt)) refl
      by false false eb ea ih = absurd (let same = is_same p.0 key (not_lower p.0 key eb ea) in let no_one = f.0 in grind (arith, same, no_one))

  -- whether a serial is there
  pub seen_at : (n : ℕ) (ps : List (ℤ × V)) → IsKeyedBy (λ v. pos (own v)) ps → is_some (value_at (pos n) ps) ≡ list_any (λ v. own v == n) (values ps)
  seen_at n [] k = refl
  seen_at n (p ∷ ps) k = by (is_at (pos n) p) refl (same_test p.0 (own p.1) k.0) (seen_at n ps k.1)
    where
      same_test : (key : ℤ) (m : ℕ) → key ≡ pos m → (m == n) ≡ int_eq key (pos n)
      same_test key m e = rw e (grind (arith, ints))

      by : (b : Bool) → is_at (pos n) p ≡ b → (own p.1 == n) ≡ is_at (pos n) p → is_some (value_at (pos n) ps) ≡ list_any (λ v. own v == n) (values ps)
          → is_some (value_at (pos n) (p ∷ ps)) ≡ ((own p.1 == n) || list_any (λ v. own v == n) (values ps))
      by true at same ih = rw (at, same ∙ at) refl
      by false at same ih = rw (at, same ∙ at) ih

flipped : (r b : Bool) → b ≡ not r → r ≡ not b
flipped true b e = ap not (sym e)
flipped false b e = ap not (sym e)

module _ {X : Type 0} where
  -- two tests in either order
  filter_swap : (f g : X → Bool) (xs : List X) → filter f (filter g xs) ≡ filter g (filter f xs)
  filter_swap f g [] = refl
  filter_swap f g (x ∷ xs) = by (f x) (g x) refl refl (filter_swap f g xs)
    where
      by : (a b : Bool) → f x ≡ a → g x ≡ b → filter f (filter g xs) ≡ filter g (filter f xs)
          → filter f (cond (g x) (x ∷ filter g xs) (filter g xs)) ≡ filter g (cond (f x) (x ∷ filter f xs) (filter f xs))
      by true true ea eb ih = rw (ea, eb, ea) (ap (λ l. x ∷ l) ih)
      by true false ea eb ih = rw (ea, eb) ih
      by false true ea eb ih = rw (ea, eb, ea) ih
      by false false ea eb ih = rw (ea, eb) ih

  copied_none : (o : Option (Bor X)) → not (is_some o) ≡ not (is_some (option_copied o))
  copied_none None = refl
  copied_none (Some x) = refl

  -- what `is_none` tells of a value behind a reference
  pub told_none : (found : Option (Bor X)) (there : Option X) (none : Bool) → is_some found ≡ not none → option_copied found ≡ there
      → none ≡ not (is_some there)
  told_none found there none e f = flipped none (is_some found) e ∙ copied_none found ∙ ap (λ o. not (is_some o)) f

module _ {V : Type 0} where
  none_of : (o : Option V) → is_some o ≡ false → None ≡ o
  none_of None e = refl
  none_of (Some x) e = absurd (grind (arith, e))

  pub without_none : (key : ℤ) (ps : List (ℤ × V)) → IsRising ps → None ≡ value_at key ps → without_key key ps ≡ ps
  without_none key ps rising none =
      others_are key ps rising ∙ filter_all (λ p. not (is_at key p)) ps (all_map _ _ (λ p e. ap not e) ps (none_at key ps (sym none)))

  -- a pair that a test keeps, and one that it doesn't
  pub with_kept : (test : ℤ × V → Bool) (key : ℤ) (value : V) (ps : List (ℤ × V)) → test (key, value) ≡ true
      → filter test (with_pair (key, value) ps) ≡ with_pair (key, value) (filter test ps)
  with_kept test key value ps e =
      filter-append test (filter (is_below key) ps) ((key, value) ∷ filter (is_above key) ps)
      ∙ ap (λ b. filter test (filter (is_below key) ps) ++ cond b ((key, value) ∷ filter test (filter (is_above key) ps))
      (filter test (filter (is_above key) ps)))
      e
      ∙ ap (λ l. l ++ (key, value) ∷ filter test (filter (is_above key) ps)) (filter_swap test (is_below key) ps)
      ∙ ap (λ l. filter (is_below key) (filter test ps) ++ (key, value) ∷ l) (filter_swap test (is_above key) ps)

  pub with_dropped : (test : ℤ × V → Bool) (key : ℤ) (value : V) (ps : List (ℤ × V)) → test (key, value) ≡ false → IsRising ps → None ≡ value_at key ps
      → filter test (with_pair (key, value) ps) ≡ filter test ps
  with_dropped test key value ps e rising none =
      filter-append test (filter (is_below key) ps) ((key, value) ∷ filter (is_above key) ps)
      ∙ ap (λ b. filter test (filter (is_below key) ps) ++ cond b ((key, value) ∷ filter test (filter (is_above key) ps))
      (filter test (filter (is_above key) ps)))
      e
      ∙ sym (filter-append test (filter (is_below key) ps) (filter (is_above key) ps)) ∙ ap (filter test) (without_none key ps rising none)

  -- what some pair passes, some pair passes still
  pub any_with : (test : ℤ × V → Bool) (key : ℤ) (value : V) (ps : List (ℤ × V)) → IsRising ps → None ≡ value_at key ps → list_any test ps ≡ true
      → list_any test (with_pair (key, value) ps) ≡ true
  any_with test key value ps rising none e =
      let l = filter (is_below key) ps in
      let r = filter (is_above key) ps in
      let both : (list_any test l || list_any test r) ≡ true = sym (list_any-append test l r) ∙ ap (list_any test) (without_none key ps rising none) ∙ e in
      list_any-append test l ((key, value) ∷ r) ∙ elim (or_cases (list_any test l) (list_any test r) both) [
        | inl left ↦ or_left (list_any test l) (test (key, value) || list_any test r) left
        | inr right ↦ or_right (list_any test l) (test (key, value) || list_any test r) (or_right (test (key, value)) (list_any test r) right)
      ]

-- ---- a hook at its place

any_hook : (n : ℕ) (slots : List Slot) → list_any (λ hook. hook.serial == n) (hook_rows slots) ≡ list_any (λ slot. hook_serial slot == n) slots
any_hook n [] = refl
any_hook n (s ∷ slots) = ap (λ b. (hook_serial s == n) || b) (any_hook n slots)

pub hook_seen : (n : ℕ) (slots : Slots) → IsKeyedBy slot_key slots → is_some (value_at (pos n) slots) ≡ list_any (λ hook. hook.serial == n) (hooks_of slots)
hook_seen n slots keyed = seen_at hook_serial n slots keyed ∙ sym (any_hook n (values slots))

pub event_seen : (n : ℕ) (events : Events) → IsKeyedBy event_key events → is_some (value_at (pos n) events) ≡ list_any (λ row. row.serial == n) (values events)
event_seen n events keyed = seen_at (λ (row : EventRow). row.serial) n events keyed

inserted_hooks : (slot : Slot) (slots : List Slot)
    → hook_rows (inserted (λ a b. nat_lt (hook_serial a) (hook_serial b)) slot slots) ≡ inserted hook_before slot.row.value (hook_rows slots)
inserted_hooks slot [] = refl
inserted_hooks slot (s ∷ slots) = by (nat_lt (hook_serial s) (hook_serial slot)) (inserted_hooks slot slots)
  where
    by : (t : Bool) → hook_rows (inserted (λ a b. nat_lt (hook_serial a) (hook_serial b)) slot slots) ≡ inserted hook_before slot.row.value (hook_rows slots)
        → hook_rows (cond t (s ∷ inserted (λ a b. nat_lt (hook_serial a) (hook_serial b)) slot slots) (slot ∷ s ∷ slots)) ≡ cond t
        (s.row.value ∷ inserted hook_before slot.row.value (hook_rows slots)) (slot.row.value ∷ s.row.value ∷ hook_rows slots)
    by true ih = ap (λ l. s.row.value ∷ l) ih
    by false ih = refl

-- what is known where a hook comes
pub record Joins (row : HookRow) (slot : Slot) (slots : Slots) (events : Events) : Type 0 where
  pub kept : AreSlots slots events
  pub slots_rise : IsRising slots
  pub new : is_some (value_at (pos row.serial) slots) ≡ false
  pub row_is : slot.row.value ≡ row
  pub empty : slot.waiting ≡ []

pub joined_slots : (row : HookRow) (slot : Slot) (slots new_slots : Slots) (events : Events) → Joins row slot slots events
    → new_slots ≡ with_pair (pos row.serial, slot) slots → AreSlots new_slots events
joined_slots row slot slots new_slots events d e =
    let key : ℤ = pos row.serial in
    let none = none_of (value_at key slots) d.new in
    let own : hook_serial slot ≡ row.serial = ap (λ (r : HookRow). r.serial) d.row_is in
    let nothing : filter (is_for row.serial) events ≡ [] = none_for row.serial none events d.kept.hooked in
    subst (λ l. AreSlots l events) (sym e)
    (record {
      slots_keyed = keyed_with slot_key key slot slots (ap pos (sym own)) d.kept.slots_keyed;
      events_keyed = d.kept.events_keyed;
      waiting = all_append (λ p. p.1.waiting ≡ filter (is_for (hook_serial p.1)) events) (filter (is_below key) slots)
          ((key, slot) ∷ filter (is_above key) slots)
          (all_kept _ (is_below key) slots d.kept.waiting)
          (d.empty ∙ sym nothing ∙ ap (λ h. filter (is_for h) events) (sym own), all_kept _ (is_above key) slots d.kept.waiting);
      hooked = all_map (λ p. has_slot slots p ≡ true) (λ p. has_slot (with_pair (key, slot) slots) p ≡ true)
          (λ p has. any_with (λ s. hook_serial s.1 == p.1.hook) key slot slots d.slots_rise none has) events d.kept.hooked;
      full = all_append (λ p. HasFailedWhenFull p.1) (filter (is_below key) slots) ((key, slot) ∷ filter (is_above key) slots)
          (all_kept _ (is_below key) slots d.kept.full)
          ((λ most. not_full slot.waiting d.empty most), all_kept _ (is_above key) slots d.kept.full);
    })
  where
    none_for : (serial : ℕ) → None ≡ value_at (pos serial) slots → (ps : Events) → AllByRecursion (λ p. has_slot slots p ≡ true) ps
        → filter (is_for serial) ps ≡ []
    none_for serial none [] h = refl
    none_for serial none (p ∷ ps) h =
        rw (ne_eqb p.1.hook serial (λ same. none_serial serial slots d.kept.slots_keyed none p same h.0)) (none_for serial none ps h.1)

    not_full : (waiting : Events) → waiting ≡ [] → nat_le most_waiting (length waiting) ≡ true → slot.row.value.failed ≡ true
    not_full waiting none most = absurd (let is = ap (λ (l : Events). nat_le most_waiting (length l)) none in grind (arith, sym is ∙ most))

pub joined_is : (row : HookRow) (slot : Slot) (slots new_slots : Slots) (events : Events) → Joins row slot slots events
    → new_slots ≡ with_pair (pos row.serial, slot) slots → seen_outbox new_slots events ≡ with_hook_joined row (seen_outbox slots events)
joined_is row slot slots new_slots events d e =
    let own : hook_serial slot ≡ row.serial = ap (λ (r : HookRow). r.serial) d.row_is in
    let none = none_at (pos row.serial) slots (sym (none_of (value_at (pos row.serial) slots) d.new)) in
    ap (λ l. record { hooks = l; events = values events })
    (ap hooks_of (e ∙ ap (λ n. with_pair (pos n, slot) slots) (sym own))
    ∙ ap hook_rows (inserted_is hook_serial slot slots d.slots_rise d.kept.slots_keyed
    (subst (λ n. AllByRecursion (λ p. is_at (pos n) p ≡ false) slots) (sym own) none))
    ∙ inserted_hooks slot (values slots) ∙ ap (λ r. inserted hook_before r (hooks_of slots)) d.row_is)

-- ---- an event at its place

-- what is known where an event comes
pub record Waits (row : EventRow) (slot more : Slot) (slots : Slots) (events : Events) : Type 0 where
  pub kept : AreSlots slots events
  pub slots_rise : IsRising slots
  pub events_rise : IsRising events
  pub other_hooks : is_some (value_at (pos row.serial) slots) ≡ false
  pub other_events : is_some (value_at (pos row.serial) events) ≡ false
  pub slot_is : Some slot ≡ value_at (pos row.hook) slots
  pub room : slot_has_room slot ≡ true
  pub same_row : more.row.value ≡ slot.row.value
  pub more_is : more.waiting ≡ with_pair (pos row.serial, row) slot.waiting

own_events : (row : EventRow) (slot more : Slot) (slots : Slots) (events : Events) → Waits row slot more slots events
    → more.waiting ≡ filter (is_for row.hook) (with_pair (pos row.serial, row) events)
own_events row slot more slots events d =
    let own = found_waiting row.hook slots events slot d.kept d.slot_is in
    d.more_is ∙ ap (with_pair (pos row.serial, row)) own.1
    ∙ sym (with_kept (is_for row.hook) (pos row.serial) row events (eq-eqb row.hook row.hook refl))

-- one event more waits for the hook
own_count : (row : EventRow) (slot more : Slot) (slots : Slots) (events : Events) → Waits row slot more slots events
    → length more.waiting ≡ length slot.waiting + 1
own_count row slot more slots events d =
    let own = found_waiting row.hook slots events slot d.kept d.slot_is in
    let key : ℤ = pos row.serial in
    let same : without_key key slot.waiting ≡ slot.waiting =
    ap (without_key key) own.1 ∙ without_kept (is_for row.hook) key events d.events_rise
    ∙ ap (filter (is_for row.hook)) (without_none key events d.events_rise (none_of (value_at key events) d.other_events)) ∙ sym own.1 in
    ap length d.more_is ∙ length_with (key, row) slot.waiting ∙ ap (λ (l : Events). length l + 1) same

own_full : (row : EventRow) (slot more : Slot) (slots : Slots) (events : Events) → Waits row slot more slots events → HasFailedWhenFull more
own_full row slot more slots events d most =
    let parts = and_parts (nat_lt (length slot.waiting) most_waiting) (nat_lt (length slot.waiting + 1) most_waiting || slot.row.value.failed) d.room in
    let count = own_count row slot more slots events d in
    elim (or_cases (nat_lt (length slot.waiting + 1) most_waiting) slot.row.value.failed parts.1) [
      | inl few ↦
          absurd
          (let lt = ltb-true (length slot.waiting + 1) most_waiting few in
          let le = leb-true most_waiting (length more.waiting) most in omega (arith, count, lt, le))
      | inr failed ↦ ap (λ (r : HookRow). r.failed) d.same_row ∙ failed
    ]

found_has : (n : ℕ) (slots : Slots) (slot : Slot) → IsKeyedBy slot_key slots → Some slot ≡ value_at (pos n) slots
    → list_any (λ p. hook_serial p.1 == n) slots ≡ true
found_has n slots slot keyed e = sym (any_values slots) ∙ sym (seen_at hook_serial n slots keyed) ∙ ap is_some (sym e)
  where
    any_values : (ps : Slots) → list_any (λ s. hook_serial s == n) (values ps) ≡ list_any (λ p. hook_serial p.1 == n) ps
    any_values [] = refl
    any_values (p ∷ ps) = ap (λ b. (hook_serial p.1 == n) || b) (any_values ps)

pub waits_slots : (row : EventRow) (slot more : Slot) (slots new_slots : Slots) (events new_events : Events) → Waits row slot more slots events
    → new_slots ≡ with_pair (pos row.hook, more) slots → new_events ≡ with_pair (pos row.serial, row) events → AreSlots new_slots new_events
waits_slots row slot more slots new_slots events new_events d es ee =
    let key : ℤ = pos row.hook in
    let all : Events = with_pair (pos row.serial, row) events in
    let own = found_waiting row.hook slots events slot d.kept d.slot_is in
    let serial : hook_serial more ≡ row.hook = ap (λ (r : HookRow). r.serial) d.same_row ∙ own.0 in
    let kept = held slots events d.kept.slots_keyed d.kept.waiting d.kept.full in
    let split = at_split key slots slot d.slots_rise (sym d.slot_is) in
    let still : (p : ℤ × EventRow) → has_slot slots p ≡ true → has_slot (with_pair (key, more) slots) p ≡ true = λ p there.
    same_serials key slot more slots (ap (λ (r : HookRow). r.serial) d.same_row) p.1.hook ∙ sym (ap (λ l. has_slot l p) split) ∙ there in
    let hooked = all_map (λ p. has_slot slots p ≡ true) (λ p. has_slot (with_pair (key, more) slots) p ≡ true) still events d.kept.hooked in
    subst (λ l. AreSlots l new_events) (sym es)
    (subst (AreSlots (with_pair (key, more) slots)) (sym ee)
    (record {
      slots_keyed = keyed_with slot_key key more slots (ap pos (sym serial)) d.kept.slots_keyed;
      events_keyed = keyed_with event_key (pos row.serial) row events refl d.kept.events_keyed;
      waiting = all_append (λ p. p.1.waiting ≡ filter (is_for (hook_serial p.1)) all) (filter (is_below key) slots) ((key, more) ∷ filter (is_above key) slots)
          (kept_so (Held events) _ (is_below key) (λ p below h. others p h (λ e. grind (arith, ints))) slots kept) (
            subst (λ h. more.waiting ≡ filter (is_for h) all) (sym serial) (own_events row slot more slots events d),
            kept_so (Held events) _ (is_above key) (λ p above h. others p h (λ e. grind (arith, ints))) slots kept,
          );
      hooked = all_append (λ p. has_slot (with_pair (key, more) slots) p ≡ true) (filter (is_below (pos row.serial)) events)
          ((pos row.serial, row) ∷ filter (is_above (pos row.serial)) events) (all_kept _ (is_below (pos row.serial)) events hooked)
          (still (pos row.serial, row) (found_has row.hook slots slot d.kept.slots_keyed d.slot_is), all_kept _ (is_above (pos row.serial)) events hooked);
      full = all_append (λ p. HasFailedWhenFull p.1) (filter (is_below key) slots) ((key, more) ∷ filter (is_above key) slots)
          (all_kept _ (is_below key) slots d.kept.full) (own_full row slot more slots events d, all_kept _ (is_above key) slots d.kept.full);
    }))
  where
    others : (p : ℤ × Slot) → Held events p → (p.0 ≡ pos row.hook → ⊥)
        → p.1.waiting ≡ filter (is_for (hook_serial p.1)) (with_pair (pos row.serial, row) events)
    others p h apart =
        h.waits
        ∙ sym (with_dropped (is_for (hook_serial p.1)) (pos row.serial) row events
        (ne_eqb row.hook (hook_serial p.1) (λ same. apart (h.key ∙ ap pos (sym same)))) d.events_rise
        (none_of (value_at (pos row.serial) events) d.other_events))

same_hooks : (key : ℤ) (slot left : Slot) (front rest : Slots) → left.row.value ≡ slot.row.value
    → hooks_of (front ++ (key, left) ∷ rest) ≡ hooks_of (front ++ (key, slot) ∷ rest)
same_hooks key slot left [] rest same = ap (λ row. row ∷ hooks_of rest) same
same_hooks key slot left (p ∷ front) rest same = ap (λ l. p.1.row.value ∷ l) (same_hooks key slot left front rest same)

pub waits_is : (row : EventRow) (slot more : Slot) (slots new_slots : Slots) (events new_events : Events) → Waits row slot more slots events
    → new_slots ≡ with_pair (pos row.hook, more) slots → new_events ≡ with_pair (pos row.serial, row) events
    → seen_outbox new_slots new_events ≡ waits row (seen_outbox slots events)
waits_is row slot more slots new_slots events new_events d es ee =
    let key : ℤ = pos row.hook in
    let hooks : hooks_of new_slots ≡ hooks_of slots =
    ap hooks_of es ∙ same_hooks key slot more (filter (is_below key) slots) (filter (is_above key) slots) d.same_row
    ∙ sym (ap hooks_of (at_split key slots slot d.slots_rise (sym d.slot_is))) in
    let rows : values new_events ≡ inserted event_before row (values events) =
    ap values ee ∙ inserted_is (λ (r : EventRow). r.serial) row events d.events_rise d.kept.events_keyed
    (none_at (pos row.serial) events (sym (none_of (value_at (pos row.serial) events) d.other_events))) in
    ap (λ l. record { hooks = l; events = values new_events }) hooks ∙ ap (λ l. record { hooks = hooks_of slots; events = l }) rows

-- ---- which events may come

-- what waits for the hook that was found, with one event more
own_waiting : (row : EventRow) (slot : Slot) (slots : Slots) (events : Events) → AreSlots slots events → Some slot ≡ value_at (pos row.hook) slots
    → waiting_count (hook_serial slot) (row ∷ values events) ≡ length slot.waiting + 1
own_waiting row slot slots events kept e =
    let own = found_waiting row.hook slots events slot kept e in
    ap (λ h. waiting_count h (row ∷ values events)) own.0
    ∙ ap (λ b. length (cond b (row ∷ waiting_for row.hook (values events)) (waiting_for row.hook (values events)))) (eq-eqb row.hook row.hook refl)
    ∙ omega (arith, counted)
  where
    counted : length (waiting_for row.hook (values events)) ≡ length slot.waiting
    counted =
        let own = found_waiting row.hook slots events slot kept e in
        ap length (sym (waiting_is row.hook events)) ∙ length_values (filter (is_for row.hook) events) ∙ ap length (sym own.1)
      where
        length_values : (ps : Events) → length (values ps) ≡ length ps
        length_values [] = refl
        length_values (p ∷ ps) = ap suc (length_values ps)

one_less : (n m : ℕ) → nat_le (n + 1) m ≡ nat_lt n m
one_less n m = by (nat_lt n m) refl
  where
    by : (t : Bool) → nat_lt n m ≡ t → nat_le (n + 1) m ≡ nat_lt n m
    by true e = (let lt = ltb-true n m e in le-leb (n + 1) m (omega (arith, lt))) ∙ sym e
    by false e = by' (nat_le (n + 1) m) refl
      where
        by' : (s : Bool) → nat_le (n + 1) m ≡ s → nat_le (n + 1) m ≡ nat_lt n m
        by' true f = absurd (let le = leb-true (n + 1) m f in let yes_lt : nat_lt n m ≡ true = lt-ltb n m (omega (arith, le)) in grind (arith, yes_lt, e))
        by' false f = f ∙ sym e

own_good : (row : EventRow) (slot : Slot) (slots : Slots) (events : Events) → AreSlots slots events → Some slot ≡ value_at (pos row.hook) slots
    → is_hook_good (row ∷ values events) slot.row.value ≡ slot_has_room slot
own_good row slot slots events kept e =
    ap (λ n. nat_le n most_waiting && (nat_lt n most_waiting || slot.row.value.failed)) (own_waiting row slot slots events kept e)
    ∙ ap (λ b. b && (nat_lt (length slot.waiting + 1) most_waiting || slot.row.value.failed)) (one_less (length slot.waiting) most_waiting)

-- all hooks have room where the one that was found has
room_is : (row : EventRow) (slot : Slot) (slots : Slots) (events : Events) → AreSlots slots events → IsRising slots → Some slot ≡ value_at (pos row.hook) slots
    → list_all (has_room row (values events)) (hooks_of slots) ≡ slot_has_room slot
room_is row slot slots events kept rising e = by (slot_has_room slot) refl
  where
    good : is_hook_good (row ∷ values events) slot.row.value ≡ slot_has_room slot
    good = own_good row slot slots events kept e

    same_test : (p : ℤ × Slot) → p.0 ≡ slot_key p.1 → (hook_serial p.1 == row.hook) ≡ is_at (pos row.hook) p
    same_test p key = rw key (grind (arith, ints))

    holds : (ps : Slots) → slot_has_room slot ≡ true → IsKeyedBy slot_key ps → AllByRecursion (λ p. is_at (pos row.hook) p ≡ true → p.1 ≡ slot) ps
        → list_all (has_room row (values events)) (hooks_of ps) ≡ true
    holds [] room k h = refl
    holds (p ∷ ps) room k h =
        and_from (has_room row (values events) p.1.row.value) (list_all (has_room row (values events)) (hooks_of ps)) (one (is_at (pos row.hook) p) refl)
        (holds ps room k.1 h.1)
      where
        one : (b : Bool) → is_at (pos row.hook) p ≡ b → has_room row (values events) p.1.row.value ≡ true
        one true at =
            or_right (not (hook_serial p.1 == row.hook)) _
            (ap (λ (s : Slot). is_hook_good (row ∷ values events) s.row.value) (h.0 at) ∙ good ∙ room)
        one false at = or_left (not (hook_serial p.1 == row.hook)) _ (ap not (same_test p k.0 ∙ at))

    fails : (ps : Slots) → slot_has_room slot ≡ false → IsKeyedBy slot_key ps → Some slot ≡ value_at (pos row.hook) ps
        → list_all (has_room row (values events)) (hooks_of ps) ≡ false
    fails [] room k f = absurd (grind (arith, f))
    fails (p ∷ ps) room k f = one (is_at (pos row.hook) p) refl f (λ later. fails ps room k.1 later)
      where
        some_same : {x y : Slot} → Some x ≡ Some y → x ≡ y
        some_same e = grind arith

        first_false : (a b : Bool) → a ≡ false → (a && b) ≡ false
        first_false true b g = absurd (grind (arith, g))
        first_false false b g = refl

        second_false : (a b : Bool) → b ≡ false → (a && b) ≡ false
        second_false true b g = g
        second_false false b g = refl

        one : (b : Bool) → is_at (pos row.hook) p ≡ b
            → Some slot ≡ option_map (λ q. q.1) (first (cond b (p ∷ filter (is_at (pos row.hook)) ps) (filter (is_at (pos row.hook)) ps)))
            → (Some slot ≡ value_at (pos row.hook) ps → list_all (has_room row (values events)) (hooks_of ps) ≡ false)
            → list_all (has_room row (values events)) (hooks_of (p ∷ ps)) ≡ false
        one true at g rest =
            let own : p.1 ≡ slot = sym (some_same g) in
            first_false (has_room row (values events) p.1.row.value) _
            (ap (λ b. not b || is_hook_good (row ∷ values events) p.1.row.value) (same_test p k.0 ∙ at)
            ∙ ap (λ (s : Slot). is_hook_good (row ∷ values events) s.row.value) own ∙ good ∙ room)
        one false at g rest = second_false (has_room row (values events) p.1.row.value) _ (rest g)

    by : (b : Bool) → slot_has_room slot ≡ b → list_all (has_room row (values events)) (hooks_of slots) ≡ slot_has_room slot
    by true room = holds slots room kept.slots_keyed (at_is (pos row.hook) slots slot rising (sym e)) ∙ sym room
    by false room = fails slots room kept.slots_keyed e ∙ sym room

-- whether a serial is new, by looks
pub is_new_is : (serial : ℕ) (slots : Slots) (events : Events) → IsKeyedBy slot_key slots → IsKeyedBy event_key events
    → has_no_serial serial (seen_outbox slots events)
    ≡ (not (is_some (value_at (pos serial) slots)) && not (is_some (value_at (pos serial) events)))
is_new_is serial slots events slots_keyed events_keyed =
    ap (λ b. not b && not (list_any (λ row. row.serial == serial) (values events))) (sym (hook_seen serial slots slots_keyed))
    ∙ ap (λ b. not (is_some (value_at (pos serial) slots)) && not b) (sym (event_seen serial events events_keyed))

-- an event may wait where its serial is new and the hook that was found has room
pub may_wait_is : (row : EventRow) (slot : Slot) (slots : Slots) (events : Events) → AreSlots slots events → IsRising slots
    → Some slot ≡ value_at (pos row.hook) slots → may_wait row (seen_outbox slots events) ≡ (has_no_serial row.serial (seen_outbox slots events)
    && slot_has_room slot)
may_wait_is row slot slots events kept rising e =
    ap (λ b. has_no_serial row.serial (seen_outbox slots events) && b && list_all (has_room row (values events)) (hooks_of slots))
    (sym (hook_seen row.hook slots kept.slots_keyed) ∙ ap is_some (sym e))
    ∙ ap (λ b. has_no_serial row.serial (seen_outbox slots events) && true && b) (room_is row slot slots events kept rising e)
    ∙ drop_true (has_no_serial row.serial (seen_outbox slots events)) (slot_has_room slot)
  where
    drop_true : (a b : Bool) → (a && true && b) ≡ (a && b)
    drop_true true b = refl
    drop_true false b = refl

-- none may wait where its hook isn't kept
pub none_may_wait : (row : EventRow) (slots : Slots) (events : Events) → AreSlots slots events → None ≡ value_at (pos row.hook) slots
    → may_wait row (seen_outbox slots events) ≡ false
none_may_wait row slots events kept none =
    ap (λ b. has_no_serial row.serial (seen_outbox slots events) && b && list_all (has_room row (values events)) (hooks_of slots))
    (sym (hook_seen row.hook slots kept.slots_keyed) ∙ ap is_some (sym none))
    ∙ no_one (has_no_serial row.serial (seen_outbox slots events)) (list_all (has_room row (values events)) (hooks_of slots))
  where
    no_one : (a b : Bool) → (a && false && b) ≡ false
    no_one true b = refl
    no_one false b = refl

-- what is known where an event may wait
pub may_is : (row : EventRow) (slot : Slot) (slots : Slots) (events : Events) → AreSlots slots events → IsRising slots
    → Some slot ≡ value_at (pos row.hook) slots → may_wait row (seen_outbox slots events) ≡ true
    → ((is_some (value_at (pos row.serial) slots) ≡ false) × (is_some (value_at (pos row.serial) events) ≡ false)) × (slot_has_room slot ≡ true)
may_is row slot slots events kept rising e may =
    let parts = and_parts (has_no_serial row.serial (seen_outbox slots events)) (slot_has_room slot) (sym (may_wait_is row slot slots events kept rising e)
    ∙ may) in
    let new = and_parts (not (is_some (value_at (pos row.serial) slots))) (not (is_some (value_at (pos row.serial) events)))
    (sym (is_new_is row.serial slots events kept.slots_keyed kept.events_keyed) ∙ parts.0) in
    ((not_true (is_some (value_at (pos row.serial) slots)) new.0, not_true (is_some (value_at (pos row.serial) events)) new.1), parts.1)

-- the hook of an event that may wait is kept
pub hook_there : (row : EventRow) (slots : Slots) (events : Events) → AreSlots slots events → may_wait row (seen_outbox slots events) ≡ true
    → None ≡ value_at (pos row.hook) slots → ⊥
hook_there row slots events kept may none = let fails = none_may_wait row slots events kept none in grind (arith, may, fails)

pub new_joins : (row : HookRow) (slots : Slots) (events : Events) → IsKeyedBy slot_key slots → may_join row (seen_outbox slots events) ≡ true
    → is_some (value_at (pos row.serial) slots) ≡ false
new_joins row slots events keyed may = hook_seen row.serial slots keyed ∙ not_true (list_any (λ hook. hook.serial == row.serial) (hooks_of slots)) may

pub may_join_is : (row : HookRow) (slots : Slots) (events : Events) → IsKeyedBy slot_key slots → may_join row (seen_outbox slots events)
    ≡ not (is_some (value_at (pos row.serial) slots))
may_join_is row slots events keyed = ap not (sym (hook_seen row.serial slots keyed))
