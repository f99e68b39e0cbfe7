-- What is left once a hook went with its events, and once all of an address did.
use Rattle.std.proofs.Common.{◌≡◌, inl, inr, ℕ, ℤ, pos, ◌<ℤ◌, Bool, true, false, not, ◌||◌, cond, List, [], ◌∷◌, ◌++◌, Some, None, filter, refl, sym, ap, subst, ◌∙◌, arith}
use Rattle.std.specs.Prelude.{◌==◌}
use Rattle.std.specs.List.{AllByRecursion, list_any}
use Rattle.std.proofs.lemmas.Bool.{eq-eqb, eqb-true, ne_eqb, or_cases, or_left, or_right}
use Rattle.std.proofs.lemmas.Int.{ints}
use Rattle.std.proofs.lemmas.List.{append_assoc}
use Rattle.media_rows.specs.declared.event.EventRow.{EventRow}
use Rattle.media_rows.specs.declared.hook.HookRow.{HookRow}
use Rattle.media_rows.specs.Lists.{has_number}
use Rattle.media_rows.specs.Outbox.{Outbox, after_drop_hook, gone_serials, has_url}
use Rattle.shared_tree.specs.Pairs.{IsRising, is_at, value_at, values, without_key}
use Rattle.shared_tree.specs.Rows.{IsKeyedBy}
use Rattle.shared_tree.proofs.Counted.{all_kept, rising_without}
use Rattle.shared_tree.proofs.Rising.{all_map, around, cut_at, filter_all}
use Rattle.shared_tree.proofs.Rows.{others_are, values_kept}
use Rattle.webhook_outbox.specs.declared.outbox.Slot.{Slot}
use Rattle.webhook_outbox.specs.Within.Drops.{dropped, without_event_rows, without_serial}
use Rattle.webhook_outbox.specs.Within.Slots.{AreSlots, HasFailedWhenFull, event_key, has_slot, hook_serial, hooks_of, is_for, seen_outbox, slot_key}
use Rattle.webhook_outbox.proofs.Found.{none_at}
use Rattle.webhook_outbox.proofs.Waiting.{Events, Slots, found_waiting, none_serial}

-- ---- lists

module _ {X : Type 0} where
  -- what is kept by a test has what follows from passing it
  pub kept_so : (P Q : X → Type 0) (test : X → Bool) → ((x : X) → test x ≡ true → P x → Q x) → (xs : List X) → AllByRecursion P xs
      → AllByRecursion Q (filter test xs)
  kept_so P Q test f [] h = tt
  kept_so P Q test f (x ∷ xs) h = by (test x) refl (kept_so P Q test f xs h.1)
    where
      by : (b : Bool) → test x ≡ b → AllByRecursion Q (filter test xs) → AllByRecursion Q (cond b (x ∷ filter test xs) (filter test xs))
      by true e rest = (f x e h.0, rest)
      by false e rest = rest

  -- two tests that agree keep the same
  pub filter_same : (f g : X → Bool) (xs : List X) → AllByRecursion (λ x. f x ≡ g x) xs → filter f xs ≡ filter g xs
  filter_same f g [] h = refl
  filter_same f g (x ∷ xs) h = ap (λ b. cond b (x ∷ filter f xs) (filter f xs)) h.0 ∙ ap (λ l. cond (g x) (x ∷ l) l) (filter_same f g xs h.1)

  -- what passes neither test
  filter_both : (f g : X → Bool) (xs : List X) → filter (λ x. not (g x)) (filter (λ x. not (f x)) xs) ≡ filter (λ x. not (f x || g x)) xs
  filter_both f g [] = refl
  filter_both f g (x ∷ xs) = by (f x) refl (filter_both f g xs)
    where
      by : (b : Bool) → f x ≡ b → filter (λ y. not (g y)) (filter (λ y. not (f y)) xs) ≡ filter (λ y. not (f y || g y)) xs
          → filter (λ y. not (g y)) (filter (λ y. not (f y)) (x ∷ xs)) ≡ filter (λ y. not (f y || g y)) (x ∷ xs)
      by true e rest = rw e rest
      by false e rest = rw e (ap (λ l. cond (not (g x)) (x ∷ l) l) rest)

  filter_true : (xs : List X) → filter (λ x. true) xs ≡ xs
  filter_true [] = refl
  filter_true (x ∷ xs) = ap (λ l. x ∷ l) (filter_true xs)

-- ---- one hook

-- events without those that wait for a hook, one after the other
rows_gone : (hook : ℕ) (kept rest : Events) → IsRising (kept ++ rest) → IsKeyedBy event_key rest
    → without_event_rows (values (filter (is_for hook) rest)) (kept ++ rest) ≡ kept ++ filter (λ p. not (is_for hook p)) rest
rows_gone hook kept [] rising keyed = refl
rows_gone hook kept (p ∷ ps) rising keyed = by (is_for hook p) refl (λ front up. rows_gone hook front ps up keyed.1)
  where
    by : (b : Bool) → is_for hook p ≡ b
        → ((front : Events) → IsRising (front ++ ps)
        → without_event_rows (values (filter (is_for hook) ps)) (front ++ ps) ≡ front ++ filter (λ q. not (is_for hook q)) ps)
        → without_event_rows (values (filter (is_for hook) (p ∷ ps))) (kept ++ p ∷ ps) ≡ kept ++ filter (λ q. not (is_for hook q)) (p ∷ ps)
    by true e ih =
        let cut : without_key (event_key p.1) (kept ++ p ∷ ps) ≡ kept ++ ps = cut_at (event_key p.1) kept p ps (around kept p ps rising) (sym keyed.0) in
        let rest = ih kept (subst IsRising cut (rising_without (event_key p.1) (kept ++ p ∷ ps) rising)) in
        rw e (ap (without_event_rows (values (filter (is_for hook) ps))) cut ∙ rest)
    by false e ih =
        let shifted : (kept ++ p ∷ []) ++ ps ≡ kept ++ p ∷ ps = append_assoc kept (p ∷ []) ps in
        let rest = ih (kept ++ p ∷ []) (subst IsRising (sym shifted) rising) in
        rw e
        (ap (without_event_rows (values (filter (is_for hook) ps))) (sym shifted) ∙ rest ∙ append_assoc kept (p ∷ []) (filter (λ q. not (is_for hook q)) ps))

-- what is known where a hook goes
pub record Goes (serial : ℕ) (slot : Slot) (slots new_slots : Slots) (events new_events : Events) : Type 0 where
  pub kept : AreSlots slots events
  pub slots_rise : IsRising slots
  pub events_rise : IsRising events
  pub slot_is : Some slot ≡ value_at (pos serial) slots
  pub new_slots_are : new_slots ≡ without_key (pos serial) slots
  pub new_events_are : new_events ≡ without_event_rows (values slot.waiting) events

abbrev stays : ℕ → ℤ × Slot → Bool
stays serial p = not (is_at (pos serial) p)

abbrev left_for : ℕ → ℤ × EventRow → Bool
left_for serial p = not (is_for serial p)

slots_left : (serial : ℕ) (slot : Slot) (slots new_slots : Slots) (events new_events : Events) → Goes serial slot slots new_slots events new_events
    → new_slots ≡ filter (stays serial) slots
slots_left serial slot slots new_slots events new_events d = d.new_slots_are ∙ others_are (pos serial) slots d.slots_rise

events_left : (serial : ℕ) (slot : Slot) (slots new_slots : Slots) (events new_events : Events) → Goes serial slot slots new_slots events new_events
    → new_events ≡ filter (left_for serial) events
events_left serial slot slots new_slots events new_events d =
    let own = found_waiting serial slots events slot d.kept d.slot_is in
    d.new_events_are ∙ ap (λ l. without_event_rows (values l) events) own.1 ∙ rows_gone serial [] events d.events_rise d.kept.events_keyed

-- a hook's key tells whether it is of a serial
same_test : (serial : ℕ) (p : ℤ × Slot) → p.0 ≡ slot_key p.1 → (hook_serial p.1 == serial) ≡ is_at (pos serial) p
same_test serial p key = rw key (grind (arith, ints))

-- what a slot has
pub record Held (events : Events) (p : ℤ × Slot) : Type 0 where
  pub key : p.0 ≡ slot_key p.1
  pub waits : p.1.waiting ≡ filter (is_for (hook_serial p.1)) events
  pub full : HasFailedWhenFull p.1

pub held : (slots : Slots) (events : Events) → IsKeyedBy slot_key slots → AllByRecursion (λ p. p.1.waiting ≡ filter (is_for (hook_serial p.1)) events) slots
    → AllByRecursion (λ p. HasFailedWhenFull p.1) slots → AllByRecursion (Held events) slots
held [] events k w f = tt
held (p ∷ ps) events k w f = (record { key = k.0; waits = w.0; full = f.0 }, held ps events k.1 w.1 f.1)

-- another hook's events are left
others_left : (serial hook : ℕ) (events : Events) → (hook == serial) ≡ false
    → filter (is_for hook) (filter (left_for serial) events) ≡ filter (is_for hook) events
others_left serial hook [] apart = refl
others_left serial hook (p ∷ ps) apart = by (p.1.hook == serial) refl (others_left serial hook ps apart)
  where
    by : (b : Bool) → (p.1.hook == serial) ≡ b → filter (is_for hook) (filter (left_for serial) ps) ≡ filter (is_for hook) ps
        → filter (is_for hook) (filter (left_for serial) (p ∷ ps)) ≡ filter (is_for hook) (p ∷ ps)
    by true e rest =
        let other : (p.1.hook == hook) ≡ false = ne_eqb p.1.hook hook
        (λ same. (let e' : (hook == serial) ≡ true = eq-eqb hook serial (sym same ∙ eqb-true p.1.hook serial e) in grind (arith, e', apart))) in
        rw (e, other) rest
    by false e rest = rw e (ap (λ l. cond (p.1.hook == hook) (p ∷ l) l) rest)

-- the hook of an event that is left is left
hook_left : (serial : ℕ) (slots : Slots) (p : ℤ × EventRow) → IsKeyedBy slot_key slots → (p.1.hook == serial) ≡ false → has_slot slots p ≡ true
    → has_slot (filter (stays serial) slots) p ≡ true
hook_left serial [] p keyed apart has = has
hook_left serial (q ∷ qs) p keyed apart has = by (is_at (pos serial) q) refl (λ later. hook_left serial qs p keyed.1 apart later)
  where
    by : (b : Bool) → is_at (pos serial) q ≡ b → (has_slot qs p ≡ true → has_slot (filter (stays serial) qs) p ≡ true)
        → list_any (λ s. hook_serial s.1 == p.1.hook) (cond (not b) (q ∷ filter (stays serial) qs) (filter (stays serial) qs)) ≡ true
    by true at ih =
        elim (or_cases (hook_serial q.1 == p.1.hook) (list_any (λ s. hook_serial s.1 == p.1.hook) qs) has) [
          | inl own ↦
              (let number : hook_serial q.1 ≡ serial = eqb-true (hook_serial q.1) serial (same_test serial q keyed.0 ∙ at) in
              let same : (p.1.hook == serial) ≡ true = eq-eqb p.1.hook serial (sym (eqb-true (hook_serial q.1) p.1.hook own) ∙ number) in
              absurd (grind (arith, same, apart)))
          | inr later ↦ ih later
        ]
    by false at ih =
        elim (or_cases (hook_serial q.1 == p.1.hook) (list_any (λ s. hook_serial s.1 == p.1.hook) qs) has) [
          | inl own ↦ or_left (hook_serial q.1 == p.1.hook) (list_any (λ s. hook_serial s.1 == p.1.hook) (filter (stays serial) qs)) own
          | inr later ↦
              or_right (hook_serial q.1 == p.1.hook) (list_any (λ s. hook_serial s.1 == p.1.hook) (filter (stays serial) qs)) (ih later)
        ]

pub not_true : (b : Bool) → not b ≡ true → b ≡ false
not_true false e = refl
not_true true e = sym e

pub gone_slots : (serial : ℕ) (slot : Slot) (slots new_slots : Slots) (events new_events : Events) → Goes serial slot slots new_slots events new_events
    → AreSlots new_slots new_events
gone_slots serial slot slots new_slots events new_events d =
    let all = held slots events d.kept.slots_keyed d.kept.waiting d.kept.full in
    subst (λ l. AreSlots l new_events) (sym (slots_left serial slot slots new_slots events new_events d))
    (subst (AreSlots (filter (stays serial) slots)) (sym (events_left serial slot slots new_slots events new_events d))
    (record {
      slots_keyed = all_kept (λ p. p.0 ≡ slot_key p.1) (stays serial) slots d.kept.slots_keyed;
      events_keyed = all_kept (λ p. p.0 ≡ event_key p.1) (left_for serial) events d.kept.events_keyed;
      waiting = kept_so (Held events) (λ p. p.1.waiting ≡ filter (is_for (hook_serial p.1)) (filter (left_for serial) events)) (stays serial)
          (λ p left h. h.waits ∙ sym (others_left serial (hook_serial p.1) events (same_test serial p h.key ∙ not_true (is_at (pos serial) p) left))) slots all;
      hooked = kept_so (λ p. has_slot slots p ≡ true) (λ p. has_slot (filter (stays serial) slots) p ≡ true) (left_for serial)
          (λ p left has. hook_left serial slots p d.kept.slots_keyed (not_true (is_for serial p) left) has) events d.kept.hooked;
      full = all_kept (λ p. HasFailedWhenFull p.1) (stays serial) slots d.kept.full;
    }))

-- the rows of the hooks that are left
hooks_left : (serial : ℕ) (slots : Slots) → IsKeyedBy slot_key slots → hooks_of (filter (stays serial) slots) ≡ filter (λ row. not (row.serial == serial))
    (hooks_of slots)
hooks_left serial [] keyed = refl
hooks_left serial (p ∷ ps) keyed = by (is_at (pos serial) p) refl (same_test serial p keyed.0) (hooks_left serial ps keyed.1)
  where
    by : (b : Bool) → is_at (pos serial) p ≡ b → (hook_serial p.1 == serial) ≡ is_at (pos serial) p
        → hooks_of (filter (stays serial) ps) ≡ filter (λ row. not (row.serial == serial)) (hooks_of ps)
        → hooks_of (filter (stays serial) (p ∷ ps)) ≡ filter (λ row. not (row.serial == serial)) (hooks_of (p ∷ ps))
    by true at same rest = rw (at, same ∙ at) rest
    by false at same rest = rw (at, same ∙ at) (ap (λ l. p.1.row.value ∷ l) rest)

rows_left : (serial : ℕ) (events : Events) → values (filter (left_for serial) events) ≡ filter (λ row. not (row.hook == serial)) (values events)
rows_left serial events = sym (values_kept (λ row. not (row.hook == serial)) (left_for serial) events (each events))
  where
    each : (ps : Events) → AllByRecursion (λ p. not (p.1.hook == serial) ≡ left_for serial p) ps
    each [] = tt
    each (p ∷ ps) = (refl, each ps)

left_is : (serial : ℕ) (slots : Slots) (events : Events) → IsKeyedBy slot_key slots
    → seen_outbox (filter (stays serial) slots) (filter (left_for serial) events) ≡ without_serial serial (seen_outbox slots events)
left_is serial slots events keyed =
    ap (λ l. record { hooks = l; events = values (filter (left_for serial) events) }) (hooks_left serial slots keyed)
    ∙ ap (λ l. record { hooks = filter (λ row. not (row.serial == serial)) (hooks_of slots); events = l }) (rows_left serial events)

pub gone_is : (serial : ℕ) (slot : Slot) (slots new_slots : Slots) (events new_events : Events) → Goes serial slot slots new_slots events new_events
    → seen_outbox new_slots new_events ≡ without_serial serial (seen_outbox slots events)
gone_is serial slot slots new_slots events new_events d =
    ap (λ l. seen_outbox l new_events) (slots_left serial slot slots new_slots events new_events d)
    ∙ ap (seen_outbox (filter (stays serial) slots)) (events_left serial slot slots new_slots events new_events d)
    ∙ left_is serial slots events d.kept.slots_keyed

-- where no hook has the serial, all stays
pub none_goes : (serial : ℕ) (slots : Slots) (events : Events) → AreSlots slots events → None ≡ value_at (pos serial) slots
    → seen_outbox slots events ≡ without_serial serial (seen_outbox slots events)
none_goes serial slots events kept none =
    ap (λ l. seen_outbox l events) (sym (filter_all (stays serial) slots
    (all_map (λ p. is_at (pos serial) p ≡ false) (λ p. stays serial p ≡ true) (λ p e. ap not e) slots (none_at (pos serial) slots (sym none)))))
    ∙ ap (seen_outbox (filter (stays serial) slots)) (sym (filter_all (left_for serial) events
    (all_map (λ p. has_slot slots p ≡ true) (λ p. left_for serial p ≡ true) (λ p has. ap not (not_for p has)) events kept.hooked)))
    ∙ left_is serial slots events kept.slots_keyed
  where
    not_for : (p : ℤ × EventRow) → has_slot slots p ≡ true → is_for serial p ≡ false
    not_for p has = ne_eqb p.1.hook serial (λ same. none_serial serial slots kept.slots_keyed none p same has)

-- ---- hooks of an address

-- the outbox without hooks of these serials and their events
abbrev left : List ℕ → Outbox → Outbox
left serials outbox = record {
  hooks = filter (λ row. not (has_number row.serial serials)) outbox.hooks;
  events = filter (λ row. not (has_number row.hook serials)) outbox.events;
}

-- hooks that go one by one, all at once
dropped_is : (url : List ℕ) (rows : List HookRow) (outbox : Outbox) → dropped url rows outbox ≡ left (gone_serials url rows) outbox
dropped_is url [] outbox =
    ap (λ l. record { hooks = l; events = outbox.events }) (sym (filter_true outbox.hooks))
    ∙ ap (λ l. record { hooks = filter (λ row. true) outbox.hooks; events = l }) (sym (filter_true outbox.events))
dropped_is url (row ∷ rows) outbox = by (has_url url row) refl (dropped_is url rows (without_serial row.serial outbox)) (dropped_is url rows outbox)
  where
    by : (b : Bool) → has_url url row ≡ b
        → dropped url rows (without_serial row.serial outbox) ≡ left (gone_serials url rows) (without_serial row.serial outbox)
        → dropped url rows outbox ≡ left (gone_serials url rows) outbox → dropped url (row ∷ rows) outbox ≡ left (gone_serials url (row ∷ rows)) outbox
    by true e with_one as_is =
        rw e
        (with_one
        ∙ ap (λ l. record {
          hooks = l;
          events = filter (λ r. not (has_number r.hook (gone_serials url rows))) (filter (λ r. not (r.hook == row.serial)) outbox.events);
        })
        (filter_both (λ r. r.serial == row.serial) (λ r. has_number r.serial (gone_serials url rows)) outbox.hooks)
        ∙ ap (λ l. record { hooks = filter (λ r. not ((r.serial == row.serial) || has_number r.serial (gone_serials url rows))) outbox.hooks; events = l })
        (filter_both (λ r. r.hook == row.serial) (λ r. has_number r.hook (gone_serials url rows)) outbox.events))
    by false e with_one as_is = rw e as_is

-- a serial that none of these hooks has isn't that of one that goes
not_gone : (serial : ℕ) (url : List ℕ) (rows : List HookRow) → AllByRecursion (λ row. (serial == row.serial) ≡ false) rows
    → has_number serial (gone_serials url rows) ≡ false
not_gone serial url [] h = refl
not_gone serial url (row ∷ rows) h = by (has_url url row) refl (not_gone serial url rows h.1)
  where
    by : (b : Bool) → has_url url row ≡ b → has_number serial (gone_serials url rows) ≡ false → has_number serial (gone_serials url (row ∷ rows)) ≡ false
    by true e rest = rw (e, h.0) rest
    by false e rest = rw e rest

-- later hooks have other serials
later_apart : (p : ℤ × Slot) (ps : Slots) → p.0 ≡ slot_key p.1 → AllByRecursion (λ q. p.0 <ℤ q.0) ps → IsKeyedBy slot_key ps
    → AllByRecursion (λ row. ((hook_serial p.1 == row.serial) ≡ false) × ((row.serial == hook_serial p.1) ≡ false)) (hooks_of ps)
later_apart p [] own later keyed = tt
later_apart p (q ∷ ps) own later keyed = (
  (apart own keyed.0 later.0, apart' own keyed.0 later.0),
  later_apart p ps own later.1 keyed.1,
)
  where
    apart : p.0 ≡ slot_key p.1 → q.0 ≡ slot_key q.1 → p.0 <ℤ q.0 → (hook_serial p.1 == hook_serial q.1) ≡ false
    apart a b lt = grind (arith, ints)

    apart' : p.0 ≡ slot_key p.1 → q.0 ≡ slot_key q.1 → p.0 <ℤ q.0 → (hook_serial q.1 == hook_serial p.1) ≡ false
    apart' a b lt = grind (arith, ints)

-- the serials that go are just those of the hooks of the address
gone_are : (url : List ℕ) (ps : Slots) → IsRising ps → IsKeyedBy slot_key ps
    → AllByRecursion (λ row. has_number row.serial (gone_serials url (hooks_of ps)) ≡ has_url url row) (hooks_of ps)
gone_are url [] rising keyed = tt
gone_are url (p ∷ ps) rising keyed =
    by (has_url url p.1.row.value) refl (later_apart p ps keyed.0 rising.0 keyed.1) (gone_are url ps rising.1 keyed.1)
  where
    more : (rows : List HookRow) → AllByRecursion (λ r. ((hook_serial p.1 == r.serial) ≡ false) × ((r.serial == hook_serial p.1) ≡ false)) rows
        → AllByRecursion (λ r. has_number r.serial (gone_serials url (hooks_of ps)) ≡ has_url url r) rows
        → AllByRecursion (λ r. has_number r.serial (hook_serial p.1 ∷ gone_serials url (hooks_of ps)) ≡ has_url url r) rows
    more [] a h = tt
    more (r ∷ rs) a h = (ap (λ b. b || has_number r.serial (gone_serials url (hooks_of ps))) a.0.1 ∙ h.0, more rs a.1 h.1)

    with_own : (b : Bool) → has_url url p.1.row.value ≡ b → gone_serials url (p.1.row.value ∷ hooks_of ps) ≡ cond b
        (hook_serial p.1 ∷ gone_serials url (hooks_of ps)) (gone_serials url (hooks_of ps))
    with_own true e = rw e refl
    with_own false e = rw e refl

    by : (b : Bool) → has_url url p.1.row.value ≡ b
        → AllByRecursion (λ r. ((hook_serial p.1 == r.serial) ≡ false) × ((r.serial == hook_serial p.1) ≡ false)) (hooks_of ps)
        → AllByRecursion (λ r. has_number r.serial (gone_serials url (hooks_of ps)) ≡ has_url url r) (hooks_of ps)
        → AllByRecursion (λ r. has_number r.serial (gone_serials url (p.1.row.value ∷ hooks_of ps)) ≡ has_url url r) (p.1.row.value ∷ hooks_of ps)
    by true e apart later =
        subst (λ s. AllByRecursion (λ r. has_number r.serial s ≡ has_url url r) (p.1.row.value ∷ hooks_of ps)) (sym (with_own true e)) (
          or_left (hook_serial p.1 == hook_serial p.1) (has_number (hook_serial p.1) (gone_serials url (hooks_of ps)))
              (eq-eqb (hook_serial p.1) (hook_serial p.1) refl)
              ∙ sym e,
          more (hooks_of ps) apart later,
        )
    by false e apart later =
        subst (λ s. AllByRecursion (λ r. has_number r.serial s ≡ has_url url r) (p.1.row.value ∷ hooks_of ps)) (sym (with_own false e))
        (not_gone (hook_serial p.1) url (hooks_of ps) (all_map _ _ (λ r h. h.0) (hooks_of ps) apart) ∙ sym e, later)

pub all_dropped : (url : List ℕ) (slots : Slots) (events : Events) → IsRising slots → IsKeyedBy slot_key slots
    → dropped url (hooks_of slots) (seen_outbox slots events) ≡ after_drop_hook url (seen_outbox slots events)
all_dropped url slots events rising keyed =
    dropped_is url (hooks_of slots) (seen_outbox slots events)
    ∙ ap (λ l. record { hooks = l; events = filter (λ row. not (has_number row.hook (gone_serials url (hooks_of slots)))) (values events) })
    (filter_same (λ row. not (has_number row.serial (gone_serials url (hooks_of slots)))) (λ row. not (has_url url row)) (hooks_of slots)
    (all_map _ _ (λ row e. ap not e) (hooks_of slots) (gone_are url slots rising keyed)))
