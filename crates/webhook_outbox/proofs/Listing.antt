-- All rows of an outbox, as a walk from the least serial on gives them.
use Rattle.std.proofs.Common.{◌≡◌, ℕ, ℤ, pos, ◌≤ℤ◌, true, List, [], ◌∷◌, ◌++◌, filter, length, map, take, refl, sym, ap, ◌∙◌, arith}
use Rattle.std.specs.List.{AllByRecursion}
use Rattle.std.proofs.lemmas.Int.{ints}
use Rattle.std.proofs.lemmas.List.{length-map, take_all}
use Rattle.media_rows.specs.declared.event.EventRow.{EventRow}
use Rattle.shared_tree.specs.Pairs.{is_from, values}
use Rattle.shared_tree.specs.Rows.{IsKeyedBy}
use Rattle.shared_tree.proofs.Rising.{all_map, filter_all}
use Rattle.webhook_outbox.specs.declared.outbox.Slot.{Slot}
use Rattle.webhook_outbox.specs.Posting.{shown_in}
use Rattle.webhook_outbox.specs.Within.Slots.{AreSlots, HasSerials, event_key, hook_serial, hooks_of, is_for, seen_outbox, shown_slot, slot_key}
use Rattle.webhook_outbox.proofs.Waiting.{waiting_is}

all_from : {V : Type 0} (ps : List (ℤ × V)) → HasSerials ps → filter (is_from (pos 0)) ps ≡ ps
all_from ps serials = filter_all (is_from (pos 0)) ps (all_map (λ p. pos 0 ≤ℤ p.0) (λ p. is_from (pos 0) p ≡ true) (λ p le. grind (arith, ints)) ps serials)

pub walked_all : {V : Type 0} (n : ℕ) (ps : List (ℤ × V)) (before all : List V) → before ≡ [] → all ≡ before ++ take n (values (filter (is_from (pos 0)) ps))
    → n ≡ length ps → HasSerials ps → all ≡ values ps
walked_all n ps before all none e size serials =
    rw (e, none, all_from ps serials, size) (take_all (length ps) (values ps) (omega (arith, length-map ps (λ p. p.1))))

pub event_serials : (ps : List (ℤ × EventRow)) → IsKeyedBy event_key ps → HasSerials ps
event_serials ps keyed = all_map (λ p. p.0 ≡ event_key p.1) (λ p. pos 0 ≤ℤ p.0) (λ p e. rw e (omega (arith, ints))) ps keyed

pub slot_serials : (ps : List (ℤ × Slot)) → IsKeyedBy slot_key ps → HasSerials ps
slot_serials ps keyed = all_map (λ p. p.0 ≡ slot_key p.1) (λ p. pos 0 ≤ℤ p.0) (λ p e. rw e (omega (arith, ints))) ps keyed

-- hooks as they are shown
pub all_shown : (slots : List (ℤ × Slot)) (events : List (ℤ × EventRow)) → AreSlots slots events
    → map shown_slot (values slots) ≡ map (shown_in (seen_outbox slots events)) (hooks_of slots)
all_shown slots events kept = each slots kept.waiting
  where
    each : (ps : List (ℤ × Slot)) → AllByRecursion (λ p. p.1.waiting ≡ filter (is_for (hook_serial p.1)) events) ps
        → map shown_slot (values ps) ≡ map (shown_in (seen_outbox slots events)) (hooks_of ps)
    each [] h = refl
    each (p ∷ ps) h =
        ap (λ n. record { row = p.1.row.value; waiting = n } ∷ map shown_slot (values ps))
        (ap length h.0 ∙ sym (length-map (filter (is_for (hook_serial p.1)) events) (λ q. q.1)) ∙ ap length (waiting_is (hook_serial p.1) events))
        ∙ ap (λ l. shown_in (seen_outbox slots events) p.1.row.value ∷ l) (each ps h.1)
