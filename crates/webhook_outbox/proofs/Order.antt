-- Rows of rising keys stand by rising serial, and the first of them has the least.
use Rattle.std.proofs.Common.{IfSome, option_copied, Option, None, ◌≡◌, ◌≤◌, ◌<◌, ℕ, ℤ, pos, ◌<ℤ◌, true, ◌==◌, nat_lt, List, [], ◌∷◌, Some, filter, map, refl, sym, ap, subst, ◌∙◌, arith, lt-ltb}
use Rattle.std.specs.Borrow.{Bor}
use Rattle.std.specs.List.{AllByRecursion, list_all}
use Rattle.std.proofs.lemmas.Bool.{and_from, and_parts, eqb-true, ltb-true}
use Rattle.std.proofs.lemmas.Int.{ints}
use Rattle.std.proofs.lemmas.List.{map-id}
use Rattle.media_rows.specs.declared.event.EventRow.{EventRow}
use Rattle.media_rows.specs.Good.{rises_by}
use Rattle.media_rows.specs.Outbox.{waiting_for}
use Rattle.shared_tree.specs.Pairs.{IsRising, first, values}
use Rattle.shared_tree.specs.Rows.{IsKeyedBy}
use Rattle.shared_tree.proofs.Counted.{all_kept, each_passes, rising_kept}
use Rattle.webhook_outbox.specs.declared.outbox.Slot.{Slot}
use Rattle.webhook_outbox.specs.Ordered.{EventsRise, HooksRise, IsLeastFor}
use Rattle.webhook_outbox.specs.Within.Slots.{event_key, hooks_of, is_for, slot_key}
use Rattle.webhook_outbox.proofs.Waiting.{waiting_is}

-- rows that are seen of values, each at the key of its serial
module _ {V R : Type 0} (row_of : V → R) (serial : R → ℕ) where
  abbrev AtSerials : List (ℤ × V) → Type 0
  AtSerials ps = AllByRecursion (λ p. p.0 ≡ pos (serial (row_of p.1))) ps

  below_number : (n : ℕ) (key : ℤ) (p : ℤ × V) → key ≡ pos n → p.0 ≡ pos (serial (row_of p.1)) → key <ℤ p.0 → n < serial (row_of p.1)
  below_number n key p here there lt = omega (arith, ints)

  all_behind : (n : ℕ) (key : ℤ) (ps : List (ℤ × V)) → key ≡ pos n → AllByRecursion (λ q. key <ℤ q.0) ps → AtSerials ps
      → list_all (λ row. nat_lt n (serial row)) (map row_of (values ps)) ≡ true
  all_behind n key [] here above keyed = refl
  all_behind n key (p ∷ ps) here above keyed =
      and_from (nat_lt n (serial (row_of p.1))) (list_all (λ row. nat_lt n (serial row)) (map row_of (values ps)))
      (lt-ltb _ _ (below_number n key p here keyed.0 above.0)) (all_behind n key ps here above.1 keyed.1)

  pub rows_rise : (ps : List (ℤ × V)) → IsRising ps → AtSerials ps → rises_by serial (map row_of (values ps)) ≡ true
  rows_rise [] rising keyed = refl
  rows_rise (p ∷ ps) rising keyed =
      and_from (list_all (λ row. nat_lt (serial (row_of p.1)) (serial row)) (map row_of (values ps))) (rises_by serial (map row_of (values ps)))
      (all_behind (serial (row_of p.1)) p.0 ps keyed.0 rising.0 keyed.1) (rows_rise ps rising.1 keyed.1)

pub hooks_rise : (slots : List (ℤ × Slot)) → IsRising slots → IsKeyedBy slot_key slots → HooksRise (hooks_of slots)
hooks_rise slots rising keyed = rows_rise (λ slot. slot.row.value) (λ row. row.serial) slots rising keyed

pub events_rise : (events : List (ℤ × EventRow)) → IsRising events → IsKeyedBy event_key events → EventsRise (values events)
events_rise events rising keyed =
    subst (λ rows. rises_by (λ row. row.serial) rows ≡ true) (map-id (values events)) (rows_rise (λ row. row) (λ row. row.serial) events rising keyed)

-- the first of rising events has the least serial
none_lower : (n : ℕ) (rows : List EventRow) → list_all (λ row. nat_lt n row.serial) rows ≡ true → AllByRecursion (λ row. n ≤ row.serial) rows
none_lower n [] h = tt
none_lower n (row ∷ rows) h =
    let parts = and_parts (nat_lt n row.serial) (list_all (λ other. nat_lt n other.serial) rows) h in
    let lower : n < row.serial = ltb-true n row.serial parts.0 in
    (omega (arith, lower), none_lower n rows parts.1)

some_is : (row other : EventRow) → Some row ≡ Some other → row ≡ other
some_is row other e = grind arith

least_first : (rows : List EventRow) (row : EventRow) → EventsRise rows → Some row ≡ first rows → AllByRecursion (λ other. row.serial ≤ other.serial) rows
least_first [] row rise e = absurd (grind (arith, e))
least_first (next ∷ rows) row rise e =
    let parts = and_parts (list_all (λ other. nat_lt next.serial other.serial) rows) (rises_by (λ other. other.serial) rows) rise in
    subst (λ (r : EventRow). AllByRecursion (λ other. r.serial ≤ other.serial) (next ∷ rows)) (sym (some_is row next e))
    (omega arith, none_lower next.serial rows parts.0)

-- what waits for a hook is of that hook
first_waits : (hook : ℕ) (rows : List EventRow) → AllByRecursion (λ row. row.hook ≡ hook) (waiting_for hook rows)
first_waits hook rows = each (waiting_for hook rows) (passes rows)
  where
    each : (xs : List EventRow) → AllByRecursion (λ row. (row.hook == hook) ≡ true) xs → AllByRecursion (λ row. row.hook ≡ hook) xs
    each [] h = tt
    each (x ∷ xs) h = (eqb-true x.hook hook h.0, each xs h.1)

    passes : (xs : List EventRow) → AllByRecursion (λ row. (row.hook == hook) ≡ true) (waiting_for hook xs)
    passes xs = each_passes (λ row. row.hook == hook) xs

first_of_all : (hook : ℕ) (rows : List EventRow) (row : EventRow) → AllByRecursion (λ r. r.hook ≡ hook) rows → Some row ≡ first rows → row.hook ≡ hook
first_of_all hook [] row h e = absurd (grind (arith, e))
first_of_all hook (next ∷ rows) row h e = ap (λ (r : EventRow). r.hook) (some_is row next e) ∙ h.0

-- the first event that waits for a hook has the least serial of those that do
least_waits : (hook : ℕ) (events : List (ℤ × EventRow)) (row : EventRow) → IsRising events → IsKeyedBy event_key events
    → Some row ≡ first (waiting_for hook (values events)) → IsLeastFor hook (values events) row
least_waits hook events row rising keyed e =
    let kept = events_rise (filter (is_for hook) events) (rising_kept (is_for hook) events rising)
    (all_kept (λ p. p.0 ≡ event_key p.1) (is_for hook) events keyed) in
    let rise : EventsRise (waiting_for hook (values events)) = subst EventsRise (waiting_is hook events) kept in
    record {
      waits = first_of_all hook (waiting_for hook (values events)) row (first_waits hook (values events)) e;
      least = least_first (waiting_for hook (values events)) row rise e;
    }

pub least_found : (hook : ℕ) (events : List (ℤ × EventRow)) (found : Option (Bor EventRow)) → IsRising events → IsKeyedBy event_key events
    → option_copied found ≡ first (waiting_for hook (values events)) → IfSome found (λ row. IsLeastFor hook (values events) row.now)
least_found hook events None rising keyed e = tt
least_found hook events (Some row) rising keyed e = least_waits hook events row.now rising keyed e
