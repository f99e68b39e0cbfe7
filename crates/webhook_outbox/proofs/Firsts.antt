-- Which event waits first for its hook, from the event of a serial and the first one of its hook.
use Rattle.std.proofs.Common.{◌≡◌, ◌≤◌, inl, inr, ℕ, ℤ, pos, nat_le, Bool, true, false, ◌&&◌, ◌||◌, cond, List, [], ◌∷◌, Option, Some, None, filter, option_map, refl, sym, ap, subst, ◌∙◌, arith}
use Rattle.std.specs.Prelude.{◌==◌}
use Rattle.std.specs.List.{AllByRecursion, list_all, list_any}
use Rattle.std.proofs.lemmas.Bool.{and_from, and_parts, eq-eqb, eqb-true, false≢true, le-leb, leb-true, or_cases, or_left, or_right}
use Rattle.std.proofs.lemmas.Int.{ints}
use Rattle.media_rows.specs.declared.event.EventRow.{EventRow}
use Rattle.media_rows.specs.Outbox.{is_least_waiting, waiting_for, waits_first}
use Rattle.shared_tree.specs.Pairs.{IsRising, first, is_at, value_at, values}
use Rattle.shared_tree.specs.Rows.{IsKeyedBy}
use Rattle.webhook_outbox.specs.Ordered.{IsLeastFor}
use Rattle.webhook_outbox.specs.Within.Slots.{event_key}
use Rattle.webhook_outbox.proofs.Found.{at_is, found_pair, none_at}
use Rattle.webhook_outbox.proofs.Waiting.{Events, none_first, others_than}

-- two tests that follow from one another are one
same_test : (a b : Bool) → (a ≡ true → b ≡ true) → (b ≡ true → a ≡ true) → a ≡ b
same_test true b f g = sym (f refl)
same_test false true f g = absurd (false≢true (g refl))
same_test false false f g = refl

some_same : {V : Type 0} {x y : V} → Some x ≡ Some y → x ≡ y
some_same e = grind arith

-- a test that the value at a key passes is passed by some value
found_any : (test : EventRow → Bool) (key : ℤ) (ps : Events) (v : EventRow) → value_at key ps ≡ Some v → test v ≡ true → list_any test (values ps) ≡ true
found_any test key [] v e h = absurd (grind (arith, e))
found_any test key (p ∷ ps) v e h = by (is_at key p) refl e (λ later. found_any test key ps v later h)
  where
    by : (b : Bool) → is_at key p ≡ b → option_map (λ q. q.1) (first (cond b (p ∷ filter (is_at key) ps) (filter (is_at key) ps))) ≡ Some v
        → (value_at key ps ≡ Some v → list_any test (values ps) ≡ true) → (test p.1 || list_any test (values ps)) ≡ true
    by true at e' rest = or_left (test p.1) (list_any test (values ps)) (ap test (some_same e') ∙ h)
    by false at e' rest = or_right (test p.1) (list_any test (values ps)) (rest e')

-- what holds of all that waits for a hook holds of the value at a key, if it is of that hook
found_waits : (P : EventRow → Type 0) (hook : ℕ) (key : ℤ) (ps : Events) (v : EventRow) → value_at key ps ≡ Some v → v.hook ≡ hook
    → AllByRecursion P (waiting_for hook (values ps)) → P v
found_waits P hook key [] v e of all = absurd (grind (arith, e))
found_waits P hook key (p ∷ ps) v e of all =
    by (is_at key p) refl e (p.1.hook == hook) refl (λ later. found_waits P hook key ps v later of) all
  where
    by : (b : Bool) → is_at key p ≡ b → option_map (λ q. q.1) (first (cond b (p ∷ filter (is_at key) ps) (filter (is_at key) ps))) ≡ Some v
        → (c : Bool) → (p.1.hook == hook) ≡ c → (value_at key ps ≡ Some v → AllByRecursion P (waiting_for hook (values ps)) → P v)
        → AllByRecursion P (cond c (p.1 ∷ waiting_for hook (values ps)) (waiting_for hook (values ps))) → P v
    by true at e' true is later rows = subst P (some_same e') rows.0
    by true at e' false is later rows =
        absurd (false≢true (sym is ∙ eq-eqb p.1.hook hook (ap (λ (r : EventRow). r.hook) (some_same e') ∙ of)))
    by false at e' true is later rows = later e' rows.1
    by false at e' false is later rows = later e' rows

-- the values with a serial are the one at its key
one_of_serial : (event : ℕ) (row : EventRow) (ps : Events) → IsKeyedBy event_key ps → AllByRecursion (λ p. is_at (pos event) p ≡ true → p.1 ≡ row) ps
    → AllByRecursion (λ r. r.serial ≡ event → r ≡ row) (values ps)
one_of_serial event row [] k n = tt
one_of_serial event row (p ∷ ps) k n = (
  (λ same. n.0 (let key : p.0 ≡ pos event = k.0 ∙ ap pos same in rw key (grind (arith, ints)))),
  one_of_serial event row ps k.1 n.1,
)

-- the one that is found to wait first is that one
first_means : (event : ℕ) (all rows : List EventRow) (row : EventRow) → AllByRecursion (λ r. r.serial ≡ event → r ≡ row) rows
    → list_any (λ r. (r.serial == event) && is_least_waiting all r) rows ≡ true → is_least_waiting all row ≡ true
first_means event all [] row one e = absurd (false≢true e)
first_means event all (r ∷ rows) row one e =
    elim (or_cases ((r.serial == event) && is_least_waiting all r) (list_any (λ r. (r.serial == event) && is_least_waiting all r) rows) e) [
      | inl here ↦
          let parts = and_parts (r.serial == event) (is_least_waiting all r) here in
          ap (is_least_waiting all) (sym (one.0 (eqb-true r.serial event parts.0))) ∙ parts.1
      | inr later ↦ first_means event all rows row one.1 later
    ]

all_least : (m n : ℕ) (rows : List EventRow) → m ≡ n → AllByRecursion (λ o. n ≤ o.serial) rows → list_all (λ o. nat_le m o.serial) rows ≡ true
all_least m n [] e h = refl
all_least m n (o ∷ rows) e h =
    and_from (nat_le m o.serial) (list_all (λ o. nat_le m o.serial) rows) (le-leb m o.serial (omega (arith, e, h.0))) (all_least m n rows e h.1)

first_passes : (test : EventRow → Bool) (rows : List EventRow) (f : EventRow) → Some f ≡ first rows → list_all test rows ≡ true → test f ≡ true
first_passes test [] f e h = absurd (grind (arith, e))
first_passes test (r ∷ rows) f e h = ap test (some_same e) ∙ (and_parts (test r) (list_all test rows) h).0

module _ (event : ℕ) (row : EventRow) (events : Events) (rising : IsRising events) (keyed : IsKeyedBy event_key events)
    (found : value_at (pos event) events ≡ Some row) where
  serial_is : row.serial ≡ event
  serial_is = let at = found_pair (λ p. p.0 ≡ event_key p.1) (pos event) events row found keyed in grind (arith, at)

  -- the event waits first where no other of its hook has a lower serial
  by_least : waits_first event (values events) ≡ is_least_waiting (values events) row
  by_least = same_test (waits_first event (values events)) (is_least_waiting (values events) row)
      (first_means event (values events) (values events) row (one_of_serial event row events keyed (at_is (pos event) events row rising found)))
      (λ least. found_any (λ r. (r.serial == event) && is_least_waiting (values events) r) (pos event) events row found
      (and_from (row.serial == event) (is_least_waiting (values events) row) (eq-eqb row.serial event serial_is) least))

  -- so it does where the first of its hook has its serial
  pub first_is : (f : EventRow) → Some f ≡ first (waiting_for row.hook (values events)) → IsLeastFor row.hook (values events) f
      → waits_first event (values events) ≡ (f.serial == event)
  first_is f at least = by_least ∙ same_test (is_least_waiting (values events) row) (f.serial == event)
      (λ is. let low = leb-true row.serial f.serial (first_passes (λ o. nat_le row.serial o.serial) (waiting_for row.hook (values events)) f at is) in
      let high : f.serial ≤ row.serial = found_waits (λ o. f.serial ≤ o.serial) row.hook (pos event) events row found refl least.least in
      eq-eqb f.serial event (omega (arith, low, high, serial_is)))
      (λ is. all_least row.serial f.serial (waiting_for row.hook (values events)) (serial_is ∙ sym (eqb-true f.serial event is)) least.least)

  -- some event waits for its hook
  pub some_first : None ≡ first (waiting_for row.hook (values events)) → ⊥
  some_first none = found_waits (λ o. ⊥) row.hook (pos event) events row found refl (no_rows (waiting_for row.hook (values events)) none)
    where
      no_rows : (rows : List EventRow) → None ≡ first rows → AllByRecursion (λ o. ⊥) rows
      no_rows [] e = tt
      no_rows (r ∷ rows) e = absurd (grind (arith, e))

-- no event of a serial at whose key there is none waits first
pub none_is_first : (event : ℕ) (events : Events) → IsKeyedBy event_key events → None ≡ value_at (pos event) events
    → waits_first event (values events) ≡ false
none_is_first event events keyed e =
    not_true (waits_first event (values events)) (none_first event (values events) (values events) (others_than event events keyed (sym e)))
  where
    not_true : (b : Bool) → (b ≡ true → ⊥) → b ≡ false
    not_true true h = absurd (h refl)
    not_true false h = refl
