-- The hook of the next serial: the first whose key is above that of a serial.
use Rattle.std.proofs.Common.{◌≡◌, ◌<◌, ◌≤◌, ℕ, ℤ, pos, Bool, true, false, cond, List, [], ◌∷◌, Option, Some, None, filter, nat_lt, int_lt, option_map, refl, sym, ap, subst, ◌∙◌, arith, lt-ltb}
use Rattle.std.specs.List.{AllByRecursion, list_all}
use Rattle.std.proofs.lemmas.Bool.{and_parts, false≢true, ltb-true}
use Rattle.media_rows.specs.declared.hook.HookRow.{HookRow}
use Rattle.media_rows.specs.Good.{rises_by}
use Rattle.shared_tree.specs.Pairs.{first, is_above}
use Rattle.shared_tree.specs.Rows.{IsKeyedBy}
use Rattle.webhook_outbox.specs.declared.outbox.Slot.{Slot}
use Rattle.webhook_outbox.specs.Ordered.{HooksRise, IsNextHook, next_hook}
use Rattle.webhook_outbox.specs.Within.Slots.{hook_serial, hooks_of, slot_key}

-- ---- the first of them

abbrev row_in : ℤ × Slot → HookRow
row_in p = p.1.row.value

next_is : (after : ℕ) (ps : List (ℤ × Slot)) → IsKeyedBy slot_key ps → option_map row_in (first (filter (is_above (pos after)) ps)) ≡ next_hook after (hooks_of ps)
next_is after [] keyed = refl
next_is after (p ∷ ps) keyed =
    by (filter (is_above (pos after)) ps) (filter (λ row. nat_lt after row.serial) (hooks_of ps)) (is_above (pos after) p)
    (nat_lt after (hook_serial p.1)) (ap (int_lt (pos after)) keyed.0) (next_is after ps keyed.1)
  where
    by : (later : List (ℤ × Slot)) (rows : List HookRow) (a b : Bool) → a ≡ b → option_map row_in (first later) ≡ first rows
        → option_map row_in (first (cond a (p ∷ later) later)) ≡ first (cond b (row_in p ∷ rows) rows)
    by later rows true true same rest = refl
    by later rows true false same rest = absurd (false≢true (sym same))
    by later rows false true same rest = absurd (false≢true same)
    by later rows false false same rest = rest

-- what is found at the pairs is found at the rows
pub next_found : (after : ℕ) (ps : List (ℤ × Slot)) (found : Option Slot) → IsKeyedBy slot_key ps
    → found ≡ option_map (λ p. p.1) (first (filter (is_above (pos after)) ps)) → option_map (λ slot. slot.row.value) found ≡ next_hook after (hooks_of ps)
next_found after ps found keyed is = ap (option_map (λ slot. slot.row.value)) is ∙ twice (first (filter (is_above (pos after)) ps)) ∙ next_is after ps keyed
  where
    twice : (o : Option (ℤ × Slot)) → option_map (λ (slot : Slot). slot.row.value) (option_map (λ p. p.1) o) ≡ option_map row_in o
    twice None = refl
    twice (Some p) = refl

-- ---- the least

none_lower : (n : ℕ) (rows : List HookRow) → list_all (λ row. nat_lt n row.serial) rows ≡ true → AllByRecursion (λ row. n ≤ row.serial) rows
none_lower n [] h = tt
none_lower n (row ∷ rows) h =
    let parts = and_parts (nat_lt n row.serial) (list_all (λ other. nat_lt n other.serial) rows) h in
    let lower : n < row.serial = ltb-true n row.serial parts.0 in
    (omega (arith, lower), none_lower n rows parts.1)

whatever : (after n : ℕ) (rows : List HookRow) → AllByRecursion (λ row. n ≤ row.serial) rows → AllByRecursion (λ row. after < row.serial → n ≤ row.serial) rows
whatever after n [] all = tt
whatever after n (row ∷ rows) all = ((λ above. all.0), whatever after n rows all.1)

-- the first hook above a serial has the least serial of those
pub next_least : (after : ℕ) (hooks : List HookRow) (row : HookRow) → HooksRise hooks → Some row ≡ next_hook after hooks → IsNextHook after hooks row
next_least after [] row rise is = absurd (grind (arith, is))
next_least after (hook ∷ hooks) row rise is = by (filter (λ other. nat_lt after other.serial) hooks) (nat_lt after hook.serial) refl is (λ found. next_least after hooks row parts.1 found)
  where
    parts : (list_all (λ other. nat_lt hook.serial other.serial) hooks ≡ true) × (rises_by (λ other. other.serial) hooks ≡ true)
    parts = and_parts (list_all (λ other. nat_lt hook.serial other.serial) hooks) (rises_by (λ other. other.serial) hooks) rise

    by : (rows : List HookRow) (b : Bool) → nat_lt after hook.serial ≡ b → Some row ≡ first (cond b (hook ∷ rows) rows)
        → (Some row ≡ first rows → IsNextHook after hooks row) → IsNextHook after (hook ∷ hooks) row
    by rows true above found later =
        let same : row ≡ hook = grind (arith, found) in
        subst (IsNextHook after (hook ∷ hooks)) (sym same)
        (record { above = ltb-true after hook.serial above; least = ((λ is_above. omega arith), whatever after hook.serial hooks (none_lower hook.serial hooks parts.0)) })
    by rows false below found later =
        let rest = later found in
        record { above = rest.above; least = ((λ above. absurd (false≢true (sym below ∙ lt-ltb after hook.serial above))), rest.least) }
