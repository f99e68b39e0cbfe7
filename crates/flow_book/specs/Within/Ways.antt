-- Ways through collections, followed back from a flow to those that collect it.
use Rattle.std.specs.Prelude.{◌≡◌, ℕ, ℤ, ◌==◌, ◌&&◌, ◌||◌, List, [], ◌∷◌, ◌++◌, Bool, true, is_some, is_none, if◌then◌else◌}
use Rattle.media_rows.specs.declared.flow.FlowRow.{FlowRow}
use Rattle.media_rows.specs.Collections.{Collects, Reaches}
use Rattle.media_rows.specs.Lists.{has_number}
use Rattle.media_rows.specs.Views.{id_key}
use Rattle.shared_tree.specs.Pairs.{value_at, values, without_key}

-- a flow is this one, or kept and not apart from it
abbrev pub leads : List (ℤ × FlowRow) → List (ℤ × FlowRow) → ℕ → ℕ → Bool
leads flows apart to from =
    (from == to)
    || (is_some (value_at (id_key from) flows) && is_none (value_at (id_key from) apart))

-- From each flow that isn't apart a way leads to this one. What collects one that isn't apart isn't
-- apart either, unless that one still waits.
pub record AreFollowed (flows apart : List (ℤ × FlowRow)) (to : ℕ) (waiting : List ℕ) : Type 0 where
  pub sound : (from : ℕ) → leads flows apart to from ≡ true → Reaches (values flows) to from
  pub waits : (from : ℕ) → has_number from waiting ≡ true → leads flows apart to from ≡ true
  pub closed : (from next : ℕ) → Collects (values flows) from next
      → leads flows apart to next ≡ true
      → (leads flows apart to from || has_number next waiting) ≡ true

-- the flows without these, and the ids that wait with those that were among the flows
abbrev pub moved_to_waiting : List ℕ → List (ℤ × FlowRow) → List ℕ → List (ℤ × FlowRow) × List ℕ
moved_to_waiting [] apart waiting = (apart, waiting)
moved_to_waiting (id ∷ ids) apart waiting =
    if is_some (value_at (id_key id) apart)
    then moved_to_waiting ids (without_key (id_key id) apart)
    (waiting ++ id ∷ []) else moved_to_waiting ids apart waiting
