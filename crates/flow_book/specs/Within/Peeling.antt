-- Flows that none collects, left out one after the other.
use Rattle.std.specs.Prelude.{◌≡◌, ℕ, ℤ, ◌+◌, ◌||◌, List, [], ◌∷◌, true, Contains, is_some, length}
use Rattle.media_rows.specs.declared.flow.FlowRow.{FlowRow}
use Rattle.media_rows.specs.Collections.{Collects, Reaches}
use Rattle.media_rows.specs.Lists.{has_number}
use Rattle.media_rows.specs.Views.{flow_key, id_key}
use Rattle.shared_tree.specs.Pairs.{value_at, values}
use Rattle.shared_tree.specs.Rows.{IsKeyedBy}
use Rattle.id_index.specs.Index.{has_pairs, ids_at}
use Rattle.flow_book.specs.Within.Order.{IsByCollected}

-- a way through collections leads from a flow back to it
pub record IsInCircle (flows : List FlowRow) (id : ℕ) : Type 0 where
  pub next : ℕ
  pub first : Collects flows id next
  pub way : Reaches flows id next

-- Of these rows some are left, with an index of who collects whom among them. No circle went with
-- the others, and each that none of those left collects waits.
pub record IsPeeled (rows : List FlowRow) (left : List (ℤ × FlowRow))
    (collectors : List (ℤ × List (ℤ × ℕ))) (waiting : List ℕ) : Type 0 where
  pub keyed : IsKeyedBy flow_key left
  pub indexed : IsByCollected left collectors
  pub among : (row : FlowRow) → Contains (values left) row → Contains rows row
  pub circles : (id : ℕ) → IsInCircle rows id → IsInCircle (values left) id
  pub waits : (id : ℕ) → is_some (value_at (id_key id) left) ≡ true
      → (has_pairs (ids_at id collectors) || has_number id waiting) ≡ true

-- how many flows and entries there are
abbrev pub weight : List (ℤ × FlowRow) → ℕ
weight [] = 0
weight (p ∷ ps) = length p.1.body.members + 1 + weight ps
