-- Flows that are found, and collections of none.
use Rattle.std.proofs.Common.{◌≡◌, ℕ, zero, suc, length, ◌==◌, Bool, true, false, ◌||◌, cond, List, [], ◌∷◌, Some, None, find, is_some, refl, arith}
use Rattle.std.specs.List.{list_any}
use Rattle.media_rows.specs.declared.flow.FlowRow.{FlowRow}
use Rattle.media_rows.specs.declared.flow.Member.{Member}
use Rattle.media_rows.specs.Catalog.{collection_refusals, flow_of}
use Rattle.media_rows.specs.Collections.{collected_by, is_kept, reached}
use Rattle.media_rows.specs.Refusals.{first_refusal}

-- what is found is there
pub found_any : {X : Type 0} (test : X → Bool) (xs : List X) → is_some (find test xs) ≡ list_any test xs
found_any test [] = refl
found_any test (x ∷ xs) = by (test x) (found_any test xs)
  where
    by : (t : Bool) → is_some (find test xs) ≡ list_any test xs → is_some (cond t (Some x) (find test xs)) ≡ (t || list_any test xs)
    by true rest = refl
    by false rest = rest

pub found_kept : (id : ℕ) (flows : List FlowRow) → is_some (flow_of id flows) ≡ is_kept flows id
found_kept id flows = found_any (λ row. row.body.id == id) flows

-- a flow that collects none misses none, and reaches nothing
none_collected : (flows : List FlowRow) → collected_by flows [] ≡ []
none_collected [] = refl
none_collected (row ∷ flows) = none_collected flows

none_reached : (k : ℕ) (flows : List FlowRow) → reached k flows [] ≡ []
none_reached zero flows = refl
none_reached (suc k) flows = rw (none_reached k flows, none_collected flows) refl

pub none_refused : (flows : List FlowRow) (id : ℕ) (members : List Member) → length members ≡ 0 → None ≡ first_refusal (collection_refusals flows id members)
none_refused flows id [] e = rw (none_reached (length flows) flows) refl
none_refused flows id (m ∷ members) e = absurd (omega (arith, e))
