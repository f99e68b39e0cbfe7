-- Flows that collect flows: which is missing, and which reaches itself. Our own rules.
use Rattle.std.specs.Prelude.{◌≡◌, ℕ, zero, suc, ◌==◌, List, [], ◌++◌, Bool, not, ◌||◌, Contains, Option, if◌then◌else◌, filter, map, find, flat_map, length}
use Rattle.std.specs.List.{list_any}
use Rattle.media_rows.specs.declared.flow.Member.{Member}
use Rattle.media_rows.specs.declared.flow.FlowRow.{FlowRow}
use Rattle.media_rows.specs.Lists.{has_number}

-- the flows that these entries collect, in the order of the entries
abbrev pub member_ids : List Member → List ℕ
member_ids members = map (λ m. m.flow) members

-- a flow of this id is kept
abbrev pub is_kept : List FlowRow → ℕ → Bool
is_kept flows id = list_any (λ row. row.body.id == id) flows

-- the first collected flow that is neither kept nor the flow itself
abbrev pub first_missing : List FlowRow → ℕ → List Member → Option ℕ
first_missing flows id members =
    find (λ to. not ((to == id) || is_kept flows to)) (member_ids members)

-- the flows that one row collects, where it is among these
abbrev pub collected_by_row : List ℕ → FlowRow → List ℕ
collected_by_row ids row = if has_number row.body.id ids then member_ids row.body.members else []

-- the flows that these collect
abbrev pub collected_by : List FlowRow → List ℕ → List ℕ
collected_by flows ids = flat_map (collected_by_row ids) flows

-- these flows, and those that they collect
abbrev pub one_step : List FlowRow → List ℕ → List ℕ
one_step flows ids = ids ++ collected_by flows ids

-- these flows, and all that are reached from them in so many steps
abbrev pub reached : ℕ → List FlowRow → List ℕ → List ℕ
reached zero flows ids = ids
reached (suc steps) flows ids = one_step flows (reached steps flows ids)

-- Whether a flow with these entries reaches itself through collections. As many steps as there are
-- flows are enough, which a law shows.
abbrev pub collects_itself : List FlowRow → ℕ → List Member → Bool
collects_itself flows id members = has_number id (reached (length flows) flows (member_ids members))

-- a row collects a flow: it is among the rows, and has an entry of that flow
pub record Collects (flows : List FlowRow) (from to : ℕ) : Type 0 where
  pub row : FlowRow
  pub kept : Contains flows row
  pub row_is : row.body.id ≡ from
  pub entry : Contains (member_ids row.body.members) to

-- a way through collections leads from one flow to another, or they are the same
pub data Reaches (flows : List FlowRow) (to : ℕ) : ℕ → Type 0 where
  there : (from : ℕ) → from ≡ to → Reaches flows to from
  through : (from next : ℕ) → Collects flows from next → Reaches flows to next
      → Reaches flows to from

-- a way leads from one of these entries to a flow
pub record AnyReaches (flows : List FlowRow) (members : List Member) (to : ℕ) : Type 0 where
  pub first : ℕ
  pub entry : Contains (member_ids members) first
  pub way : Reaches flows to first

-- a row without its entries of a flow
abbrev pub without_entries : ℕ → FlowRow → FlowRow
without_entries id row =
    let left = filter (λ m. not (m.flow == id)) row.body.members in
    record row { body = record row.body { members = left } }
