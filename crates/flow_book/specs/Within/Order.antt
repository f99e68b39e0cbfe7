-- Rows of a catalog below a book, the indexes that stand beside them, and steps of a drop.
use Rattle.std.specs.Prelude.{◌≡◌, ℕ, ℤ, ◌==◌, List, [], ◌∷◌, Bool, true, Option, Some, None, if◌then◌else◌, map}
use Rattle.std.specs.List.{AllByRecursion, list_any}
use Rattle.media_rows.specs.declared.flow.FlowBody.{FlowBody}
use Rattle.media_rows.specs.declared.flow.FlowRow.{FlowRow}
use Rattle.media_rows.specs.declared.flow.Member.{Member}
use Rattle.media_rows.specs.declared.part.Part.{Part}
use Rattle.media_rows.specs.declared.part.Part.TheVariants as parts
use Rattle.media_rows.specs.declared.source.SourceRow.{SourceRow}
use Rattle.media_rows.specs.Collections.{member_ids, without_entries}
use Rattle.media_rows.specs.Lists.{are_distinct}
use Rattle.media_rows.specs.Views.{flow_key, id_key, source_key}
use Rattle.shared_tree.specs.Pairs.{with_pair}
use Rattle.shared_tree.specs.Rows.{IsKeyedBy}
use Rattle.id_index.specs.Index.{IsIndexOf, Links, has_pairs, ids_at}

-- ---- what a flow names

-- a flow's own id, the source that it names, and the flows that it collects
abbrev pub flow_id : FlowRow → ℕ
flow_id row = row.body.id

abbrev pub source_named : FlowRow → List ℕ
source_named row = row.body.source ∷ []

abbrev pub flows_named : FlowRow → List ℕ
flows_named row = member_ids row.body.members

-- an index has the flows of each source; another has the flows that collect each flow
abbrev pub IsBySource : List (ℤ × FlowRow) → List (ℤ × List (ℤ × ℕ)) → Type 0
IsBySource flows index = IsIndexOf flow_id source_named flows index

abbrev pub IsByCollected : List (ℤ × FlowRow) → List (ℤ × List (ℤ × ℕ)) → Type 0
IsByCollected flows index = IsIndexOf flow_id flows_named flows index

-- each source has a flow by the index
abbrev pub AreUsed : List (ℤ × List (ℤ × ℕ)) → List (ℤ × SourceRow) → Type 0
AreUsed by_source sources =
    AllByRecursion (λ p. has_pairs (ids_at p.1.id by_source) ≡ true) sources

-- sources and flows stand at the keys of their ids, both indexes are theirs, and each source has a
-- flow
pub record IsKeptInOrder (sources : List (ℤ × SourceRow)) (flows : List (ℤ × FlowRow))
    (by_source collectors : List (ℤ × List (ℤ × ℕ))) : Type 0 where
  pub sources_keyed : IsKeyedBy source_key sources
  pub flows_keyed : IsKeyedBy flow_key flows
  pub sources_indexed : IsBySource flows by_source
  pub collectors_indexed : IsByCollected flows collectors
  pub used : AreUsed by_source sources

-- ---- a flow that is put or set

-- a source put where none is kept
abbrev pub source_put : Option SourceRow → SourceRow → List (ℤ × SourceRow) → List (ℤ × SourceRow)
source_put None new sources = with_pair (id_key new.id, new) sources
source_put (Some kept) new sources = sources

-- a new flow stands at its source, and a kept one stays there
abbrev pub SourceLinked : Option FlowRow → FlowBody → List (ℤ × List (ℤ × ℕ))
    → List (ℤ × List (ℤ × ℕ)) → Type 0
SourceLinked None body old new = Links (body.source ∷ []) body.id old new
SourceLinked (Some kept) body old new = new ≡ old

-- the collection that a part sets
abbrev pub collection_of : Part → Option (List Member)
collection_of (parts.Tag name new) = None
collection_of (parts.Label new) = None
collection_of (parts.Description new) = None
collection_of (parts.ReadOnly new) = None
collection_of (parts.Collection new) = Some new
collection_of (parts.MaxBitRate new) = None
collection_of (parts.AvgBitRate new) = None

-- ---- a flow that goes

-- one of these entries is of a flow
abbrev pub collects : ℕ → List Member → Bool
collects id members = list_any (λ m. m.flow == id) members

-- the flows once those of some rows that have entries of a flow were replaced
abbrev pub cleared : ℕ → List FlowRow → List (ℤ × FlowRow) → List (ℤ × FlowRow)
cleared id [] flows = flows
cleared id (row ∷ rows) flows =
    cleared id rows
    (if collects id row.body.members
    then with_pair (id_key row.body.id, without_entries id row) flows else flows)

-- the flows without the entries of one
abbrev pub all_cleared : ℕ → List (ℤ × FlowRow) → List (ℤ × FlowRow)
all_cleared id flows = map (λ p. (p.0, without_entries id p.1)) flows

-- ---- rows that are gathered

-- rows at the keys of their ids, of which the last was put first
abbrev pub gathered : {V : Type 0} → (V → ℕ) → List V → List (ℤ × V)
gathered id_of [] = []
gathered id_of (row ∷ rows) = with_pair (id_key (id_of row), row) (gathered id_of rows)

-- flows with distinct ids were gathered, and their indexes with them
pub record AreGathered (rows : List FlowRow) (flows : List (ℤ × FlowRow))
    (by_source collectors : List (ℤ × List (ℤ × ℕ))) : Type 0 where
  pub distinct : are_distinct (map flow_id rows) ≡ true
  pub placed : flows ≡ gathered flow_id rows
  pub sources_indexed : IsBySource flows by_source
  pub collectors_indexed : IsByCollected flows collectors
