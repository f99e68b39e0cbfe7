-- The flows that refer to one object, as counts by flow.
use Rattle.std.specs.Prelude.{◌≡◌, ℕ, zero, suc, ℤ, ◌≤◌, List, [], ◌∷◌, ◌++◌, Option, Some, None, length, replicate}
use Rattle.std.specs.List.{AllByRecursion}
use Rattle.media_rows.specs.Views.{id_key}
use Rattle.shared_tree.specs.Pairs.{with_pair, without_key}
use Rattle.shared_tree.specs.Rows.{IsKeyedBy}
use Rattle.object_refs.specs.declared.flows.FlowCount.{FlowCount}

-- the key of a count: its flow's id less 2^127
abbrev pub count_key : FlowCount → ℤ
count_key kept = id_key kept.flow

-- the flows that counts stand for, rising, each so many times
abbrev pub flows_counted : List (ℤ × FlowCount) → List ℕ
flows_counted [] = []
flows_counted (p ∷ ps) = replicate p.1.count p.1.flow ++ flows_counted ps

-- counts stand at the keys of their flows, none is 0, and their sum is right
pub record AreCounts (counts : List (ℤ × FlowCount)) (number : ℕ) : Type 0 where
  pub keyed : IsKeyedBy count_key counts
  pub filled : AllByRecursion (λ p. 1 ≤ p.1.count) counts
  pub total : number ≡ length (flows_counted counts)

-- how often a flow refers, of which this is the count
abbrev pub times_of : Option FlowCount → ℕ
times_of None = 0
times_of (Some kept) = kept.count

-- this count of a flow
abbrev pub flow_count : ℕ → ℕ → FlowCount
flow_count flow count = record { flow = flow; count = count }

-- the counts with another one of a flow, where 0 is none
abbrev pub recounted : ℕ → ℕ → List (ℤ × FlowCount) → List (ℤ × FlowCount)
recounted flow zero counts = without_key (id_key flow) counts
recounted flow (suc n) counts = with_pair (id_key flow, flow_count flow (suc n)) counts
