use Rattle.std.proofs.Common.{◌≡◌, ℕ, drop}
use Rattle.id_index.specs.Index.{ids_at}
use Rattle.id_index.specs.Within.Steps.{unlinked}
use Rattle.id_index.proofs.index.all_unlinked.Given as goal

abbrev pub invariant-loop-one : goal.invariant-loop-one
invariant-loop-one l = (a : ℕ) → unlinked a l.id (drop l.one-index l.to) (ids_at a l.next) ≡ unlinked a l.id l.to (ids_at a l.linked)
