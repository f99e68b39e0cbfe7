use Rattle.std.proofs.Common.{◌≡◌, ℕ, drop}
use Rattle.id_index.specs.Index.{ids_at}
use Rattle.id_index.specs.Within.Steps.{linked}
use Rattle.id_index.proofs.index.all_linked.Given as goal

abbrev pub invariant-loop-one : goal.invariant-loop-one
invariant-loop-one l = (a : ℕ) → linked a l.id (drop l.one-index l.to) (ids_at a l.next) ≡ linked a l.id l.to (ids_at a l.linked)
