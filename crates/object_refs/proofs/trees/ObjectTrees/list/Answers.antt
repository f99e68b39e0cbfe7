use Rattle.object_refs.proofs.Sweeping.{rows_least}
use Rattle.object_refs.proofs.trees.ObjectTrees.list.Goals as goal

-- each key is a serial
pub all_values-requires : goal.all_values-requires
all_values-requires c = record { least = rows_least c.self.inside.rows c.self.invariant.keyed }
