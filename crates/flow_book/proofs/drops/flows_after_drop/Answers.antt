use Rattle.std.proofs.Common.{sym, subst}
use Rattle.media_rows.specs.Views.{flow_key, id_key}
use Rattle.shared_tree.specs.Rows.{IsKeyedBy}
use Rattle.shared_tree.proofs.Rows.{keyed_without}
use Rattle.flow_book.proofs.drops.flows_after_drop.Goals as goal

-- the flows that are left stand at the keys of their ids
pub entries_left_out-requires-clause-keyed : goal.entries_left_out-requires-clause-keyed
entries_left_out-requires-clause-keyed c =
    subst (IsKeyedBy flow_key) (sym c.in_ok-left.ensures) (keyed_without flow_key (id_key c.args.id) c.args.flows.now c.requires.keyed)
