use Rattle.change_codec.proofs.Loops.{Written}
use Rattle.change_codec.proofs.lists.write_items.Given as goal

abbrev pub invariant-loop-item : goal.invariant-loop-item
invariant-loop-item g l = Written g.T.Field.spelling l.fn.out l.list l.item-index l.out
