use Rattle.std.proofs.Common.{◌≡◌, ◌-◌}
use Rattle.field_codec.specs.Spelling.{items_at}
use Rattle.change_codec.proofs.Loops.{with_front}
use Rattle.change_codec.proofs.lists.read_items.Given as goal

abbrev pub invariant-loop : goal.invariant-loop
invariant-loop g l = with_front l.list (items_at g.T.Field.spelling.read (l.count - l.counter) l.input) ≡ items_at g.T.Field.spelling.read l.count l.fn.input
