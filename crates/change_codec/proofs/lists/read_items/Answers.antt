use Rattle.field_codec.specs.Spelling.{items_at}
use Rattle.change_codec.proofs.Loops.{goes_on}
use Rattle.change_codec.proofs.lists.read_items.Goals as goal

pub loop-preserved : goal.loop-preserved
loop-preserved g c =
    let f = g.T.Field.spelling in
    rw c.in_ok-push.ensures.ok
    (goes_on f c.loop.list c.args.count c.loop.counter c.loop.input c.in_ok-read_from.field-0 c.read_from.new.input
    (items_at f.read c.args.count c.args.input.now)
    c.loop-test.true c.in_ok-read_from.ensures c.loop.invariant)
