use Rattle.std.proofs.Common.{subst}
use Rattle.flow_book.specs.Within.Peeling.{IsPeeled}
use Rattle.flow_book.proofs.peeling.all_peeled.Goals as goal

-- one that waited was looked at
pub loop-id-preserved : goal.loop-id-preserved
loop-id-preserved c =
    c.in_ok-left.ensures.kept c.args.rows.now
    (subst (IsPeeled c.args.rows.now c.loop-id.left.flows c.loop-id.left.collectors) c.in-Some.ensures.items c.loop-id.invariant)
