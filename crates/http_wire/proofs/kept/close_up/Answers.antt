use Rattle.std.proofs.Common.{◌∙◌, arith}
use Rattle.http_wire.proofs.Moves.{both_moved}
use Rattle.http_wire.proofs.kept.close_up.Goals as goal

pub returns-clause-items : goal.returns-clause-items
returns-clause-items c =
    c.truncate.ensures.items
    ∙ both_moved c.args.bytes.now.items _ _ c.args.start c.args.taken c.args.read c.len-end.result c.requires.order (omega arith) (omega arith)
    c.copy_within.ensures.items c.copy_within-2.ensures.items
