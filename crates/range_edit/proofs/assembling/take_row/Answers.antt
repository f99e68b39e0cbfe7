use Rattle.std.proofs.lemmas.Result.{IfErr-weaker}
use Rattle.range_edit.proofs.CutLemmas.{far_refuses}
use Rattle.range_edit.proofs.assembling.take_row.Goals as goal

-- A piece would go too far.
pub returns-in-Ok-clause-fault : goal.returns-in-Ok-clause-fault
returns-in-Ok-clause-fault c =
    IfErr-weaker c.far_fault.result _ _ (λ fault why before has near.
    far_refuses _ before c.args.pieces.now c.take_all.new.pieces c.args.number fault has near
    c.in-Ok.ensures.taken why.0 why.1) c.far_fault.ensures.far
