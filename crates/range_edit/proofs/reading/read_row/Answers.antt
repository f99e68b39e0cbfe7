use Rattle.std.proofs.Common.{inr, refl, rules}
use Rattle.range_edit.proofs.Times.{lacks_times}
use Rattle.range_edit.proofs.reading.read_row.Goals as goal

-- the record names a flow, and its times aren't spelled
pub returns-in-None-clause-fault : goal.returns-in-None-clause-fault
returns-in-None-clause-fault c =
    let fields = c.in_ok-fields.fields in
    inr (
      refl,
      lacks_times _ fields.first.now fields.second.now fields.third.now c.in_ok-flow.flow
          (search rules) (search rules) (c.in-None.ensures.none refl),
    )
