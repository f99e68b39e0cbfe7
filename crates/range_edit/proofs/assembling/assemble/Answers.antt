use Rattle.std.proofs.Common.{◌∙◌, sym}
use Rattle.range_edit.proofs.CutLemmas.{is_cut, is_kept, too_many}
use Rattle.range_edit.proofs.assembling.assemble.Goals as goal

-- There are too many pieces.
pub returns-then-cutting-clause-fault : goal.returns-then-cutting-clause-fault
returns-then-cutting-clause-fault c =
    too_many c.args.core.now.library c.args.target c.args.list.now c.in_ok-cutting.cutting
    (is_kept c.args.core.now.library c.args.target c.in-Some.kept (sym c.in_ok-kept.ensures
    ∙ c.in-Some.is))
    (rw c.items.ensures at c.in_ok-cutting.ensures.cut) c.if-cutting.true

-- All are cut.
pub returns-clause-cut : goal.returns-clause-cut
returns-clause-cut c =
    is_cut c.args.core.now.library c.args.target c.args.list.now c.in_ok-cutting.cutting
    (is_kept c.args.core.now.library c.args.target c.in-Some.kept (sym c.in_ok-kept.ensures
    ∙ c.in-Some.is))
    (rw c.items.ensures at c.in_ok-cutting.ensures.cut) c.if-cutting.false
