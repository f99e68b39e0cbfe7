use Rattle.std.proofs.Common.{arith}
use Rattle.std.proofs.lemmas.Result.{err_from_is_err_and}
use Rattle.store_opening.proofs.Applying.{fold_more, fold_refused}
use Rattle.store_opening.proofs.records.fold.Goals as goal

-- The record makes nothing of the library that those before it make.
pub returns-in_err-library-clause-refused : goal.returns-in_err-library-clause-refused
returns-in_err-library-clause-refused c =
    let p = err_from_is_err_and c.from_residual.result c.from_residual.ensures.1 in
    rw (p.1, p.2)
    (fold_refused c.args.form c.args.records.now c.loop-entry.entry-index c.entry-item.result c.args.first.library c.loop-entry.library.library c.in_err-library.field-0.0 (omega arith)
    c.entry-item.is c.loop-entry.invariant c.in_err-library.ensures.refused c.in_err-library.ensures.place)

-- One turn takes one record.
pub loop-entry-preserved : goal.loop-entry-preserved
loop-entry-preserved c =
    fold_more c.args.form c.args.records.now c.loop-entry.entry-index c.entry-item.result c.args.first.library c.loop-entry.library.library _ (omega arith) c.entry-item.is
    c.loop-entry.invariant c.in_ok-library.ensures.next
