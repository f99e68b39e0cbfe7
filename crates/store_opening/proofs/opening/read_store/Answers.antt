use Rattle.std.proofs.lemmas.Result.{err_from_is_err_and}
use Rattle.store_opening.proofs.Opened.{journal_fault, part_fault}
use Rattle.store_opening.proofs.opening.read_store.Goals as goal

-- The journal wasn't opened.
pub returns-in_err-opened-clause-answer : goal.returns-in_err-opened-clause-answer
returns-in_err-opened-clause-answer g c = λ shows.
    let p = err_from_is_err_and c.from_residual.result c.from_residual.ensures.1 in
    rw (p.1, p.2) (journal_fault _ _ (c.in_err-opened.ensures.answer shows))

-- What was opened makes no store.
pub returns-in_err-store_of-clause-answer : goal.returns-in_err-store_of-clause-answer
returns-in_err-store_of-clause-answer g c = λ shows.
    let p = err_from_is_err_and c.from_residual-in_err-store_of.result c.from_residual-in_err-store_of.ensures.1 in
    let is = c.in_ok-opened.ensures.answer shows in
    rw (p.1, p.2) (part_fault _ c.in_ok-opened.opened c.in_err-store_of.field-0.0 is (c.in_err-store_of.ensures.answer _ is))
