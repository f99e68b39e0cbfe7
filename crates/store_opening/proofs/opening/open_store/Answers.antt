use Rattle.std.proofs.lemmas.Result.{err_from_is_err_and}
use Rattle.store_opening.proofs.Opened.{other_form, read_fault}
use Rattle.store_opening.proofs.opening.open_store.Goals as goal

-- The store wasn't read.
pub returns-in_err-core-clause-answer : goal.returns-in_err-core-clause-answer
returns-in_err-core-clause-answer g c = λ shows.
    let p = err_from_is_err_and c.from_residual.result c.from_residual.ensures.1 in
    rw (p.1, p.2) (read_fault _ _ (c.in_err-core.ensures.answer shows))

-- It is of another form.
pub returns-then-form-ne-FORM_IN_USE-clause-answer : goal.returns-then-form-ne-FORM_IN_USE-clause-answer
returns-then-form-ne-FORM_IN_USE-clause-answer g c = λ shows.
    other_form _ _ _ c.if-form-ne-FORM_IN_USE.true (c.in_ok-core.ensures.answer shows)
