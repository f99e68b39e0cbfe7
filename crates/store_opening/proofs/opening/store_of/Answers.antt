use Rattle.std.proofs.lemmas.Result.{err_from_is_err_and}
use Rattle.media_journal.specs.Opening.{header_of}
use Rattle.store_opening.proofs.Opened.{is_kept, records_fault, rows_fault, torn_record, untorn}
use Rattle.store_opening.proofs.opening.store_of.Goals as goal

-- The rows make no library.
pub returns-in_err-first-clause-answer : goal.returns-in_err-first-clause-answer
returns-in_err-first-clause-answer c = λ image is.
    let p = err_from_is_err_and c.from_residual.result c.from_residual.ensures.1 in
    rw (p.1, p.2) (rows_fault image c.in_err-first.field-0.0 (c.in_err-first.ensures.damaged image is))

-- A record makes nothing of the library before it.
pub returns-in_err-core-clause-answer : goal.returns-in_err-core-clause-answer
returns-in_err-core-clause-answer c = λ image is.
    let p = err_from_is_err_and c.from_residual-in_err-core.result c.from_residual-in_err-core.ensures.1 in
    rw (p.1, p.2)
    (records_fault image c.args.opened c.in_ok-first.first.library c.in_err-core.field-0.0 is c.in_ok-first.ensures.ok
    (rw c.items.ensures at c.in_err-core.ensures.refused))

-- A record is torn, and all before it apply.
pub returns-in-Some-clause-answer : goal.returns-in-Some-clause-answer
returns-in-Some-clause-answer c = λ image is.
    torn_record image c.args.opened c.in_ok-first.first.library c.in_ok-core.core.library c.in-Some.at c.in-Some.is is c.in_ok-first.ensures.ok
    (rw c.items.ensures at c.in_ok-core.ensures.folded)

-- The library of rows and records has the media blocks of its header's file.
pub returns-clause-blocks : goal.returns-clause-blocks
returns-clause-blocks c =
    let good = c.states_are_good.ensures.library c.args.opened.form (header_of c.args.opened) c.args.opened.rows c.args.opened.found c.in_ok-core.core.library
    (record { first = c.in_ok-first.first.library; snapshot = c.in_ok-first.ensures.ok; folds = rw c.items.ensures at c.in_ok-core.ensures.folded }) in
    rw (c.requires.blocks, c.requires.half) good.1.blocks

-- All records apply, and none is torn.
pub returns-clause-answer : goal.returns-clause-answer
returns-clause-answer c = λ image is.
    is_kept image c.args.opened c.in_ok-first.first.library c.in_ok-core.core.library (untorn c.args.opened.torn c.in_default.not-Some) is
    c.in_ok-first.ensures.ok (rw c.items.ensures at c.in_ok-core.ensures.folded)
