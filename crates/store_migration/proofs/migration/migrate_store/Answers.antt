use Rattle.std.proofs.Common.{◌∙◌, true}
use Rattle.std.specs.Prelude.{is_ok}
use Rattle.std.proofs.lemmas.Result.{err_from_is_err_and}
use Rattle.disk_trait.proofs.Theorems.{calls_twice, reads_twice}
use Rattle.store_opening.specs.Opening.{view_of_read}
use Rattle.store_migration.specs.Within.{not_disk}
use Rattle.store_migration.proofs.Migrating.{answer_over, in_use, moments_over, no_store, no_store_calls, no_store_reads, old_form, only_read}
use Rattle.store_migration.proofs.migration.migrate_store.Goals as goal

-- ---- the store wasn't read

pub returns-in_err-core-clause-answer : goal.returns-in_err-core-clause-answer
returns-in_err-core-clause-answer g c = λ shows.
    let p = err_from_is_err_and c.from_residual.result c.from_residual.ensures.1 in
    rw (p.1, p.2)
    (no_store (g.D.Disk.device c.args.disk.now).seen (g.D.Disk.device c.read_store.new.disk).seen c.in_err-core.field-0.0
    (c.in_err-core.ensures.answer shows))

pub returns-in_err-core-clause-moments : goal.returns-in_err-core-clause-moments
returns-in_err-core-clause-moments g c = λ honest shows settled archive has.
    let p = err_from_is_err_and c.from_residual.result c.from_residual.ensures.1 in
    rw p.1 (only_read _ archive has _ settled _ c.in_err-core.ensures.reads.time)

pub returns-in_err-core-clause-refused : goal.returns-in_err-core-clause-refused
returns-in_err-core-clause-refused g c =
    let p = err_from_is_err_and c.from_residual.result c.from_residual.ensures.1 in
    rw (p.1, p.2) (no_store_reads _ _ c.in_err-core.field-0.0 c.in_err-core.ensures.reads)

pub returns-in_err-core-clause-calls : goal.returns-in_err-core-clause-calls
returns-in_err-core-clause-calls g c =
    let p = err_from_is_err_and c.from_residual.result c.from_residual.ensures.1 in
    rw (p.1, p.2) (no_store_calls _ _ c.in_err-core.field-0.0 c.in_err-core.ensures.reads)

-- ---- it is of the form in use

pub returns-then-form-eq-FORM_IN_USE-clause-answer : goal.returns-then-form-eq-FORM_IN_USE-clause-answer
returns-then-form-eq-FORM_IN_USE-clause-answer g c = λ shows.
    in_use _ _ _ c.if-form-eq-FORM_IN_USE.true (c.in_ok-core.ensures.answer shows)

pub returns-then-form-eq-FORM_IN_USE-clause-moments : goal.returns-then-form-eq-FORM_IN_USE-clause-moments
returns-then-form-eq-FORM_IN_USE-clause-moments g c = λ honest shows settled archive has.
    only_read _ archive has _ settled _ c.in_ok-core.ensures.reads.time

-- ---- it is of form 1

pub returns-clause-answer : goal.returns-clause-answer
returns-clause-answer g c =
    answer_over _ (g.D.Disk.device c.read_store.new.disk) (g.D.Disk.device c.migrate_read.new.disk) c.in_ok-core.ensures.reads _
    (old_form _ c.in_ok-core.ensures.form c.if-form-eq-FORM_IN_USE.false) (view_of_read c.in_ok-core.field-0)
    c.in_ok-core.ensures.answer
    c.migrate_read.result c.migrate_read.ensures.answer

pub returns-clause-moments : goal.returns-clause-moments
returns-clause-moments g c =
    moments_over _ (g.D.Disk.device c.read_store.new.disk) (g.D.Disk.device c.migrate_read.new.disk) c.in_ok-core.ensures.reads _
    (old_form _ c.in_ok-core.ensures.form c.if-form-eq-FORM_IN_USE.false) (view_of_read c.in_ok-core.field-0)
    c.in_ok-core.ensures.answer
    (is_ok c.migrate_read.result) c.migrate_read.ensures.moments

pub returns-clause-calls : goal.returns-clause-calls
returns-clause-calls g c =
    calls_twice (not_disk c.migrate_read.result) _ (g.D.Disk.device c.read_store.new.disk) _ c.in_ok-core.ensures.reads.calls c.migrate_read.ensures.calls

pub returns-clause-refused : goal.returns-clause-refused
returns-clause-refused g c = λ is.
    reads_twice true _ (g.D.Disk.device c.read_store.new.disk) _ c.in_ok-core.ensures.reads (c.migrate_read.ensures.refused is)

pub returns-clause-durable : goal.returns-clause-durable
returns-clause-durable g c = λ honest. c.migrate_read.ensures.durable (c.in_ok-core.ensures.reads.calls.same.honest ∙ honest)

pub returns-clause-handed : goal.returns-clause-handed
returns-clause-handed g c = λ tells.
    rw c.in_ok-core.ensures.reads.handed at c.migrate_read.ensures.handed (c.in_ok-core.ensures.reads.calls.same.tells ∙ tells)
