use Rattle.std.proofs.Common.{◌∙◌, ◌+◌, Err, true, length, refl, ap}
use Rattle.std.proofs.lemmas.Result.{err_from_is_err_and}
use Rattle.disk_trait.proofs.Theorems.{calls_twice}
use Rattle.store_migration.specs.Within.{view_of}
use Rattle.store_migration.proofs.Migrating.{fits_by, made, moved, moved_by, no_rows, no_rows_calls, no_rows_reads, not_written, not_written_calls, not_written_reads, still_read}
use Rattle.store_migration.proofs.migration.migrate_read.Goals as goal

-- ---- the rows weren't made

pub returns-in_err-rows-clause-answer : goal.returns-in_err-rows-clause-answer
returns-in_err-rows-clause-answer g c = λ shows is.
    let p = err_from_is_err_and c.from_residual.result c.from_residual.ensures.1 in
    rw (p.1, p.2) (no_rows (g.D.Disk.device c.args.disk.now).seen (g.D.Disk.device c.library_rows.new.disk).seen c.in_err-rows.field-0.0)

pub returns-in_err-rows-clause-moments : goal.returns-in_err-rows-clause-moments
returns-in_err-rows-clause-moments g c = λ honest shows settled is.
    let p = err_from_is_err_and c.from_residual.result c.from_residual.ensures.1 in
    rw p.1 (still_read _ (view_of c.args.core.now.library c.args.journal) is _ _ settled c.in_err-rows.ensures.reads.time)

pub returns-in_err-rows-clause-refused : goal.returns-in_err-rows-clause-refused
returns-in_err-rows-clause-refused g c =
    let p = err_from_is_err_and c.from_residual.result c.from_residual.ensures.1 in
    rw (p.1, p.2) (no_rows_reads _ _ c.in_err-rows.field-0.0 c.in_err-rows.ensures.reads)

pub returns-in_err-rows-clause-calls : goal.returns-in_err-rows-clause-calls
returns-in_err-rows-clause-calls g c =
    let p = err_from_is_err_and c.from_residual.result c.from_residual.ensures.1 in
    rw (p.1, p.2) (no_rows_calls _ _ c.in_err-rows.field-0.0 c.in_err-rows.ensures.reads)

-- ---- they weren't written

pub returns-in_err-checkpoint-clause-answer : goal.returns-in_err-checkpoint-clause-answer
returns-in_err-checkpoint-clause-answer g c = λ shows is.
    let p = err_from_is_err_and c.from_residual-in_err-checkpoint.result c.from_residual-in_err-checkpoint.ensures.1 in
    rw (p.1, p.2)
    (not_written c.rows_give_the_library.ensures _ (view_of c.args.core.now.library c.args.journal) is c.in_ok-rows.rows (c.in_ok-rows.ensures.rows shows)
    c.bytes-text.result.now c.bytes-text.ensures c.in_err-checkpoint.field-0.0 (g.D.Disk.device c.checkpoint.new.disk).seen
    (λ same. c.in_err-checkpoint.ensures.full.0 (ap Err same)))

pub returns-in_err-checkpoint-clause-moments : goal.returns-in_err-checkpoint-clause-moments
returns-in_err-checkpoint-clause-moments g c = λ honest shows settled is.
    let p = err_from_is_err_and c.from_residual-in_err-checkpoint.result c.from_residual-in_err-checkpoint.ensures.1 in
    let reads = c.in_ok-rows.ensures.reads in
    rw p.1
    (moved_by c.rows_give_the_library.ensures _ (view_of c.args.core.now.library c.args.journal) is c.in_ok-rows.rows (c.in_ok-rows.ensures.rows shows)
    c.bytes-text.result.now c.bytes-text.ensures c.in_err-checkpoint.field-0.0 _ (g.D.Disk.device c.library_rows.new.disk) _ settled reads.time
    (λ none. let e = c.in_err-checkpoint.ensures.full.1 none in cc) (λ same. ap g.D.Disk.device (c.in_err-checkpoint.ensures.refused (ap Err same)))
    (c.in_err-checkpoint.ensures.moments (reads.calls.same.honest ∙ honest) (reads.calls.same.shows ∙ shows)))

pub returns-in_err-checkpoint-clause-refused : goal.returns-in_err-checkpoint-clause-refused
returns-in_err-checkpoint-clause-refused g c =
    let p = err_from_is_err_and c.from_residual-in_err-checkpoint.result c.from_residual-in_err-checkpoint.ensures.1 in
    rw (p.1, p.2)
    (not_written_reads _ (g.D.Disk.device c.library_rows.new.disk) _ c.in_ok-rows.ensures.reads c.in_err-checkpoint.field-0.0
    (λ same. ap g.D.Disk.device (c.in_err-checkpoint.ensures.refused (ap Err same))))

pub returns-in_err-checkpoint-clause-calls : goal.returns-in_err-checkpoint-clause-calls
returns-in_err-checkpoint-clause-calls g c =
    let p = err_from_is_err_and c.from_residual-in_err-checkpoint.result c.from_residual-in_err-checkpoint.ensures.1 in
    rw (p.1, p.2)
    (not_written_calls _ (g.D.Disk.device c.library_rows.new.disk) _ c.in_ok-rows.ensures.reads c.in_err-checkpoint.field-0.0
    (λ same. ap g.D.Disk.device (c.in_err-checkpoint.ensures.refused (ap Err same))) (λ same. c.in_err-checkpoint.ensures.failed (ap Err same)))

-- ---- they were

pub returns-clause-answer : goal.returns-clause-answer
returns-clause-answer g c = λ shows is.
    let law = c.rows_give_the_library.ensures in
    let image = (g.D.Disk.device c.args.disk.now).seen in
    let kept = view_of c.args.core.now.library c.args.journal in
    let are = c.in_ok-rows.ensures.rows shows in
    let text = c.bytes-text.result.now in
    let reads = c.in_ok-rows.ensures.reads in
    let ok = c.in_ok-checkpoint.ensures in
    let now = reads.calls.same.shows ∙ shows in
    made law image kept is c.in_ok-rows.rows are text c.bytes-text.ensures
    (fits_by law image kept is c.in_ok-rows.rows are text c.bytes-text.ensures (λ none. let e = ok.full.1 none in cc))
    (g.D.Disk.device c.library_rows.new.disk) (g.D.Disk.device c.checkpoint.new.disk) c.checkpoint.new.self
    (record { objects = c.in_ok-rows.rows.stored; rows = length text }) reads.seen ok.moved (ok.elsewhere now) (ok.content now) refl refl

pub returns-clause-moments : goal.returns-clause-moments
returns-clause-moments g c = λ honest shows settled is.
    let law = c.rows_give_the_library.ensures in
    let image = (g.D.Disk.device c.args.disk.now).seen in
    let kept = view_of c.args.core.now.library c.args.journal in
    let are = c.in_ok-rows.ensures.rows shows in
    let text = c.bytes-text.result.now in
    let reads = c.in_ok-rows.ensures.reads in
    let ok = c.in_ok-checkpoint.ensures in
    moved law image kept is c.in_ok-rows.rows are text c.bytes-text.ensures
    (fits_by law image kept is c.in_ok-rows.rows are text c.bytes-text.ensures (λ none. let e = ok.full.1 none in cc))
    true (g.D.Disk.device c.args.disk.now) (g.D.Disk.device c.library_rows.new.disk) (g.D.Disk.device c.checkpoint.new.disk) settled reads.time
    (ok.moments (reads.calls.same.honest ∙ honest) (reads.calls.same.shows ∙ shows))

pub returns-clause-calls : goal.returns-clause-calls
returns-clause-calls g c = calls_twice true _ (g.D.Disk.device c.library_rows.new.disk) _ c.in_ok-rows.ensures.reads.calls c.in_ok-checkpoint.ensures.calls

pub returns-clause-durable : goal.returns-clause-durable
returns-clause-durable g c = λ honest. c.in_ok-checkpoint.ensures.durable (c.in_ok-rows.ensures.reads.calls.same.honest ∙ honest)

pub returns-clause-handed : goal.returns-clause-handed
returns-clause-handed g c = λ tells.
    c.in_ok-checkpoint.ensures.handed (c.in_ok-rows.ensures.reads.calls.same.tells ∙ tells)
    ∙ ap (λ n. n + (length c.bytes-text.result.now + 10)) c.in_ok-rows.ensures.reads.handed
