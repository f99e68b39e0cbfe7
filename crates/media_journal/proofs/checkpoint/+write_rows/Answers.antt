use Rattle.std.proofs.Common.{◌∙◌, length, arith}
use Rattle.std.proofs.lemmas.Result.{err_from_is_err_and, on_ok_weaker}
use Rattle.disk_trait.proofs.Theorems.{calls_twice}
use Rattle.media_journal.proofs.CheckpointLemmas.{pieces_written, row_writes-more}
use Rattle.media_journal.proofs.MomentLemmas.{torn_then, torn_within}
use Rattle.media_journal.proofs.checkpoint.+write_rows.Goals as goal

-- The first piece failed to be written.
pub returns-in_err-write_at-clause-calls : goal.returns-in_err-write_at-clause-calls
returns-in_err-write_at-clause-calls g t c =
    let failed = err_from_is_err_and c.from_residual.result c.from_residual.ensures.1 in
    let first = c.in_err-write_at.ensures.call in
    rw failed.1 (record { same = first.same; link = first.link; counted = first.counted })

pub returns-in_err-write_at-clause-time : goal.returns-in_err-write_at-clause-time
returns-in_err-write_at-clause-time g t c = torn_within _ _ _ _ _ _ (omega arith) (omega arith) c.in_err-write_at.ensures.call.time

-- It was written, and the rest is behind it.
pub returns-clause-time : goal.returns-clause-time
returns-clause-time g t c =
    torn_then _ _ _ _ _ (torn_within _ _ _ _ _ _ (omega arith) (omega arith) c.in_ok-write_at.ensures.call.time)
    (torn_within _ _ _ _ _ _ (omega arith) (omega arith) c.write_rows.ensures.time)

pub returns-clause-calls : goal.returns-clause-calls
returns-clause-calls g t c =
    let first = c.in_ok-write_at.ensures.call in
    calls_twice _ _ _ _ (record { same = first.same; link = first.link; counted = first.counted }) c.write_rows.ensures.calls

pub returns-clause-few_calls : goal.returns-clause-few_calls
returns-clause-few_calls g t c = omega (
  arith,
  c.in_ok-write_at.ensures.call.one_moment,
  c.write_rows.ensures.few_calls,
  row_writes-more
      (length c.args.rows.now) (omega arith),
)

pub returns-clause-written : goal.returns-clause-written
returns-clause-written g t c = λ shows.
    let first = c.in_ok-write_at.ensures in
    let whole = (g.met.D.Disk.sound c.args.disk.now).length shows in
    on_ok_weaker c.write_rows.result (λ seen. seen ∙ rw (first.written shows)
    (pieces_written _ c.args.rows.now _ _ c.args.at _ c.split_at.ensures.front_len c.split_at.ensures.by_index.0 (omega (arith, whole, c.requires.device))))
    (c.write_rows.ensures.written (first.call.same.shows ∙ shows))
