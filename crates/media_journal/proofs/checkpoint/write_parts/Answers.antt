use Rattle.std.proofs.Common.{◌∙◌, arith}
use Rattle.std.proofs.lemmas.Result.{on_ok_weaker}
use Rattle.media_journal.proofs.CheckpointLemmas.{half_written}
use Rattle.media_journal.proofs.MomentLemmas.{torn_then, torn_within}
use Rattle.media_journal.proofs.checkpoint.write_parts.Goals as goal

-- Each part lies within the half.
pub returns-in_err-write_at-clause-time : goal.returns-in_err-write_at-clause-time
returns-in_err-write_at-clause-time g c = torn_within _ _ _ _ _ _ (omega arith) (omega arith) c.in_err-write_at.ensures.call.time

pub returns-in_err-write_rows-clause-time : goal.returns-in_err-write_rows-clause-time
returns-in_err-write_rows-clause-time g c =
    torn_then _ _ _ _ _ (torn_within _ _ _ _ _ _ (omega arith) (omega arith) c.in_ok-write_at.ensures.call.time)
    (torn_within _ _ _ _ _ _ (omega arith) (omega arith) c.in_err-write_rows.ensures.time)

pub returns-clause-time : goal.returns-clause-time
returns-clause-time g c =
    torn_then _ _ _ _ _ (torn_then _ _ _ _ _ (torn_within _ _ _ _ _ _ (omega arith) (omega arith) c.in_ok-write_at.ensures.call.time)
    (torn_within _ _ _ _ _ _ (omega arith) (omega arith) c.in_ok-write_rows.ensures.time))
    (torn_within _ _ _ _ _ _ (omega arith) (omega arith) c.write_at-2.ensures.call.time)

-- The parts make the half.
pub returns-clause-written : goal.returns-clause-written
returns-clause-written g c = λ shows.
    let first = c.in_ok-write_at.ensures in
    let second = c.in_ok-write_rows.ensures in
    let whole = (g.met.D.Disk.sound c.args.disk.now).length shows in
    let half = half_written _ c.args.rows.now c.args.start (omega (arith, whole, c.requires.device)) in
    let shows_on = first.call.same.shows ∙ shows in
    let gate = c.write_at-2.ensures.written (second.calls.same.shows ∙ shows_on) in
    on_ok_weaker c.write_at-2.result (λ seen. seen ∙ rw (second.written shows_on, first.written shows, c.u64_bytes.ensures, c.half_number.ensures) half) gate
