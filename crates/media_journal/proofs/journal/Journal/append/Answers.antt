use Rattle.std.proofs.Common.{ap, arith, true, false, ◌∙◌}
use Rattle.std.proofs.lemmas.Result.{err_from_is_err_and}
use Rattle.media_journal.specs.Journal.{Position}
use Rattle.media_journal.proofs.FrameLemmas.{length-frame_text}
use Rattle.media_journal.proofs.AppendLemmas.{gives_more}
use Rattle.media_journal.proofs.CrashLemmas.{append_moments, append_left, append_each}
use Rattle.media_journal.proofs.journal.Journal.append.Goals as goal

-- The two writes leave the record behind those that are there.
pub returns-clause-content : goal.returns-clause-content
returns-clause-content g c = rw (← c.self.view_is) (λ shows held given.
    let whole = (g.met.D.Disk.sound c.args.disk.now).length shows in
    let more =
    gives_more _ _ held c.args.frame.now (omega (arith, whole, c.self.invariant.within, c.requires))
    (omega (arith, c.if-length-self.false, c.bytes-bytes.ensures.len)) c.bytes-bytes.ensures.short given in
    rw (c.in_ok-write_record.ensures.written shows, c.bytes-bytes.ensures.len, c.bytes-bytes.ensures.text) (rw (length-frame_text c.args.frame.now) at more))

-- The frame is whole in each image before its gate is written, and one byte opens it.
pub returns-clause-moments : goal.returns-clause-moments
returns-clause-moments g c = rw (← c.self.view_is) (λ honest shows held each.
    let whole = (g.met.D.Disk.sound c.args.disk.now).length shows in
    let blocks = ap (λ (p : Position). p.blocks) c.self.view_is in
    append_moments _ _ _ c.args.frame.now held (omega (arith, whole, c.self.invariant.within, c.requires))
    (omega (arith, c.if-length-self.false, c.bytes-bytes.ensures.len)) c.bytes-bytes.ensures.short each true
    (rw c.bytes-bytes.ensures.text at (c.in_ok-write_record.ensures.moments honest shows)))

pub returns-clause-acknowledged : goal.returns-clause-acknowledged
returns-clause-acknowledged g c = λ honest shows held each.
    let time = returns-clause-moments g c honest shows held each in
    rw (c.bytes-bytes.ensures.len, ← c.self.view_is) (rw (← c.self.view_is) at (append_each _ _ c.args.self.now c.args.frame.now held time))

pub returns-in_err-write_record-clause-moments : goal.returns-in_err-write_record-clause-moments
returns-in_err-write_record-clause-moments g c =
    let failed = err_from_is_err_and c.from_residual.result c.from_residual.ensures.1 in
    rw (failed.1, ← c.self.view_is) (λ honest shows held each.
    let whole = (g.met.D.Disk.sound c.args.disk.now).length shows in
    let blocks = ap (λ (p : Position). p.blocks) c.self.view_is in
    append_moments _ _ _ c.args.frame.now held (omega (arith, whole, c.self.invariant.within, c.requires))
    (omega (arith, c.if-length-self.false, c.bytes-bytes.ensures.len)) c.bytes-bytes.ensures.short each false
    (rw c.bytes-bytes.ensures.text at (c.in_err-write_record.ensures.moments honest shows)))

pub returns-in_err-write_record-clause-left : goal.returns-in_err-write_record-clause-left
returns-in_err-write_record-clause-left g c = λ honest shows _ held each.
    let same = c.in_err-write_record.ensures.calls.same in
    let failed = err_from_is_err_and c.from_residual.result c.from_residual.ensures.1 in
    let time = rw failed.1 at (returns-in_err-write_record-clause-moments g c honest shows held each) in
    append_left _ _ c.args.self.now c.args.frame.now held (g.met.D.Disk.sound _) (same.shows ∙ shows) time
