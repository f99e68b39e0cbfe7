use Rattle.std.proofs.Common.{ap, arith, true, false, ◌∙◌}
use Rattle.std.proofs.lemmas.Result.{err_from_is_err_and}
use Rattle.media_journal.specs.Checkpoint.{other_start}
use Rattle.media_journal.specs.Journal.{Position}
use Rattle.media_journal.proofs.CheckpointLemmas.{checkpoint_each, checkpoint_left, content_there, moments_there, wrote_there}
use Rattle.media_journal.proofs.journal.Journal.checkpoint.Goals as goal

-- Both writes leave the rows in the half that the selector names.
pub returns-clause-content : goal.returns-clause-content
returns-clause-content g c = λ shows held given.
    let whole = (g.met.D.Disk.sound c.args.disk.now).length shows in
    let half = ap (λ (p : Position). p.half) c.self.view_is in
    let blocks = ap (λ (p : Position). p.blocks) c.self.view_is in
    let start = c.other_half-start.ensures.start ∙ ap other_start c.self.view_is in
    let there = content_there c.args.self.now c.other_half-start.result c.args.rows.now start (omega (arith, half, c.if-size-bytes.false))
    (omega (arith, c.if-size-bytes.false, c.self.invariant.half))
    (g.D.Disk.device c.args.disk.now).seen _ held (omega (
      arith,
      whole,
      c.self.invariant.sizes,
      c.requires.device,
      half,
      blocks,
      c.other_half-start.ensures.most,
      c.if-size-bytes.false,
    )) (c.in_ok-switch_half.ensures.written shows) given in
    rw c.other_half-start.ensures.start (rw (← c.self.view_is) at there)

pub returns-clause-elsewhere : goal.returns-clause-elsewhere
returns-clause-elsewhere g c = λ shows.
    let whole = (g.met.D.Disk.sound c.args.disk.now).length shows in
    let half = ap (λ (p : Position). p.half) c.self.view_is in
    let blocks = ap (λ (p : Position). p.blocks) c.self.view_is in
    let start = c.other_half-start.ensures.start ∙ ap other_start c.self.view_is in
    wrote_there c.args.self.now c.other_half-start.result c.args.rows.now start (omega (arith, half, c.if-size-bytes.false))
    (omega (arith, c.if-size-bytes.false, c.self.invariant.half))
    (g.D.Disk.device c.args.disk.now).seen _ c.other_half-start.ensures.least
    (omega (arith, whole, c.self.invariant.sizes, c.requires.device, half, blocks, c.other_half-start.ensures.most, c.if-size-bytes.false))
    (c.in_ok-switch_half.ensures.written shows)

-- The half is whole in each image before the selector is written, and both halves read so then.
pub returns-clause-moments : goal.returns-clause-moments
returns-clause-moments g c = λ honest shows held each.
    let whole = (g.met.D.Disk.sound c.args.disk.now).length shows in
    let half = ap (λ (p : Position). p.half) c.self.view_is in
    let blocks = ap (λ (p : Position). p.blocks) c.self.view_is in
    let start = c.other_half-start.ensures.start ∙ ap other_start c.self.view_is in
    moments_there c.args.self.now c.other_half-start.result c.args.rows.now start (omega (arith, half, c.if-size-bytes.false))
    (omega (arith, c.if-size-bytes.false, c.self.invariant.half))
    true (g.D.Disk.device c.args.disk.now) _ held (omega (
      arith,
      whole,
      c.self.invariant.sizes,
      c.requires.device,
      half,
      blocks,
      c.other_half-start.ensures.most,
      c.if-size-bytes.false,
    )) each
    (c.in_ok-switch_half.ensures.moments honest shows)

pub returns-clause-acknowledged : goal.returns-clause-acknowledged
returns-clause-acknowledged g c = λ honest shows held each.
    let time = returns-clause-moments g c honest shows held each in
    rw c.other_half-start.ensures.start (rw (← c.self.view_is) at (checkpoint_each _ _ c.args.self.now c.args.rows.now held time))

pub returns-in_err-switch_half-clause-moments : goal.returns-in_err-switch_half-clause-moments
returns-in_err-switch_half-clause-moments g c =
    let failed = err_from_is_err_and c.from_residual.result c.from_residual.ensures.1 in
    rw failed.1 (λ honest shows held each.
    let whole = (g.met.D.Disk.sound c.args.disk.now).length shows in
    let half = ap (λ (p : Position). p.half) c.self.view_is in
    let blocks = ap (λ (p : Position). p.blocks) c.self.view_is in
    let start = c.other_half-start.ensures.start ∙ ap other_start c.self.view_is in
    moments_there c.args.self.now c.other_half-start.result c.args.rows.now start (omega (arith, half, c.if-size-bytes.false))
    (omega (arith, c.if-size-bytes.false, c.self.invariant.half))
    false (g.D.Disk.device c.args.disk.now) _ held (omega (
      arith,
      whole,
      c.self.invariant.sizes,
      c.requires.device,
      half,
      blocks,
      c.other_half-start.ensures.most,
      c.if-size-bytes.false,
    )) each
    (c.in_err-switch_half.ensures.moments honest shows))

pub returns-in_err-switch_half-clause-left : goal.returns-in_err-switch_half-clause-left
returns-in_err-switch_half-clause-left g c = λ honest shows _ held each.
    let same = c.in_err-switch_half.ensures.calls.same in
    let failed = err_from_is_err_and c.from_residual.result c.from_residual.ensures.1 in
    let time = rw failed.1 at (returns-in_err-switch_half-clause-moments g c honest shows held each) in
    checkpoint_left _ _ c.args.self.now c.args.rows.now held (g.met.D.Disk.sound _) (same.shows ∙ shows) time
