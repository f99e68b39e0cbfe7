use Rattle.std.proofs.Common.{◌≡◌, ◌-◌, ◌+◌, drop, ap, sym, ◌∙◌, arith}
use Rattle.media_rows.specs.Lists.{rises}
use Rattle.media_rows.specs.Snapshot.{row_before}
use Rattle.core_restore.proofs.Rising.{rows_done, rows_go_on}
use Rattle.core_restore.proofs.order.do_rise.Goals as goal

-- a row stands behind the one before it
pub loop-index-preserved : goal.loop-index-preserved
loop-index-preserved c =
    let same : c.loop-index.index ≡ c.loop-index.index + 1 - 1 = omega arith in
    rows_go_on c.args.rows.now c.loop-index.index c.index-rows-index.result c.index-rows-index-in-loop-index.result (omega (arith, c.loop-index.auto.index))
    (omega (arith, c.loop-index-test.true)) c.index-rows-index.is c.index-rows-index-in-loop-index.is c.loop-index.invariant
    (sym c.is_before.ensures ∙ c.if-not-is_before.false)
    ∙ ap (λ k. rises row_before (drop k c.args.rows.now)) same

-- the last row is left, or there is none
pub returns : goal.returns
returns c =
    sym (c.loop-index.invariant ∙ rows_done c.args.rows.now (c.loop-index.index - 1) (omega (arith, c.loop-index-test.false, c.loop-index.auto.index)))
