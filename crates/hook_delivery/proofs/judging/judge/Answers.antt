use Rattle.std.proofs.Common.{suc, sym}
use Rattle.hook_delivery.proofs.Verdicts.{passes_one_more}
use Rattle.hook_delivery.proofs.judging.judge.Goals as goal

-- one interim head more is passed over
pub loop-end-preserved : goal.loop-end-preserved
loop-end-preserved c =
    let (count, passed) = c.loop-end.invariant in (
      suc count,
      rw c.after-rest.ensures
          (passes_one_more count _ _ c.in-Passed.end passed c.in-Passed.ensures.ends c.in-Passed.ensures.interim),
    )

-- the head behind them decides
pub returns-in-Decided : goal.returns-in-Decided
returns-in-Decided c =
    let (count, passed) = c.loop-end.invariant in
    record {
      count = count;
      rest = _;
      passed = passed;
      decided = rw (sym c.is_last-is_last.ensures) c.in-Decided.ensures;
    }
