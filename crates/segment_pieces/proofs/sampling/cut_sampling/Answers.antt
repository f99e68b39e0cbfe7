use Rattle.std.proofs.Common.{sym, arith}
use Rattle.std.proofs.lemmas.Bool.{false≢true}
use Rattle.segment_pieces.proofs.PieceLemmas.{not_past}
use Rattle.segment_pieces.proofs.sampling.cut_sampling.Goals as goal

-- a number that fits is not past
pub returns-clause-none : goal.returns-clause-none
returns-clause-none c = (
  λ e. absurd (false≢true (sym e)),
  λ past. absurd (not_past c.args.rate.now c.args.part.now c.args.segment.now _
      c.count_before-before.ensures (omega arith) past),
)
