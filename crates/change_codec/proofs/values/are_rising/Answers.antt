use Rattle.std.proofs.Common.{sym, arith}
use Rattle.change_codec.proofs.TagLemmas.{rises_all}
use Rattle.change_codec.proofs.values.are_rising.Goals as goal

pub returns : goal.returns
returns c = sym (rises_all c.args.tags.now c.loop-at.at c.loop-at.auto.at (omega arith) c.loop-at.invariant)
