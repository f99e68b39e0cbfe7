use Rattle.std.specs.Prelude.{◌≡◌, ◌++◌, length}
use Rattle.json_replies.proofs.json_text.copy_tokens.Given as goal

abbrev pub invariant-loop-token : goal.invariant-loop-token
invariant-loop-token l = record {
  whole : l.to.tokens ++ l.from ≡ l.initial.to.tokens ++ l.initial.from;
  before : l.to.before ≡ l.initial.to.before;
}

abbrev pub decreases-loop-token : goal.decreases-loop-token
decreases-loop-token l = length l.from
