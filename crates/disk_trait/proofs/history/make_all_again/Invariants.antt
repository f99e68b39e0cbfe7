use Rattle.std.proofs.Common.{◌≡◌, take}
use Rattle.disk_trait.specs.History.{seen_after}
use Rattle.disk_trait.proofs.history.make_all_again.Given as goal

abbrev pub invariant-loop-call : goal.invariant-loop-call
invariant-loop-call l = l.image.items ≡ seen_after (take l.call-index l.calls) l.fn.image.items
