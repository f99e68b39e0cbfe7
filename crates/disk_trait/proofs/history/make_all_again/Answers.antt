use Rattle.std.proofs.Common.{◌∙◌, sym, ap}
use Rattle.disk_trait.specs.History.{seen_after_call}
use Rattle.disk_trait.specs.MemoryDiskLaws.{length-seen_after}
use Rattle.disk_trait.proofs.StopLemmas.{seen_after_more}
use Rattle.disk_trait.proofs.history.make_all_again.Goals as goal

pub make_again-requires : goal.make_again-requires
make_again-requires c =
    rw (c.loop-call.invariant, length-seen_after) (rw (← c.call-item.is) at (c.requires c.loop-call.call-index c.call-item.result c.loop-call-test.true))

pub loop-call-preserved : goal.loop-call-preserved
loop-call-preserved c =
    c.make_again.ensures ∙ (ap (seen_after_call c.call-item.result) c.loop-call.invariant ∙ sym
    (seen_after_more c.args.calls.now c.loop-call.call-index c.call-item.result c.args.image.now.items c.loop-call-test.true c.call-item.is))
