use Rattle.std.proofs.Common.{◌∙◌}
use Rattle.store_manifest.proofs.GatherLemmas.{gathers_all, gathers_more, gathers_nothing}
use Rattle.store_manifest.proofs.gathering.manifest_of.Goals as goal

-- At first nothing was added.
pub loop-manifest-init : goal.loop-manifest-init
loop-manifest-init c = record {
  base = c.in_ok-manifest.ensures.base;
  gathered = gathers_nothing c.args.core.now.library c.args.flow c.args.range.now c.in_ok-manifest.manifest c.in_ok-manifest.ensures.empty;
}

-- Nothing is left.
pub returns-then-is_none-clause-manifest : goal.returns-then-is_none-clause-manifest
returns-then-is_none-clause-manifest c = gathers_all c.args.core.now.library c.args.flow c.args.range.now c.loop-manifest.after c.in_ok-read.read c.items.result.now
    c.loop-manifest.manifest c.push_all.new.manifest c.loop-manifest.invariant.gathered c.in_ok-read.ensures.read (c.if-is_none.ensures) c.items.ensures c.in_ok-push_all.ensures.named

-- A page more was added.
pub loop-manifest-preserved : goal.loop-manifest-preserved
loop-manifest-preserved c = record {
  base = c.push_all.ensures.base ∙ c.loop-manifest.invariant.base;
  gathered = gathers_more c.args.core.now.library c.args.flow c.args.range.now c.loop-manifest.after c.in_ok-read.read c.items.result.now
      c.loop-manifest.manifest c.push_all.new.manifest c.loop-manifest.invariant.gathered c.in_ok-read.ensures.read (c.if-is_none.ensures) c.items.ensures c.in_ok-push_all.ensures.named;
}
