use Rattle.std.proofs.Common.{◌≡◌, length}
use Rattle.segment_pages.specs.Pages.{segments_behind}
use Rattle.store_manifest.proofs.GatherLemmas.{HasGathered}
use Rattle.store_manifest.proofs.gathering.manifest_of.Given as goal

-- the segments before those that are left were added
abbrev pub invariant-loop-manifest : goal.invariant-loop-manifest
invariant-loop-manifest l = record {
  base : l.manifest.base ≡ l.base;
  gathered : HasGathered l.core.library l.flow l.range l.after l.manifest;
}

-- each page is one of those that are left
abbrev pub decreases-loop-manifest : goal.decreases-loop-manifest
decreases-loop-manifest l = length (segments_behind l.core.library l.flow l.range l.after)
