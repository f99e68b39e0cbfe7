use Rattle.std.proofs.Common.{◌≡◌, ◌++◌, List, filter, take}
use Rattle.hls_manifest.specs.Entries.{is_whole}
use Rattle.hls_manifest.specs.Manifests.{IsManifestOf}
use Rattle.media_rows.specs.declared.segment.SegmentRow.{SegmentRow}
use Rattle.store_manifest.proofs.gathering.push_all.Given as goal

-- those so far were added
abbrev pub invariant-loop-row : goal.invariant-loop-row
invariant-loop-row l = record {
  base : l.manifest.base ≡ l.fn.manifest.base;
  named : (before : List SegmentRow) → IsManifestOf before l.fn.manifest
      → IsManifestOf (before ++ filter (is_whole l.range) (take l.row-index l.rows)) l.manifest;
}
