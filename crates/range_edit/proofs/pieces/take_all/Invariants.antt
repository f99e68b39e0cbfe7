use Rattle.std.proofs.Common.{length}
use Rattle.segment_pages.specs.Pages.{segments_behind}
use Rattle.range_edit.proofs.PageLemmas.{HasTaken}
use Rattle.range_edit.proofs.pieces.take_all.Given as goal

-- the pieces of the segments before those that are left were added
abbrev pub invariant-loop-read : goal.invariant-loop-read
invariant-loop-read l =
    HasTaken l.core.library l.flow l.clip l.after l.fn.pieces l.pieces

-- each page is one of those that are left
abbrev pub decreases-loop-read : goal.decreases-loop-read
decreases-loop-read l = length (segments_behind l.core.library l.flow l.clip.range l.after)
