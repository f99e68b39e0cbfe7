use Rattle.std.proofs.Common.{length}
use Rattle.hls_manifest.proofs.ReadingLemmas.{IsRead}
use Rattle.hls_manifest.proofs.reading.read_playlist.Given as goal

-- the lines so far are read
abbrev pub invariant-loop-line : goal.invariant-loop-line
invariant-loop-line l = IsRead l.text l.rest l.before l.reader.progress l.reader.entries

-- less is left
abbrev pub decreases-loop-line : goal.decreases-loop-line
decreases-loop-line l = length l.rest
