use Rattle.std.proofs.Common.{◌≢◌, ◌<◌, ℕ, get_or}
use Rattle.hls_manifest.proofs.line_reading.first_line.Given as goal

-- no line feed stands so far
abbrev pub invariant-loop-index : goal.invariant-loop-index
invariant-loop-index l = (k : ℕ) → k < l.index → get_or l.text k 0 ≢ 10
