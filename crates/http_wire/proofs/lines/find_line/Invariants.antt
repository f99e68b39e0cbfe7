use Rattle.std.proofs.Common.{◌≡◌, drop}
use Rattle.http_wire.specs.Lines.{line_end}
use Rattle.http_wire.proofs.Ends.{further_by}
use Rattle.http_wire.proofs.lines.find_line.Given as goal

-- what the rest holds is what all holds
abbrev pub invariant-loop-i : goal.invariant-loop-i
invariant-loop-i l = further_by l.i (line_end (drop l.i l.bytes)) ≡ line_end l.bytes
