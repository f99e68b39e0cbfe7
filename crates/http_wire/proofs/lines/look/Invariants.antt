use Rattle.std.proofs.Common.{◌≡◌, drop}
use Rattle.http_wire.specs.Lines.{looked}
use Rattle.http_wire.proofs.Ends.{on_by}
use Rattle.http_wire.proofs.lines.look.Given as goal

-- what the rest leads to from here is what all leads to
abbrev pub invariant-loop-i : goal.invariant-loop-i
invariant-loop-i l = on_by l.i (looked l.now (drop l.i l.bytes)) ≡ looked l.fn.place l.bytes
