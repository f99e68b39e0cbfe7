use Rattle.std.proofs.Common.{All, take}
use Rattle.time_range.specs.Points.{Overlap}
use Rattle.range_edit.proofs.placing.stands_over.Given as goal

-- no place so far
abbrev pub invariant-loop-place : goal.invariant-loop-place
invariant-loop-place l = All (λ place. ¬ (Overlap place l.range)) (take l.place-index l.places)
