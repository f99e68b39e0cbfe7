use Rattle.std.proofs.Common.{◌≡◌, ◌-◌, [], get_or}
use Rattle.http_routes.specs.Paths.{path_pieces}
use Rattle.http_routes.proofs.path.piece_at.Given as goal

-- the piece is one of the rest
abbrev pub invariant-loop-step : goal.invariant-loop-step
invariant-loop-step l = get_or (path_pieces l.rest) (l.place - l.step) [] ≡ get_or (path_pieces l.path) l.place []
