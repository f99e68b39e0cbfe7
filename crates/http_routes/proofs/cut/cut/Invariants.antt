use Rattle.std.proofs.Common.{◌≡◌, ◌++◌, drop, take}
use Rattle.http_routes.specs.Paths.{bytes_before, bytes_behind}
use Rattle.http_routes.proofs.cut.cut.Given as goal

-- what the rest holds is what all holds
abbrev pub invariant-loop-index : goal.invariant-loop-index
invariant-loop-index l = record {
  front : take l.index l.bytes ++ bytes_before l.mark (drop l.index l.bytes) ≡ bytes_before l.mark l.bytes;
  rest : bytes_behind l.mark (drop l.index l.bytes) ≡ bytes_behind l.mark l.bytes;
}
