use Rattle.std.proofs.Common.{◌≡◌, drop}
use Rattle.http_queries.specs.Pairs.{value_of}
use Rattle.http_queries.proofs.pairs.value_of.Given as goal

-- what the rest gives is what all give
abbrev pub invariant-loop-pair : goal.invariant-loop-pair
invariant-loop-pair l = value_of l.name (drop l.pair-index l.pairs) ≡ value_of l.name l.pairs
