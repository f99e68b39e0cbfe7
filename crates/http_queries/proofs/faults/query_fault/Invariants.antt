use Rattle.std.proofs.Common.{◌≡◌, drop, take}
use Rattle.http_queries.specs.Rules.{first_fault, query_fault}
use Rattle.http_queries.proofs.faults.query_fault.Given as goal

-- what the rest gives, behind those so far, is what all give
abbrev pub invariant-loop-index : goal.invariant-loop-index
invariant-loop-index l = first_fault l.kind (take l.index l.pairs) (drop l.index l.pairs) ≡ query_fault l.kind l.pairs
