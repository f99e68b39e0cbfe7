use Rattle.std.proofs.Common.{◌≡◌, ◌++◌, drop}
use Rattle.http_queries.specs.Filters.{tag_tests}
use Rattle.http_queries.proofs.tags.read_tag_tests.Given as goal

-- the tests so far, and then those of the rest, are all
abbrev pub invariant-loop-pair : goal.invariant-loop-pair
invariant-loop-pair l = l.tests ++ tag_tests (drop l.pair-index l.pairs) ≡ tag_tests l.pairs
