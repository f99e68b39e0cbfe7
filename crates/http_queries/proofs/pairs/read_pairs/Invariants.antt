use Rattle.std.proofs.Common.{◌≡◌, ◌++◌, map}
use Rattle.form_urlencoded.specs.Form.{raw_pairs}
use Rattle.form_urlencoded.specs.Parse.{pairs_left}
use Rattle.http_queries.specs.Pairs.{pair_of}
use Rattle.http_queries.proofs.pairs.read_pairs.Given as goal

-- those so far, and then those that are left, are all
abbrev pub invariant-loop-item : goal.invariant-loop-item
invariant-loop-item l = l.pairs ++ map pair_of (pairs_left l.item-iterator) ≡ map pair_of (raw_pairs l.query)
