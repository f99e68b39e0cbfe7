use Rattle.std.proofs.Common.{◌≡◌, [], drop}
use Rattle.std.specs.Prelude.{filter, fold}
use Rattle.http_queries.specs.Next.{form_of, stays_in_link, form_with}
use Rattle.http_queries.proofs.next.form_of.Given as goal

-- the form so far, with the pairs of the rest, is that of all
abbrev pub invariant-loop-pair : goal.invariant-loop-pair
invariant-loop-pair l = record {
  form : fold form_with l.form.form (filter stays_in_link (drop l.pair-index l.pairs)) ≡ form_of l.pairs;
  prefix : l.form.prefix ≡ [];
}
