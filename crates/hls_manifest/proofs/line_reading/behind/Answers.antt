use Rattle.std.proofs.lemmas.Bool.Decides.{Decides-eqb}
use Rattle.std.proofs.lemmas.Slice.Eq.{strip_prefix_is}
use Rattle.hls_manifest.proofs.NumberLemmas.{found_of, none_of}
use Rattle.hls_manifest.proofs.line_reading.behind.Goals as goal

pub returns-clause-found : goal.returns-clause-found
returns-clause-found c =
    found_of c.strip_prefix.result _ _
    (strip_prefix_is Decides-eqb c.args.text.now c.args.front.now c.strip_prefix.result
    c.strip_prefix.ensures.cases)

pub returns-clause-none : goal.returns-clause-none
returns-clause-none c =
    none_of c.strip_prefix.result _ _
    (strip_prefix_is Decides-eqb c.args.text.now c.args.front.now c.strip_prefix.result
    c.strip_prefix.ensures.cases)
