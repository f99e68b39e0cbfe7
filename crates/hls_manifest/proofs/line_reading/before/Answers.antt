use Rattle.std.proofs.lemmas.Bool.Decides.{Decides-eqb}
use Rattle.std.proofs.lemmas.Slice.Eq.{strip_suffix_is}
use Rattle.hls_manifest.proofs.NumberLemmas.{found_of, none_of}
use Rattle.hls_manifest.proofs.line_reading.before.Goals as goal

pub returns-clause-found : goal.returns-clause-found
returns-clause-found c =
    found_of c.strip_suffix.result _ _
    (strip_suffix_is Decides-eqb c.args.text.now c.args.end.now c.strip_suffix.result
    c.strip_suffix.ensures.cases)

pub returns-clause-none : goal.returns-clause-none
returns-clause-none c =
    none_of c.strip_suffix.result _ _
    (strip_suffix_is Decides-eqb c.args.text.now c.args.end.now c.strip_suffix.result
    c.strip_suffix.ensures.cases)
