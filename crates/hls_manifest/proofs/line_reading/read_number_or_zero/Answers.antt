use Rattle.std.proofs.Common.{sym, ◌∙◌}
use Rattle.std.proofs.lemmas.Option.{IfSome_then}
use Rattle.std.proofs.lemmas.Bool.{false≢true}
use Rattle.hls_manifest.proofs.NumberLemmas.{number_but_zero, number_or_zero, zero_word}
use Rattle.hls_manifest.proofs.line_reading.read_number_or_zero.Goals as goal

-- The word is `0`.
pub returns-then-same_bytes-clause-found : goal.returns-then-same_bytes-clause-found
returns-then-same_bytes-clause-found c = rw (c.same_bytes.ensures.0 c.if-same_bytes.true) zero_word

-- The word is another one.
pub returns-clause-found : goal.returns-clause-found
returns-clause-found c =
    IfSome_then c.read_number.result c.read_number.ensures.found (number_or_zero c.args.word.now)

pub returns-clause-none : goal.returns-clause-none
returns-clause-none c = λ none n is.
    c.read_number.ensures.none none n
    (number_but_zero c.args.word.now n
    (λ e. false≢true (sym c.if-same_bytes.false ∙ c.same_bytes.ensures.1 e)) is)
