use Rattle.std.proofs.Common.{arith}
use Rattle.std.proofs.lemmas.Bool.Decides.{nat_tests}
use Rattle.hls_manifest.proofs.NumberLemmas.{begins_as_number, number_is_utf8, parse_reads, number_from_parse}
use Rattle.hls_manifest.proofs.line_reading.read_number.Goals as goal
use Rattle.hls_manifest.proofs.line_reading.read_number.Goals.{then-is_empty-via-then-is_empty, then-is_empty-via-else-is_empty+then-word-lt49}

-- A number's word begins with a digit but `0`.
pub returns-then-is_empty-clause-none : goal.returns-then-is_empty-clause-none
returns-then-is_empty-clause-none c = λ _ n is.
    let begins = begins_as_number c.args.word.now n is in
    elim c.then-is_empty.branch [
      | then-is_empty-via-then-is_empty w ↦ grind (arith, nat_tests, begins)
      | then-is_empty-via-else-is_empty+then-word-lt49 w ↦ omega (arith, begins.first)
    ]

-- A number's word is text.
pub returns-in_default-clause-none : goal.returns-in_default-clause-none
returns-in_default-clause-none c = λ _ n is.
    c.in_default.ensures.cases.0 (number_is_utf8 c.args.word.now n is)

-- What was read is the number whose text the word is.
pub returns-in-Ok-parse-clause-found : goal.returns-in-Ok-parse-clause-found
returns-in-Ok-parse-clause-found c =
    let parses = rw c.in-Ok.ensures.cases.0 at c.in-Ok-parse.ensures.value.0 in
    number_from_parse c.args.word.now c.in-Ok-parse.number (omega arith) parses (omega arith)

-- A number's word is read.
pub returns-in-Err-clause-none : goal.returns-in-Err-clause-none
returns-in-Err-clause-none c = λ _ n is.
    let parses = rw c.in-Ok.ensures.cases.0 at c.in-Err.ensures.value.0 in
    parse_reads c.args.word.now n is parses
