use Rattle.std.proofs.Common.{arith}
use Rattle.std.proofs.lemmas.Bool.Decides.{nat_tests}
use Rattle.http_wire.proofs.Reaching.{chunked_short, line_within}
use Rattle.http_wire.proofs.chunks.lacks_data.Goals as goal

pub overflow_sub-result : goal.overflow_sub-result
overflow_sub-result c =
    omega (arith, line_within c.args.bytes.now c.requires.0 c.args.progress.now c.in-Read.count c.in-Read.size c.requires.1 c.in-Read.is)

pub overflow_sub-result-then-bytes-le-MAX_CODED : goal.overflow_sub-result-then-bytes-le-MAX_CODED
overflow_sub-result-then-bytes-le-MAX_CODED c =
    omega (arith, line_within c.args.bytes.now c.requires.0 c.args.progress.now c.in-Read.count c.in-Read.size c.requires.1 c.in-Read.is)

pub returns-then-bytes-le-MAX_CODED : goal.returns-then-bytes-le-MAX_CODED
returns-then-bytes-le-MAX_CODED c = λ short.
    chunked_short c.args.bytes.now c.requires.0 c.args.progress.now c.in-Read.count c.in-Read.size c.requires.1 c.in-Read.is
    c.if-bytes-le-MAX_CODED.true (grind (arith, nat_tests))
