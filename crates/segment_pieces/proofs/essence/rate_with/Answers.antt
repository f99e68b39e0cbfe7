use Rattle.segment_pieces.proofs.RateLemmas.{rate_is}
use Rattle.segment_pieces.proofs.essence.rate_with.Goals as goal

-- the test that the code made is that of the definition
pub returns-then-is_rate : goal.returns-then-is_rate
returns-then-is_rate c = rate_is c.args.numerator c.args.denominator _
