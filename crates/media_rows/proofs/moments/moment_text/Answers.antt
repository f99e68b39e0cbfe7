-- The date of the day, and the time of the rest.
use Rattle.std.proofs.Common.{◌∙◌, ap₂, ◌++◌, List, ℕ, ◌/◌, arith}
use Rattle.std.proofs.lemmas.Int.{ints}
use Rattle.media_rows.specs.Moments.{moment_text}
use Rattle.media_rows.proofs.moments.moment_text.Goals as goal

pub returns : goal.returns
unfolding moment_text
returns c =
    c.in_ok-append.ensures.ok
    ∙ ap₂ (λ (date clock : List ℕ). date ++ clock) (c.in_ok-text.ensures (c.args.moment / 86400) (omega (arith, ints))) c.clock_bytes.ensures
