use Rattle.std.proofs.Common.{refl}
use Rattle.std.specs.Fmt.{decimal}
use Rattle.hls_manifest.proofs.line_reading.read_target.Goals as goal

-- A line that begins in another way gives no target.
pub returns-in_err-behind-clause-none : goal.returns-in_err-behind-clause-none
returns-in_err-behind-clause-none c =
    λ _ n is. c.in_err-behind.ensures.none refl (decimal n) is.text
