-- Each part of the response is computed.
use Rattle.std.proofs.Common.{refl}
use Rattle.std.specs.Fmt.{digits}
use Rattle.tams_http.proofs.constants.unavailable.Goals as goal

pub returns : goal.returns
unfolding digits
returns c = refl
