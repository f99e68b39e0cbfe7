use Rattle.std.proofs.Common.{◌++◌, refl}
use Rattle.std.specs.Prelude.{codes}
use Rattle.std.proofs.lemmas.Option.{IfSome_then}
use Rattle.hls_manifest.specs.Playlists.{duration_text}
use Rattle.hls_manifest.proofs.TimingLemmas.{timing_found, timing_front, timing_rest, timing_text}
use Rattle.hls_manifest.proofs.line_reading.read_timing.Goals as goal

-- A line that begins in another way gives no duration.
pub returns-in_err-behind-clause-none : goal.returns-in_err-behind-clause-none
returns-in_err-behind-clause-none c = λ _ nanos _ is.
    c.in_err-behind.ensures.none refl (duration_text nanos ++ codes ",")
    (timing_front c.args.line.now nanos is)

-- And so does one that ends in another way.
pub returns-in_err-before-clause-none : goal.returns-in_err-before-clause-none
returns-in_err-before-clause-none c = λ _ nanos _ is.
    c.in_err-before.ensures.none refl (duration_text nanos)
    (timing_rest c.args.line.now c.in_ok-behind.field-0.now nanos c.in_ok-behind.ensures.found is)

-- What stands between is the duration.
pub returns-clause-found : goal.returns-clause-found
returns-clause-found c = IfSome_then c.read_duration.result c.read_duration.ensures.found
    (λ nanos. timing_found c.args.line.now c.in_ok-behind.field-0.now c.in_ok-before.field-0.now
    nanos c.in_ok-behind.ensures.found c.in_ok-before.ensures.found)

pub returns-clause-none : goal.returns-clause-none
returns-clause-none c = λ none nanos fits is.
    c.read_duration.ensures.none none nanos fits
    (timing_text c.args.line.now c.in_ok-behind.field-0.now c.in_ok-before.field-0.now nanos
    c.in_ok-behind.ensures.found c.in_ok-before.ensures.found is)
