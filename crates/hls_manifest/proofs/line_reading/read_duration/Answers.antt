use Rattle.std.proofs.Common.{◌%◌, ◌/◌, ◌^◌, refl, arith}
use Rattle.hls_manifest.specs.Playlists.{last_digits}
use Rattle.hls_manifest.proofs.TimingLemmas.{duration_digits, duration_fraction, duration_parts, duration_seconds}
use Rattle.hls_manifest.proofs.line_reading.read_duration.Goals as goal

-- There are ten bytes at least.
pub returns-then-text-le-NANO_DIGITS-clause-none : goal.returns-then-text-le-NANO_DIGITS-clause-none
returns-then-text-le-NANO_DIGITS-clause-none c = λ _ nanos _ is.
    let parts = duration_parts c.args.text.now nanos is in
    absurd (omega (arith, parts.long))

-- The first ones are a number.
pub returns-in_err-seconds-clause-none : goal.returns-in_err-seconds-clause-none
returns-in_err-seconds-clause-none c = λ _ nanos fits is.
    c.in_err-seconds.ensures.none refl (nanos / 10 ^ 9)
    (duration_seconds c.args.text.now c.split_at.result.0.now nanos c.split_at.ensures.front fits
    is)

-- A point stands behind them.
pub returns-in_err-behind-clause-none : goal.returns-in_err-behind-clause-none
returns-in_err-behind-clause-none c = λ _ nanos _ is.
    c.in_err-behind.ensures.none refl (last_digits 9 (nanos % 10 ^ 9))
    (duration_fraction c.args.text.now c.split_at.result.1.now nanos c.split_at.ensures.back is)

-- The others are digits.
pub returns-in_err-nanos-clause-none : goal.returns-in_err-nanos-clause-none
returns-in_err-nanos-clause-none c = λ _ nanos _ is.
    c.in_err-nanos.ensures.none refl (nanos % 10 ^ 9)
    (duration_digits c.args.text.now c.split_at.result.1.now c.in_ok-behind.field-0.now nanos
    c.split_at.ensures.back c.in_ok-behind.ensures.found is)
