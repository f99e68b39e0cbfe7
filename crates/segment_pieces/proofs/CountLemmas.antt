-- Samples counted by a closed form.
use Rattle.std.proofs.Common.{◌≡◌, ◌↔◌, ◌≤ℤ◌, ℕ, ℤ, pos, ◌+◌, ◌*◌, ◌/◌, ◌<◌, ◌≤◌, arith, le-div_iff_mul-le, lt_of_mul-lt-mul_right}
use Rattle.std.specs.Int.{div_ceil}
use Rattle.std.proofs.lemmas.Grind.{div_ceil_times}
use Rattle.std.proofs.lemmas.Int.{ints}
use Rattle.std.proofs.Math.Nat.{mul_comm, mul_assoc, mul-le-mul_right}
use Rattle.segment_pieces.specs.Samples.{sample_nanos}
use Rattle.segment_pieces.specs.declared.rate.Rate.{Rate}
use Rattle.segment_pieces.proofs.RateLemmas.{numbers_of}

-- a quotient that is rounded up is at most h where h times the divisor is no less
ceil_from : (a n h : ℕ) → 0 < n → a ≤ h * n → div_ceil a n ≤ h
ceil_from a n h some below =
    let most : div_ceil a n * n < (h + 1) * n = omega (arith, (div_ceil_times a n some).1) in
    let less : div_ceil a n < h + 1 = lt_of_mul-lt-mul_right n most in
    omega arith

-- and only there
ceil_to : (a n h : ℕ) → 0 < n → div_ceil a n ≤ h → a ≤ h * n
ceil_to a n h some below =
    omega (arith, (div_ceil_times a n some).0, mul-le-mul_right n below)

-- so many samples stand at most h nanoseconds after the first one
pub counted : (n span h k : ℕ) → 0 < span → 0 < n
    → (k < n * h / span + 1) ↔ (div_ceil (k * span) n ≤ h)
counted n span h k some_span some = (
  λ below.
      let product : k * span ≤ n * h =
      (le-div_iff_mul-le {k = span} {x = k} {y = n * h} some_span).0 (omega arith) in
      ceil_from (k * span) n h some (omega (arith, mul_comm n h)),
  λ below.
      let product : k * span ≤ h * n = ceil_to (k * span) n h some below in
      let quotient : k ≤ n * h / span =
      (le-div_iff_mul-le {k = span} {x = k} {y = n * h} some_span).1
      (omega (arith, mul_comm n h)) in
      omega arith,
)

-- the same of the samples of a rate
counted_of : (rate : Rate) (h k : ℕ)
    → (k < rate.numerator * h / (rate.denominator * 1000000000) + 1)
    ↔ (pos (sample_nanos rate k) ≤ℤ pos h)
counted_of rate h k =
    let bounds = numbers_of rate in
    let some : 0 < rate.denominator * 1000000000 = omega (arith, bounds.some_denominator) in
    let form = counted rate.numerator (rate.denominator * 1000000000) h k some
    (omega (arith, bounds.some_numerator)) in
    let same : k * rate.denominator * 1000000000 ≡ k * (rate.denominator * 1000000000) =
    mul_assoc k rate.denominator 1000000000 in
    let turned = rw (← same) at form in
    (λ below. omega (arith, ints, turned.0 below), λ below. turned.1 (omega (arith, ints)))

-- with names for its numbers
pub counted_nanos : (rate : Rate) (n d h k : ℕ) (z : ℤ) → n ≡ rate.numerator → d ≡ rate.denominator
    → z ≡ pos h
    → (k < n * h / (d * 1000000000) + 1) ↔ (pos (sample_nanos rate k) ≤ℤ z)
counted_nanos rate n d h k z same_n same_d same = rw (same_n, same_d, same) (counted_of rate h k)
