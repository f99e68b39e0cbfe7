-- The rate of two numbers.
use Rattle.std.proofs.Common.{◌≡◌, ◌≤◌, ℕ, Bool, true, false, Some, refl, sym, ap, ◌∙◌, arith}
use Rattle.std.proofs.Props.{props}
use Rattle.std.proofs.lemmas.Bool.{false≢true}
use Rattle.std.proofs.lemmas.Bool.Decides.{nat_tests}
use Rattle.segment_pieces.specs.Fractions.{is_rate}
use Rattle.segment_pieces.specs.Rates.{rate_if, rate_with}
use Rattle.segment_pieces.specs.declared.rate.Rate.{Rate}

-- a test that was passed was passed in one way
one_way : (test : Bool) → IsProp (test ≡ true)
one_way test = Prim.hlevel props

-- a rate is known by its numbers
same_rate : (n d : ℕ) (one other : is_rate n d ≡ true)
    → (let a : Rate = record { numerator = n; denominator = d; in_range = one } in a)
    ≡ record { numerator = n; denominator = d; in_range = other }
same_rate n d one other =
    ap (λ (passed : is_rate n d ≡ true).
    (let a : Rate = record { numerator = n; denominator = d; in_range = passed } in a))
    (one_way (is_rate n d) one other)

-- whatever the test gave
rate_if_is : (n d : ℕ) (given : is_rate n d ≡ true) (passed : Bool) (e : is_rate n d ≡ passed)
    → Some (let a : Rate = record { numerator = n; denominator = d; in_range = given } in a) ≡
    rate_if n d passed e
rate_if_is n d given true e = ap Some (same_rate n d given e)
rate_if_is n d given false e = absurd (false≢true (sym e ∙ given))

-- two numbers that pass the test have a rate
pub rate_is : (n d : ℕ) (given : is_rate n d ≡ true)
    → Some (let a : Rate = record { numerator = n; denominator = d; in_range = given } in a) ≡
    rate_with n d
rate_is n d given = rate_if_is n d given (is_rate n d) refl

-- what the test tells of a rate's numbers
pub record HasNumbers (rate : Rate) : Type 0 where
  pub some_numerator : 1 ≤ rate.numerator
  pub few_numerator : rate.numerator ≤ 1_000_000_000
  pub some_denominator : 1 ≤ rate.denominator
  pub few_denominator : rate.denominator ≤ 1_000_000_000

-- the two tests, number by number
numbers_by : (rate : Rate) → is_rate rate.numerator rate.denominator ≡ true → HasNumbers rate
numbers_by rate passed = record {
  some_numerator = grind (arith, nat_tests);
  few_numerator = grind (arith, nat_tests);
  some_denominator = grind (arith, nat_tests);
  few_denominator = grind (arith, nat_tests);
}

-- the numbers of each rate lie in their range
pub numbers_of : (rate : Rate) → HasNumbers rate
numbers_of rate = numbers_by rate rate.in_range
