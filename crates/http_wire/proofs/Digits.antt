-- A number of at most nineteen digits fits 64 bits.
use Rattle.std.proofs.Common.{◌≡◌, ℕ, ◌+◌, ◌-◌, ◌*◌, ◌^◌, ◌<◌, ◌≤◌, true, arith, add-one, refl, List, length, take, get_or}
use Rattle.std.proofs.Math.Nat.{pow-suc, pow-le-pow_right}
use Rattle.std.specs.Char.{is_ascii_digit, digit_value}
use Rattle.std.specs.List.{list_all}
use Rattle.std.specs.Str.Parse.{digits_value}
use Rattle.std.proofs.lemmas.Bool.Decides.{nat_tests}
use Rattle.std.proofs.lemmas.Int.Digits.{digits_value_more}
use Rattle.std.proofs.lemmas.List.Folds.{list_all_more}

-- one more digit
pub below_more : (i value digit : ℕ) → value < 10 ^ i → digit ≤ 9 → value * 10 + digit < 10 ^ (i + 1)
below_more i value digit below small = rw (add-one, pow-suc) (omega arith)

-- and with fewer than nineteen before it, it fits
pub digits_fit : (i value digit : ℕ) → i < 19 → value < 10 ^ i → digit ≤ 9 → value * 10 + digit < 2 ^ 64
digits_fit i value digit few below small =
    let ten : 0 < 10 = omega arith in
    let most : i + 1 ≤ 19 = omega arith in
    omega (arith, below_more i value digit below small, pow-le-pow_right {n = 10} ten {i = i + 1} {j = 19} most)

-- the value of a digit
pub digit_value_is : (b : ℕ) → is_ascii_digit b ≡ true → digit_value b ≡ b - 48
digit_value_is b digit = grind (arith, nat_tests)

-- and it is at most nine
pub digit_small : (b : ℕ) → is_ascii_digit b ≡ true → b - 48 ≤ 9
digit_small b digit = grind (arith, nat_tests)

-- what the digits write with one more
pub value_more : (text : List ℕ) (i value digit : ℕ) → i < length text → is_ascii_digit (get_or text i 0) ≡ true
    → digit ≡ get_or text i 0 - 48 → value ≡ digits_value 10 (take i text)
    → value * 10 + digit ≡ digits_value 10 (take (i + 1) text)
value_more text i value digit inside test is so_far =
    let more = digits_value_more 10 text i inside in
    let last = digit_value_is (get_or text i 0) test in
    cc

-- they are all digits
pub digits_more : (text : List ℕ) (i : ℕ) → i < length text → is_ascii_digit (get_or text i 0) ≡ true
    → list_all is_ascii_digit (take i text) ≡ true → list_all is_ascii_digit (take (i + 1) text) ≡ true
digits_more text i inside test so_far = rw (list_all_more is_ascii_digit text i 0 inside, so_far, test) refl
