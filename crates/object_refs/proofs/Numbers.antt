-- Numbers of 128 bits as keys of versions.
use Rattle.std.proofs.Common.{◌≡◌, ℕ, ◌<◌, ◌≤◌, ◌<ℤ◌, nat_lt, ◌==◌, true, false, arith}
use Rattle.std.proofs.lemmas.Int.{ints}
use Rattle.std.proofs.lemmas.Bool.Decides.{nat_tests}
use Rattle.media_rows.specs.Views.{id_key}

pub lower_key : (a b : ℕ) → id_key a <ℤ id_key b → a < b
lower_key a b lt = omega (arith, ints, lt)

pub key_lower : (a b : ℕ) → a < b → id_key a <ℤ id_key b
key_lower a b lt = omega (arith, ints, lt)

pub same_number : (a b : ℕ) → id_key a ≡ id_key b → a ≡ b
same_number a b e = omega (arith, ints, e)

pub lt_true : (a b : ℕ) → a < b → nat_lt a b ≡ true
lt_true a b lt = grind (arith, nat_tests)

pub lt_false : (a b : ℕ) → b ≤ a → nat_lt a b ≡ false
lt_false a b le = grind (arith, nat_tests)

pub eq_true : (a b : ℕ) → a ≡ b → (a == b) ≡ true
eq_true a b e = grind (arith, nat_tests)

pub below_other : (a b : ℕ) → a < b → (a == b) ≡ false
below_other a b lt = grind (arith, nat_tests)

pub above_other : (a b : ℕ) → b < a → (a == b) ≡ false
above_other a b lt = grind (arith, nat_tests)
