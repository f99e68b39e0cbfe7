-- Telling lasts while a u64 counts the moments of a clock over a list.
use Rattle.std.proofs.Common.{◌≡◌, ◌<◌, ◌+◌, ◌-◌, ◌^◌, ℕ, zero, suc, List, length, Option, Some, None, true, refl, arith}
use Rattle.std.specs.Prelude.{SomeIff, is_some, unwrap_or}
use Rattle.std.proofs.lemmas.List.{length_push}
use Rattle.site_edge.specs.ListClock.{first_moments, moment_after}

length-first_moments : (moments : List ℕ) (n : ℕ) → length (first_moments moments n) ≡ n
length-first_moments moments zero = refl
length-first_moments moments (suc n) =
    omega (arith, length_push (first_moments moments n) (moment_after moments n), length-first_moments moments n)

pub lasts : (moments : List ℕ) (count next : Option ℕ)
    → SomeIff next (unwrap_or count 18446744073709551615 + 1 < 18446744073709551616) (unwrap_or count 18446744073709551615 + 1)
    → is_some count ≡ true → length (first_moments moments (unwrap_or count 0)) + 1 < 18446744073709551616 → is_some next ≡ true
lasts moments None next added tells few = cc
lasts moments (Some n) (Some m) added tells few = refl
lasts moments (Some n) None added tells few = absurd (added (omega (arith, few, length-first_moments moments n)))
