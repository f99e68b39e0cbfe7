-- The order of a snapshot's rows passes on.
use Rattle.std.proofs.Common.{◌≡◌, ℕ, ℤ, Bool, true, false, ◌&&◌, ◌||◌, Option, Some, None, nat_lt, refl, arith}
use Rattle.std.specs.Prelude.{◌==◌}
use Rattle.std.proofs.lemmas.Bool.{false≢true}
use Rattle.std.proofs.lemmas.Bool.Decides.{nat_tests}
use Rattle.std.proofs.lemmas.Int.{ints}
use Rattle.media_rows.specs.declared.row.Row.{Row}
use Rattle.media_rows.specs.Segments.{low_before}
use Rattle.media_rows.specs.Snapshot.{kind_number, place_number, place_point, row_before}

by_points : (a b c : Option ℤ) → low_before a b ≡ true → low_before b c ≡ true → low_before a c ≡ true
by_points a b None before then = absurd (false≢true then)
by_points None b (Some z) before then = refl
by_points (Some x) None (Some z) before then = absurd (false≢true before)
by_points (Some x) (Some y) (Some z) before then = grind (arith, ints)

-- by a number, and behind it by another order
by_numbers : (a b c : ℕ) (p q r : Bool) → (p ≡ true → q ≡ true → r ≡ true) → (nat_lt a b || ((a == b) && p)) ≡ true → (nat_lt b c || ((b == c) && q)) ≡ true
    → (nat_lt a c || ((a == c) && r)) ≡ true
by_numbers a b c true true true then first second = grind (arith, nat_tests)
by_numbers a b c true true false then first second = absurd (false≢true (then refl refl))
by_numbers a b c true false r then first second = grind (arith, nat_tests)
by_numbers a b c false q r then first second = grind (arith, nat_tests)

pub rows_pass : (a b c : Row) → row_before a b ≡ true → row_before b c ≡ true → row_before a c ≡ true
rows_pass a b c =
    by_numbers (kind_number a) (kind_number b) (kind_number c) _ _ _
    (by_numbers (place_number a) (place_number b) (place_number c) _ _ _ (by_points (place_point a) (place_point b) (place_point c)))
