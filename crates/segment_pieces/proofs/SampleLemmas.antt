-- Where samples stand, and how many of them stand within a part.
use Rattle.std.proofs.Common.{◌≡◌, ◌↔◌, ◌<◌, ◌≤◌, ◌+◌, ◌-◌, ℕ, zero, suc, min, ℤ, pos, negsuc, ◌+ℤ◌, ◌-ℤ◌, ◌≤ℤ◌, ◌<ℤ◌, Bool, true, false, [], ◌∷◌, ◌++◌, length, Option, Some, None, IfSome, refl, arith, length-append, ⊎_elim}
use Rattle.std.specs.Prelude.{filter, is_some}
use Rattle.std.specs.Bool.{Decides}
use Rattle.std.specs.Int.{int_div_euclid}
use Rattle.std.proofs.lemmas.Bool.{and_parts, and_from, cases_lt, false≢true}
use Rattle.std.proofs.lemmas.Int.{by_lt_z, ints}
use Rattle.std.proofs.lemmas.List.Elements.{filter-append}
use Rattle.time_range.specs.Points.{From, UpTo, Has, instant, high_of, low_of}
use Rattle.time_range.specs.declared.ranges.Span.{Span}
use Rattle.media_rows.specs.Lists.{numbers_below}
use Rattle.media_rows.specs.Ranges.{has_both_ends, reaches_down, reaches_up}
use Rattle.segment_pieces.specs.Samples.{StandBefore, count_within, has_point, sample_point}
use Rattle.segment_pieces.specs.declared.rate.Rate.{Rate}

-- ---- halves of points

-- an instant is at most a point where it is at most half of it, rounded down
pub at_most_half : (n p : ℤ) → (instant n ≤ℤ p) ↔ (n ≤ℤ int_div_euclid p (pos 2))
at_most_half n (pos a) = (λ h. omega (arith, ints), λ h. omega (arith, ints))
at_most_half n (negsuc a) = (λ h. omega (arith, ints), λ h. omega (arith, ints))

-- twice the half is the point or the one before it
pub half_bounds : (p : ℤ) → (instant (int_div_euclid p (pos 2)) ≤ℤ p)
    × (p ≤ℤ (instant (int_div_euclid p (pos 2)) +ℤ pos 1))
half_bounds (pos a) = (omega (arith, ints), omega (arith, ints))
half_bounds (negsuc a) = (omega (arith, ints), omega (arith, ints))

-- so counting up to the half counts up to the point
pub counted_to_point : (first point most : ℤ) (nanos : ℕ → ℤ) (count : ℕ)
    → most ≡ int_div_euclid point (pos 2) -ℤ first
    → ((k : ℕ) → (k < count) ↔ (nanos k ≤ℤ most))
    → (k : ℕ) → (k < count) ↔ (instant (first +ℤ nanos k) ≤ℤ point)
counted_to_point first point most nanos count same counts k =
    let half = at_most_half (first +ℤ nanos k) point in (
      λ below. half.1 (let least = (counts k).0 below in omega (arith, ints)),
      λ least. (counts k).1 (let below = half.0 least in omega (arith, ints)),
    )

-- ---- the test on a point

-- a low end reaches down to a point that is from it on
down_decides : (low : Option ℤ) (p : ℤ) → Decides (reaches_down low (Some p)) (From low p)
down_decides None p = (λ e. tt, λ h. refl)
down_decides (Some a) p = (λ e. grind (arith, ints), λ h. grind (arith, ints))

-- and a high end up to one that is up to it
up_decides : (high : Option ℤ) (p : ℤ) → Decides (reaches_up high (Some p)) (UpTo high p)
up_decides None p = (λ e. tt, λ h. refl)
up_decides (Some a) p = (λ e. grind (arith, ints), λ h. grind (arith, ints))

-- the test on a point says whether a range has it
pub point_decides : (range : Option Span) (p : ℤ) → Decides (has_point range p) (Has range p)
point_decides None p = (λ e. absurd (false≢true e), λ h. absurd h)
point_decides (Some s) p =
    let down = down_decides s.low p in
    let up = up_decides s.high p in (
      λ e. let parts = and_parts (reaches_down s.low (Some p)) (reaches_up s.high (Some p)) e in
          (down.0 parts.0, up.0 parts.1),
      λ h. and_from (reaches_down s.low (Some p)) (reaches_up s.high (Some p)) (down.1 h.0)
          (up.1 h.1),
    )

-- ---- counts

-- one that is not between changes nothing
out : (before until n : ℕ) → (before ≤ n → n < until → ⊥) → (count : ℕ)
    → count ≡ min until n - before → count + 0 ≡ min until (suc n) - before
out before until n not_between count so_far = ⊎_elim
    (λ below. omega arith)
    (λ from. ⊎_elim (λ high. absurd (not_between from high)) (λ past. omega arith)
    (cases_lt n until))
    (cases_lt n before)

-- one number more
one_more : (test : ℕ → Bool) (before until n : ℕ) (passes : Bool) → test n ≡ passes
    → Decides passes ((before ≤ n) × (n < until))
    → length (filter test (numbers_below n)) ≡ min until n - before
    → length (filter test (numbers_below n ++ n ∷ [])) ≡ min until (suc n) - before
one_more test before until n true e tells so_far =
    let here = tells.0 refl in
    let low = here.0 in
    let high = here.1 in
    rw (
      filter-append test (numbers_below n) (n ∷ []),
      length-append (filter test (numbers_below n)) (filter test (n ∷ [])),
      e,
    ) (omega arith)
one_more test before until n false e tells so_far =
    rw (
      filter-append test (numbers_below n) (n ∷ []),
      length-append (filter test (numbers_below n)) (filter test (n ∷ [])),
      e,
    )
    (out before until n (λ low high. false≢true (tells.1 (low, high)))
    (length (filter test (numbers_below n))) so_far)

-- of the numbers below one, those from a second on and below a third
counted_between : (test : ℕ → Bool) (before until : ℕ)
    → ((k : ℕ) → Decides (test k) ((before ≤ k) × (k < until)))
    → (n : ℕ) → length (filter test (numbers_below n)) ≡ min until n - before
unfolding numbers_below
counted_between test before until tells zero = omega arith
counted_between test before until tells (suc n) =
    one_more test before until n (test n) refl (tells n) (counted_between test before until tells n)

-- ---- samples of a part

-- those up to the point before a part stand before it
pub stand_before_from : (rate : Rate) (range part : Option Span) (low : ℤ) (count : ℕ)
    → low_of part ≡ Some low
    → ((k : ℕ) → (k < count) ↔ (sample_point rate range k ≤ℤ (low -ℤ pos 1)))
    → StandBefore rate range part count
stand_before_from rate range part low count begins counts k =
    rw begins (
      λ below. (let most = (counts k).0 below in omega (arith, ints)),
      λ before. (counts k).1 (omega (arith, ints)),
    )

-- orders turned round
from_not : {m n : ℕ} → (m < n → ⊥) → n ≤ m
from_not {m} {n} not_below = ⊎_elim (λ below. absurd (not_below below)) (λ least. least)
    (cases_lt m n)

-- the same of whole numbers
not_before : (a p : ℤ) → (p <ℤ a → ⊥) → a ≤ℤ p
not_before a p not_less = by_lt_z p a (λ less. absurd (not_less less)) (λ least. least)

-- where a point lies between two ends, by how many numbers stand before the one and up to the other
between_ends : (point : ℤ) (low high : Option ℤ) (before until k : ℕ) → is_some low ≡ true
    → is_some high ≡ true
    → (k < before) ↔ IfSome low (λ a. point <ℤ a) → (k < until) ↔ IfSome high (λ b. point ≤ℤ b)
    → {test : Bool} → Decides test (From low point × UpTo high point)
    → Decides test ((before ≤ k) × (k < until))
between_ends point None high before until k some some_high before_is until_is tells =
    absurd (false≢true some)
between_ends point (Some a) None before until k some some_high before_is until_is tells =
    absurd (false≢true some_high)
between_ends point (Some a) (Some b) before until k some some_high before_is until_is tells = (
  λ e. let has = tells.0 e in (
    from_not
        (λ below. let least = has.0 in let less = before_is.0 below in
        absurd (omega (arith, ints))),
    until_is.1 has.1,
  ),
  λ h. tells.1 (
    not_before a point
        (λ less. let below = before_is.1 less in let least = h.0 in absurd (omega arith)),
    until_is.0 h.1,
  ),
)

-- a part that begins and ends at points
part_decides : (rate : Rate) (range part : Option Span) (before until k : ℕ)
    → has_both_ends part ≡ true → StandBefore rate range part before
    → ((j : ℕ) → (j < until) ↔ IfSome (high_of part) (λ high. sample_point rate range j ≤ℤ high))
    → Decides (has_point part (sample_point rate range k)) ((before ≤ k) × (k < until))
part_decides rate range None before until k bounded before_is until_is = absurd (false≢true bounded)
part_decides rate range (Some s) before until k bounded before_is until_is =
    let ends = and_parts (is_some s.low) (is_some s.high) bounded in
    between_ends (sample_point rate range k) s.low s.high before until k ends.0 ends.1 (before_is k)
    (until_is k)
    (point_decides (Some s) (sample_point rate range k))

-- how many of the first samples stand within a part
pub counted_within : (rate : Rate) (range part : Option Span) (before until count : ℕ)
    → has_both_ends part ≡ true → StandBefore rate range part before
    → ((j : ℕ) → (j < until) ↔ IfSome (high_of part) (λ high. sample_point rate range j ≤ℤ high))
    → count_within rate range part count ≡ min until count - before
counted_within rate range part before until count bounded before_is until_is =
    counted_between (λ k. has_point part (sample_point rate range k)) before until
    (λ k. part_decides rate range part before until k bounded before_is until_is) count
