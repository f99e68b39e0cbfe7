-- The tests on numbers and ends say what they should.
use Rattle.std.proofs.Common.{◌≡◌, ℤ, neg_ℤ, ◌≤ℤ◌, int_le, true, Option, Some, None, IfSome, refl, arith}
use Rattle.std.proofs.lemmas.Bool.{and_parts, and_from}
use Rattle.std.proofs.lemmas.Int.{ints}
use Rattle.time_range.specs.Points.{limit, IsNanos, is_nanos, IsLow, IsHigh, From, UpTo}
use Rattle.time_range.specs.Ends.{low_point, high_point, are_ordered, IsEndWithin}
use Rattle.time_range.specs.declared.ends.End.{End}
use Rattle.time_range.specs.declared.ends.End.TheVariants.{Unbounded, Including, Excluding}

-- ---- numbers

pub int_le-order : (a b : ℤ) → int_le a b ≡ true → a ≤ℤ b
int_le-order a b e = grind (arith, ints)

pub order-int_le : (a b : ℤ) → a ≤ℤ b → int_le a b ≡ true
order-int_le a b h = grind (arith, ints)

-- nanoseconds that pass the test are within the limit
pub nanos_from_test : (z : ℤ) → is_nanos z ≡ true → IsNanos z
nanos_from_test z e =
    let p = and_parts (int_le (neg_ℤ limit) z) (int_le z limit) e in
    record { least = int_le-order _ _ p.0; most = int_le-order _ _ p.1 }

-- and those within the limit pass it
pub test_from_nanos : (z : ℤ) → IsNanos z → is_nanos z ≡ true
test_from_nanos z h = and_from (int_le (neg_ℤ limit) z) (int_le z limit) (order-int_le _ _ h.least) (order-int_le _ _ h.most)

-- ---- ends

-- ends that pass the test are in order
pub ordered_from_test : (low high : Option ℤ) → are_ordered low high ≡ true → IfSome low (λ a. IfSome high (λ b. a ≤ℤ b))
ordered_from_test None high e = tt
ordered_from_test (Some a) None e = tt
ordered_from_test (Some a) (Some b) e = int_le-order a b e

-- and those in order pass it
pub test_from_order : (low high : Option ℤ) → IfSome low (λ a. IfSome high (λ b. a ≤ℤ b)) → are_ordered low high ≡ true
test_from_order None high h = refl
test_from_order (Some a) None h = refl
test_from_order (Some a) (Some b) h = order-int_le a b h

-- ends that have a point between them are in order
pub order_from_point : (low high : Option ℤ) (p : ℤ) → From low p → UpTo high p → are_ordered low high ≡ true
order_from_point None high p from up = refl
order_from_point (Some a) None p from up = refl
order_from_point (Some a) (Some b) p from up = grind (arith, ints)

-- a timestamp within the limit begins a range within the limit
pub low_within : (e : End) → IsEndWithin e → IfSome (low_point e) IsLow
low_within Unbounded h = tt
low_within (Including t) h = record { least = omega (arith, ints, h.least); most = omega (arith, ints, h.most) }
low_within (Excluding t) h = record { least = omega (arith, ints, h.least); most = omega (arith, ints, h.most) }

-- and ends one
pub high_within : (e : End) → IsEndWithin e → IfSome (high_point e) IsHigh
high_within Unbounded h = tt
high_within (Including t) h = record { least = omega (arith, ints, h.least); most = omega (arith, ints, h.most) }
high_within (Excluding t) h = record { least = omega (arith, ints, h.least); most = omega (arith, ints, h.most) }
