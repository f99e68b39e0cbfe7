-- Which two numbers are those of a rate. Our own profile of the Time-addressable Media Store.
use Rattle.std.specs.Prelude.{ℕ, Bool, ◌&&◌, nat_le}

-- the greatest number of a rate
abbrev pub most_of_rate : ℕ
most_of_rate = 1_000_000_000

-- a number of a rate: from 1 to the greatest
abbrev pub is_of_rate : ℕ → Bool
is_of_rate number = nat_le 1 number && nat_le number most_of_rate

-- both numbers are such
abbrev pub is_rate : ℕ → ℕ → Bool
is_rate numerator denominator = is_of_rate numerator && is_of_rate denominator
