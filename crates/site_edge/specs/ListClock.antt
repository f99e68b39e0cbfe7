-- What a clock means that gives the moments of a list.
use Rattle.std.specs.Prelude.{◌+◌, ◌-◌, ◌^◌, ℕ, zero, suc, min, List, [], ◌∷◌, ◌++◌, length, slice_index, Bool, Option, Some, None, is_some, nat_lt, unwrap_or, if◌then◌else◌}

-- a clock over a list: its moments, and how many it gave, None once a u64 no longer counts them
pub record Listing : Type 0 where
  pub moments : List ℕ
  pub count : Option ℕ

-- a clock over this list that gave no moment yet
abbrev pub not_begun : List ℕ → Listing
not_begun moments = record { moments = moments; count = Some 0 }

-- The moment that comes after n others: the one at its place in the list, the last one again and
-- again behind its end, and 0 where the list is empty.
abbrev pub moment_after : List ℕ → ℕ → ℕ
moment_after moments n = slice_index moments (min n (length moments - 1))

-- the first n moments of a clock over this list
abbrev pub first_moments : List ℕ → ℕ → List ℕ
first_moments moments zero = []
first_moments moments (suc n) = first_moments moments n ++ moment_after moments n ∷ []

-- the count after one more moment, None once a u64 no longer counts them
abbrev pub count_after : Option ℕ → Option ℕ
count_after None = None
count_after (Some n) = if nat_lt (n + 1) (2 ^ 64) then Some (n + 1) else None

-- whether a clock over a list tells the moments that it gave
abbrev pub listing_tells : Listing → Bool
listing_tells c = is_some c.count

-- the moments that it gave
abbrev pub listing_given : Listing → List ℕ
listing_given c = first_moments c.moments (unwrap_or c.count 0)
