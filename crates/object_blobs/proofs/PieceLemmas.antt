-- A piece of a part of an image.
use Rattle.std.proofs.Common.{◌≡◌, ◌≤◌, ◌+◌, ℕ, List, length, arith, rules}
use Rattle.std.proofs.lemmas.List.{places, same_lists}
use Rattle.disk_trait.specs.Calls.{bytes_at, overwritten}

-- what is written within a part of an image is written into the part
pub part-overwritten : (image piece : List ℕ) (from size at : ℕ) → from + size ≤ length image → at + length piece ≤ size
    → bytes_at (overwritten (from + at) piece image) from size ≡ overwritten at piece (bytes_at image from size)
part-overwritten image piece from size at fits inside = same_lists _ _ (search (rules, places)) (λ k d h. grind (arith, places))
