-- Pieces that stand behind those of before.
use Rattle.std.proofs.Common.{◌≡◌, ◌≤◌, ◌+◌, ℕ, List, ◌++◌, length, take, arith, rules}
use Rattle.std.proofs.lemmas.List.{places, same_lists}
use Rattle.disk_trait.specs.Calls.{overwritten}

pub written_front : (at : ℕ) (piece bytes : List ℕ) → at + length piece ≤ length bytes
    → take (at + length piece) (overwritten at piece bytes) ≡ take at bytes ++ piece
written_front at piece bytes fits = same_lists _ _ (search (rules, places)) (λ k d h. grind (arith, places))
