-- The least target of durations.
use Rattle.std.proofs.Common.{◌≡◌, ℕ, ◌≤◌, max, List, [], ◌∷◌, ◌++◌, All, fold, arith}
use Rattle.std.proofs.lemmas.List.Elements.{All-cons, All-head, All-nil, All-tail}
use Rattle.std.proofs.lemmas.List.Sums.{fold-append}
use Rattle.hls_manifest.specs.Laws.{IsLeastTarget}
use Rattle.hls_manifest.specs.Entries.{least_target}

-- the greatest of numbers is no less than the one that it began with
fold-max-from : (a : ℕ) (xs : List ℕ) → a ≤ fold max a xs
fold-max-from a [] = omega arith
fold-max-from a (x ∷ xs) = omega (arith, fold-max-from (max a x) xs)

-- nor less than any of them
fold-max-all : (a : ℕ) (xs : List ℕ) → All (λ n. n ≤ fold max a xs) xs
fold-max-all a [] = All-nil (λ n. n ≤ a)
fold-max-all a (x ∷ xs) =
    let first : x ≤ fold max (max a x) xs = omega (arith, fold-max-from (max a x) xs) in
    All-cons (λ n. n ≤ fold max (max a x) xs) x xs first (fold-max-all (max a x) xs)

-- and it exceeds no bound that none of them exceeds
fold-max-least : (a bound : ℕ) (xs : List ℕ) → a ≤ bound → All (λ n. n ≤ bound) xs
    → fold max a xs ≤ bound
fold-max-least a bound [] first all = first
fold-max-least a bound (x ∷ xs) first all =
    let head : x ≤ bound = All-head (λ n. n ≤ bound) x xs all in
    fold-max-least (max a x) bound xs (omega arith) (All-tail (λ n. n ≤ bound) x xs all)

-- the least target serves, and no lesser one does
pub targets_least : (numbers : List ℕ) → IsLeastTarget numbers (least_target numbers)
targets_least numbers = record {
  serves = record { some = fold-max-from 1 numbers; most = fold-max-all 1 numbers };
  lowest = λ target serves. fold-max-least 1 target numbers serves.some serves.most;
}

-- the least target of one number more
pub least_target-push : (numbers : List ℕ) (n : ℕ)
    → least_target (numbers ++ n ∷ []) ≡ max (least_target numbers) n
least_target-push numbers n = fold-append max 1 numbers (n ∷ [])
