-- A sweep removes an object exactly where one is due.
use Rattle.std.proofs.Common.{◌≡◌, ℕ, suc, List, [], ◌∷◌, length, refl, sym, arith}
use Rattle.std.specs.Prelude.{is_some, nat_lt, take}
use Rattle.std.proofs.lemmas.Bool.{lt-ltb}
use Rattle.media_rows.specs.Objects.{sweep_size}
use Rattle.shared_tree.specs.Pairs.{first}

pub some_swept : {X : Type 0} (due : List X) → is_some (first due) ≡ nat_lt 0 (length (take sweep_size due))
some_swept [] = refl
some_swept (x ∷ xs) = sym (lt-ltb 0 (suc (length (take 15 xs))) (omega arith))
