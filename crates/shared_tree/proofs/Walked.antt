-- A walk over a node: what its sides append, and its own value between.
use Rattle.std.proofs.Common.{◌≡◌, ℕ, ℤ, suc, ◌+◌, ◌-◌, ◌≢◌, true, false, List, [], ◌∷◌, ◌++◌, length, take, reverse, filter, refl, ap, ◌∙◌, arith, append_assoc, length-append, int_lt}
use Rattle.std.proofs.lemmas.Int.{ints}
use Rattle.std.proofs.lemmas.List.{map-append, reverse-append, take_all}
use Rattle.std.proofs.Math.Seq.{take-append-add}
use Rattle.shared_tree.specs.declared.tree.Fork.{Fork}
use Rattle.shared_tree.specs.Pairs.{IsRising, is_from, is_up_to, values}
use Rattle.shared_tree.specs.Within.Walks.{Walked}
use Rattle.shared_tree.proofs.Forks.{AtFork, around_fork}
use Rattle.shared_tree.proofs.Rising.{upper_yes, upper_no, lower_yes, lower_no, from_is_upper, up_to_is_lower}

taken : {V : Type 0} (room : ℕ) (xs : List V) (y : V) (ys : List V) (k : ℕ) → room ≡ length xs + suc k → take room (xs ++ y ∷ ys) ≡ xs ++ y ∷ take k ys
taken room xs y ys k e = rw e (take-append-add xs (y ∷ ys) (suc k))

length-values : {V : Type 0} (ps : List (ℤ × V)) → length (values ps) ≡ length ps
length-values [] = refl
length-values (p ∷ ps) = ap suc (length-values ps)

-- one side was passed, and there is room for more: the node's value, and then the other side
pub walked_on : {V : Type 0} (a0 a1 a2 a3 : List V) (room r1 r3 : ℕ) (xs : List (ℤ × V)) (y : ℤ × V) (ys : List (ℤ × V)) (v : V) → Walked a0 a1 room r1 xs
    → r1 ≢ 0 → v ≡ y.1 → a2 ≡ a1 ++ v ∷ [] → Walked a2 a3 (r1 - 1) r3 ys → Walked a0 a3 room r3 (xs ++ y ∷ ys)
walked_on a0 a1 a2 a3 room r1 r3 xs y ys v first some same own second =
    let e : room ≡ length (values xs) + suc (r1 - 1) = omega (arith, first.rest, some, length-values xs) in
    let all : take room (values xs) ≡ values xs = take_all room (values xs) (omega (arith, e)) in
    let whole : a1 ≡ a0 ++ values xs = first.values ∙ ap (λ l. a0 ++ l) all in
    record {
      values =
          rw (second.values, own, same, whole, map-append (λ p. p.1) xs (y ∷ ys), taken room (values xs) y.1 (values ys) (r1 - 1) e)
          (append_assoc (a0 ++ values xs) (y.1 ∷ []) (take (r1 - 1) (values ys)) ∙ append_assoc a0 (values xs) (y.1 ∷ take (r1 - 1) (values ys)));
      rest = omega (arith, second.rest, first.rest, some, length-append xs (y ∷ ys));
    }

reversed : {X : Type 0} (l : List X) (m : X) (r : List X) → reverse (l ++ m ∷ r) ≡ reverse r ++ m ∷ reverse l
reversed l m r =
    reverse-append l (m ∷ r)
    ∙ ap (λ t. t ++ reverse l) (reverse-append (m ∷ []) r)
    ∙ append_assoc (reverse r) (m ∷ []) (reverse l)

module _ {V : Type 0} {d : List (ℤ × V) × ℕ} {f : Fork V} where
  -- what a walk passes below a node
  pub from_on_right : (at : AtFork d f) (rising : IsRising d.0) (key : ℤ) → int_lt f.key key ≡ true → filter (is_from key) d.0 ≡ filter (is_from key) f.right.0
  from_on_right at rising key lt =
      ap (filter (is_from key)) at.pairs ∙ upper_no {test = is_from key} _ _ _ (from_is_upper key) (around_fork at rising) (grind (arith, ints))

  pub from_on_left : (at : AtFork d f) (rising : IsRising d.0) (key : ℤ) → int_lt f.key key ≡ false
      → filter (is_from key) d.0 ≡ filter (is_from key) f.left.0 ++ (f.key, f.value.value) ∷ f.right.0
  from_on_left at rising key le =
      ap (filter (is_from key)) at.pairs ∙ upper_yes {test = is_from key} _ _ _ (from_is_upper key) (around_fork at rising) (grind (arith, ints))

  -- and backwards
  pub all_back : (at : AtFork d f) → reverse d.0 ≡ reverse f.right.0 ++ (f.key, f.value.value) ∷ reverse f.left.0
  all_back at = ap reverse at.pairs ∙ reversed f.left.0 (f.key, f.value.value) f.right.0

  pub up_to_on_left : (at : AtFork d f) (rising : IsRising d.0) (key : ℤ) → int_lt key f.key ≡ true
      → reverse (filter (is_up_to key) d.0) ≡ reverse (filter (is_up_to key) f.left.0)
  up_to_on_left at rising key lt =
      ap reverse (ap (filter (is_up_to key)) at.pairs ∙ lower_no {test = is_up_to key} _ _ _ (up_to_is_lower key) (around_fork at rising) (grind (arith, ints)))

  pub up_to_on_right : (at : AtFork d f) (rising : IsRising d.0) (key : ℤ) → int_lt key f.key ≡ false
      → reverse (filter (is_up_to key) d.0) ≡ reverse (filter (is_up_to key) f.right.0) ++ (f.key, f.value.value) ∷ reverse f.left.0
  up_to_on_right at rising key le =
      ap reverse (ap (filter (is_up_to key)) at.pairs ∙ lower_yes {test = is_up_to key} _ _ _ (up_to_is_lower key) (around_fork at rising)
      (grind (arith, ints)))
      ∙ reversed f.left.0 (f.key, f.value.value) (filter (is_up_to key) f.right.0)
