-- What a change below a node gives above it.
use Rattle.std.proofs.Common.{◌≡◌, ℕ, ℤ, ◌+◌, ◌^◌, ◌≤◌, ◌<◌, List, ◌∷◌, ◌++◌, length, sym, ap, ◌∙◌, arith, length-append, filter, Less, Greater, Equal, int_cmp}
use Rattle.std.proofs.lemmas.Cmp.{int_ranked}
use Rattle.shared_tree.specs.declared.tree.Fork.{Fork}
use Rattle.shared_tree.specs.Pairs.{IsRising, is_below, is_above, with_pair, without_key}
use Rattle.shared_tree.proofs.Forks.{AtFork, around_fork}
use Rattle.shared_tree.proofs.Rising.{put_left, put_right, put_at, cut_left, cut_right, cut_at, few_with, fewer}

module _ {V : Type 0} where
  -- a tree of which a side has a pair put, or a pair taken out, has few pairs
  pub room_with : (a b : List (ℤ × V)) (n : ℕ) (pair : ℤ × V) (ps : List (ℤ × V)) → n ≡ length ps + length b + 1 → n ≤ 2 ^ 128 → a ≡ with_pair pair ps
      → length a + length b < 2 ^ 130
  room_with a b n pair ps e most same = rw same (omega (arith, few_with pair ps, e, most))

  pub room_with_right : (a b : List (ℤ × V)) (n : ℕ) (pair : ℤ × V) (ps : List (ℤ × V)) → n ≡ length a + length ps + 1 → n ≤ 2 ^ 128 → b ≡ with_pair pair ps
      → length a + length b < 2 ^ 130
  room_with_right a b n pair ps e most same = rw same (omega (arith, few_with pair ps, e, most))

  few_without : (key : ℤ) (ps : List (ℤ × V)) → length (without_key key ps) ≤ length ps + length ps
  few_without key ps =
      rw (length-append (filter (is_below key) ps) (filter (is_above key) ps))
      (omega (arith, fewer (is_below key) ps, fewer (is_above key) ps))

  pub room_without : (a b : List (ℤ × V)) (n : ℕ) (key : ℤ) (ps : List (ℤ × V)) → n ≡ length ps + length b + 1 → n ≤ 2 ^ 128 → a ≡ without_key key ps
      → length a + length b < 2 ^ 130
  room_without a b n key ps e most same = rw same (omega (arith, few_without key ps, e, most))

  pub room_without_right : (a b : List (ℤ × V)) (n : ℕ) (key : ℤ) (ps : List (ℤ × V)) → n ≡ length a + length ps + 1 → n ≤ 2 ^ 128 → b ≡ without_key key ps
      → length a + length b < 2 ^ 130
  room_without_right a b n key ps e most same = rw same (omega (arith, few_without key ps, e, most))

module _ {V : Type 0} {d : List (ℤ × V) × ℕ} {f : Fork V} where
  pub put_on_left : (at : AtFork d f) (rising : IsRising d.0) (key : ℤ) (value v : V) (l r : List (ℤ × V)) → Less ≡ int_cmp key f.key
      → l ≡ with_pair (key, value) f.left.0 → v ≡ f.value.value → r ≡ f.right.0 → l ++ (f.key, v) ∷ r ≡ with_pair (key, value) d.0
  put_on_left at rising key value v l r less el ev er =
      rw (el, ev, er) (sym (put_left key value _ _ _ (around_fork at rising) (int_ranked key f.key Less less)) ∙ ap (with_pair (key, value)) (sym at.pairs))

  pub put_on_right : (at : AtFork d f) (rising : IsRising d.0) (key : ℤ) (value v : V) (l r : List (ℤ × V)) → Greater ≡ int_cmp key f.key → l ≡ f.left.0
      → v ≡ f.value.value → r ≡ with_pair (key, value) f.right.0 → l ++ (f.key, v) ∷ r ≡ with_pair (key, value) d.0
  put_on_right at rising key value v l r greater el ev er =
      rw (el, ev, er) (sym (put_right key value _ _ _ (around_fork at rising) (int_ranked key f.key Greater greater)) ∙ ap (with_pair (key, value))
      (sym at.pairs))

  pub put_in_place : (at : AtFork d f) (rising : IsRising d.0) (key : ℤ) (value : V) (l r : List (ℤ × V)) → Equal ≡ int_cmp key f.key → l ≡ f.left.0
      → r ≡ f.right.0 → l ++ (key, value) ∷ r ≡ with_pair (key, value) d.0
  put_in_place at rising key value l r equal el er =
      rw (el, er) (sym (put_at key value _ _ _ (around_fork at rising) (int_ranked key f.key Equal equal)) ∙ ap (with_pair (key, value)) (sym at.pairs))

  pub cut_on_left : (at : AtFork d f) (rising : IsRising d.0) (key : ℤ) (v : V) (l r : List (ℤ × V)) → Less ≡ int_cmp key f.key → l ≡ without_key key f.left.0
      → v ≡ f.value.value → r ≡ f.right.0 → l ++ (f.key, v) ∷ r ≡ without_key key d.0
  cut_on_left at rising key v l r less el ev er =
      rw (el, ev, er) (sym (cut_left key _ _ _ (around_fork at rising) (int_ranked key f.key Less less)) ∙ ap (without_key key) (sym at.pairs))

  pub cut_on_right : (at : AtFork d f) (rising : IsRising d.0) (key : ℤ) (v : V) (l r : List (ℤ × V)) → Greater ≡ int_cmp key f.key → l ≡ f.left.0
      → v ≡ f.value.value → r ≡ without_key key f.right.0 → l ++ (f.key, v) ∷ r ≡ without_key key d.0
  cut_on_right at rising key v l r greater el ev er =
      rw (el, ev, er) (sym (cut_right key _ _ _ (around_fork at rising) (int_ranked key f.key Greater greater)) ∙ ap (without_key key) (sym at.pairs))

  pub cut_in_place : (at : AtFork d f) (rising : IsRising d.0) (key : ℤ) → Equal ≡ int_cmp key f.key → f.left.0 ++ f.right.0 ≡ without_key key d.0
  cut_in_place at rising key equal =
      sym (cut_at key _ _ _ (around_fork at rising) (int_ranked key f.key Equal equal)) ∙ ap (without_key key) (sym at.pairs)
