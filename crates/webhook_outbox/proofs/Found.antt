-- The value at a key of rising pairs, and what a test keeps of them.
use Rattle.std.proofs.Common.{◌≡◌, ℤ, ◌<ℤ◌, int_lt, Bool, true, false, not, cond, List, [], ◌∷◌, Some, None, filter, option_map, refl, sym, ap, subst, ◌∙◌, arith}
use Rattle.std.specs.List.{AllByRecursion}
use Rattle.std.proofs.lemmas.Int.{ints}
use Rattle.shared_tree.specs.Pairs.{IsRising, first, is_above, is_at, is_below, value_at, values, with_pair, without_key}
use Rattle.shared_tree.proofs.Counted.{rising_kept}
use Rattle.shared_tree.proofs.Rising.{all_map, filter_all, filter_none}
use Rattle.shared_tree.proofs.Rows.{others_are}

module _ {V : Type 0} where
  some_same : {x y : V} → Some x ≡ Some y → x ≡ y
  some_same e = grind arith

  -- what holds of each pair holds of the one that is found
  pub found_pair : (Q : ℤ × V → Type 0) (key : ℤ) (ps : List (ℤ × V)) (v : V) → value_at key ps ≡ Some v → AllByRecursion Q ps → Q (key, v)
  found_pair Q key [] v e h = absurd (grind (arith, e))
  found_pair Q key (p ∷ ps) v e h = by (is_at key p) refl e (λ later. found_pair Q key ps v later h.1)
    where
      by : (b : Bool) → is_at key p ≡ b → option_map (λ q. q.1) (first (cond b (p ∷ filter (is_at key) ps) (filter (is_at key) ps))) ≡ Some v
          → (value_at key ps ≡ Some v → Q (key, v)) → Q (key, v)
      by true at e' rest =
          let same : p.0 ≡ key = grind (arith, ints) in
          let own : p.1 ≡ v = some_same e' in
          subst (λ k. Q (k, v)) same (subst (λ w. Q (p.0, w)) own h.0)
      by false at e' rest = rest e'

  -- no pair is at a key at which nothing is found
  pub none_at : (key : ℤ) (ps : List (ℤ × V)) → value_at key ps ≡ None → AllByRecursion (λ p. is_at key p ≡ false) ps
  none_at key [] e = tt
  none_at key (p ∷ ps) e = by (is_at key p) refl e (λ later. none_at key ps later)
    where
      by : (b : Bool) → is_at key p ≡ b → option_map (λ q. q.1) (first (cond b (p ∷ filter (is_at key) ps) (filter (is_at key) ps))) ≡ None
          → (value_at key ps ≡ None → AllByRecursion (λ q. is_at key q ≡ false) ps) → AllByRecursion (λ q. is_at key q ≡ false) (p ∷ ps)
      by true at e' rest = absurd (grind (arith, e'))
      by false at e' rest = (at, rest e')

  later_not : (p : ℤ × V) (key : ℤ) (ps : List (ℤ × V)) → is_at key p ≡ true → AllByRecursion (λ q. p.0 <ℤ q.0) ps
      → AllByRecursion (λ q. is_at key q ≡ false) ps
  later_not p key ps at h = all_map (λ q. p.0 <ℤ q.0) (λ q. is_at key q ≡ false) (λ q lt. grind (arith, ints)) ps h

  -- each pair at the key is the one that is found
  pub at_is : (key : ℤ) (ps : List (ℤ × V)) (v : V) → IsRising ps → value_at key ps ≡ Some v → AllByRecursion (λ p. is_at key p ≡ true → p.1 ≡ v) ps
  at_is key [] v rising e = tt
  at_is key (p ∷ ps) v rising e = by (is_at key p) refl e (λ later. at_is key ps v rising.1 later)
    where
      by : (b : Bool) → is_at key p ≡ b → option_map (λ q. q.1) (first (cond b (p ∷ filter (is_at key) ps) (filter (is_at key) ps))) ≡ Some v
          → (value_at key ps ≡ Some v → AllByRecursion (λ q. is_at key q ≡ true → q.1 ≡ v) ps) → AllByRecursion (λ q. is_at key q ≡ true → q.1 ≡ v) (p ∷ ps)
      by true at e' rest = (
        (λ _. some_same e'),
        all_map (λ q. is_at key q ≡ false) (λ q. is_at key q ≡ true → q.1 ≡ v)
            (λ q no_one yes_one. absurd (grind (arith, no_one, yes_one))) ps (later_not p key ps at rising.0),
      )
      by false at e' rest = ((λ yes_one. absurd (grind (arith, at, yes_one))), rest e')

  -- the pairs round the one that is found
  pub at_split : (key : ℤ) (ps : List (ℤ × V)) (v : V) → IsRising ps → value_at key ps ≡ Some v → ps ≡ with_pair (key, v) ps
  at_split key [] v rising e = absurd (grind (arith, e))
  at_split key (p ∷ ps) v rising e = by (is_at key p) refl e (λ later. at_split key ps v rising.1 later)
    where
      by : (b : Bool) → is_at key p ≡ b → option_map (λ q. q.1) (first (cond b (p ∷ filter (is_at key) ps) (filter (is_at key) ps))) ≡ Some v
          → (value_at key ps ≡ Some v → ps ≡ with_pair (key, v) ps) → p ∷ ps ≡ with_pair (key, v) (p ∷ ps)
      by true at e' rest =
          let same : p.0 ≡ key = grind (arith, ints) in
          let below : int_lt p.0 key ≡ false = grind (arith, ints) in
          let above : int_lt key p.0 ≡ false = grind (arith, ints) in
          let none : filter (is_below key) ps ≡ [] = filter_none (is_below key) ps
          (all_map (λ q. p.0 <ℤ q.0) (λ q. is_below key q ≡ false) (λ q lt. grind (arith, ints)) ps rising.0) in
          let all : filter (is_above key) ps ≡ ps = filter_all (is_above key) ps
          (all_map (λ q. p.0 <ℤ q.0) (λ q. is_above key q ≡ true) (λ q lt. grind (arith, ints)) ps rising.0) in
          rw (below, above, none, all) (pair_is p same (some_same e'))
        where
          pair_is : (q : ℤ × V) → q.0 ≡ key → q.1 ≡ v → q ∷ ps ≡ (key, v) ∷ ps
          pair_is q k w = ap (λ x. (x, q.1) ∷ ps) k ∙ ap (λ x. (key, x) ∷ ps) w
      by false at e' rest =
          let later = found_pair (λ q. p.0 <ℤ q.0) key ps v e' rising.0 in
          let below : int_lt p.0 key ≡ true = grind (arith, ints) in
          let above : int_lt key p.0 ≡ false = grind (arith, ints) in
          rw (below, above) (ap (λ l. p ∷ l) (rest e'))

  -- ---- pairs that a test keeps

  -- those of other keys, where no pair of the key passes
  pub kept_without : (test : ℤ × V → Bool) (key : ℤ) (ps : List (ℤ × V)) → IsRising ps → AllByRecursion (λ p. is_at key p ≡ true → test p ≡ false) ps
      → filter test (without_key key ps) ≡ filter test ps
  kept_without test key ps rising h = ap (filter test) (others_are key ps rising) ∙ each ps h
    where
      each : (qs : List (ℤ × V)) → AllByRecursion (λ p. is_at key p ≡ true → test p ≡ false) qs → filter test (filter (λ p. not (is_at key p)) qs) ≡ filter test
          qs
      each [] h = refl
      each (q ∷ qs) h = by (is_at key q) refl (each qs h.1)
        where
          by : (b : Bool) → is_at key q ≡ b → filter test (filter (λ p. not (is_at key p)) qs) ≡ filter test qs
              → filter test (cond (not b) (q ∷ filter (λ p. not (is_at key p)) qs) (filter (λ p. not (is_at key p)) qs)) ≡ filter test (q ∷ qs)
          by true at rest = let failed : test q ≡ false = h.0 at in rw failed rest
          by false at rest = ap (λ l. cond (test q) (q ∷ l) l) rest

  -- a key left out before the test or behind it
  pub without_kept : (test : ℤ × V → Bool) (key : ℤ) (ps : List (ℤ × V)) → IsRising ps → without_key key (filter test ps) ≡ filter test (without_key key ps)
  without_kept test key ps rising = others_are key (filter test ps) (rising_kept test ps rising) ∙ each ps ∙ sym (ap (filter test) (others_are key ps rising))
    where
      each : (qs : List (ℤ × V)) → filter (λ p. not (is_at key p)) (filter test qs) ≡ filter test (filter (λ p. not (is_at key p)) qs)
      each [] = refl
      each (q ∷ qs) = by (test q) (is_at key q) refl refl (each qs)
        where
          by : (t b : Bool) → test q ≡ t → is_at key q ≡ b → filter (λ p. not (is_at key p)) (filter test qs) ≡ filter test (filter (λ p. not (is_at key p)) qs)
              → filter (λ p. not (is_at key p)) (filter test (q ∷ qs)) ≡ filter test (filter (λ p. not (is_at key p)) (q ∷ qs))
          by true true et eb rest = rw (et, eb) rest
          by true false et eb rest = rw (et, eb, et) (ap (λ l. q ∷ l) rest)
          by false true et eb rest = rw (et, eb) rest
          by false false et eb rest = rw (et, eb, et) rest

  -- the first value
  pub first_value : (ps : List (ℤ × V)) → first (values ps) ≡ option_map (λ p. p.1) (first ps)
  first_value [] = refl
  first_value (p ∷ ps) = refl
