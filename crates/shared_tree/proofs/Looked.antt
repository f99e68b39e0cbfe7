-- What a look below a node says of the node.
use Rattle.std.proofs.Common.{◌≡◌, ℕ, ℤ, ◌<ℤ◌, Bool, true, false, List, [], ◌∷◌, ◌++◌, filter, Option, Some, None, refl, sym, ap, subst, ◌∙◌, arith, Less, Greater, Equal, int_cmp, int_lt, append-nil}
use Rattle.std.proofs.lemmas.Cmp.{int_ranked}
use Rattle.std.specs.Cmp.{signed_Decides}
use Rattle.std.proofs.lemmas.Int.{ints}
use Rattle.std.proofs.lemmas.List.Elements.{filter-append}
use Rattle.std.specs.List.{last_or, AllByRecursion}
use Rattle.shared_tree.specs.declared.tree.Fork.{Fork}
use Rattle.shared_tree.specs.Pairs.{IsRising, is_below, is_above, is_up_to, is_at, first, last, value_at}
use Rattle.shared_tree.proofs.Forks.{AtFork, around_fork}
use Rattle.shared_tree.proofs.Rising.{all_map, filter_none, upper_yes, upper_no, lower_yes, lower_no, above_is_upper, below_is_lower, up_to_is_lower}

module _ {X : Type 0} where
  -- o, or m where it is nothing
  abbrev pub first_or : Option X → X → Option X
  first_or None m = Some m
  first_or (Some x) m = Some x

  -- the first of what isn't empty, or what stands behind
  pub first_of : (xs : List X) (m : X) (ys : List X) → first (xs ++ m ∷ ys) ≡ first_or (first xs) m
  first_of [] m ys = refl
  first_of (x ∷ xs) m ys = refl

  last_behind : (o : Option X) (l : List X) (m : X) (ys : List X) → last_or o (l ++ m ∷ ys) ≡ last_or (Some m) ys
  last_behind o [] m ys = refl
  last_behind o (x ∷ l) m ys = last_behind (Some x) l m ys

  -- the last of what isn't empty, or what stands before
  last_is : (x m : X) (ys : List X) → last_or (Some x) ys ≡ first_or (last_or (Some x) ys) m
  last_is x m [] = refl
  last_is x m (y ∷ ys) = last_is y m ys

  pub last_of : (l : List X) (m : X) (ys : List X) → last (l ++ m ∷ ys) ≡ first_or (last ys) m
  last_of l m [] = last_behind None l m []
  last_of l m (y ∷ ys) = last_behind None l m (y ∷ ys) ∙ last_is y m ys

module _ {V : Type 0} where
  -- a key stands at no pair of keys that are all above it, or all below
  none_above : (key : ℤ) (ps : List (ℤ × V)) → AllByRecursion (λ p. key <ℤ p.0) ps → filter (is_at key) ps ≡ []
  none_above key ps h = filter_none (is_at key) ps (all_map _ _ (λ p lt. grind (arith, ints)) ps h)

  none_below : (key : ℤ) (ps : List (ℤ × V)) → AllByRecursion (λ p. p.0 <ℤ key) ps → filter (is_at key) ps ≡ []
  none_below key ps h = filter_none (is_at key) ps (all_map _ _ (λ p lt. grind (arith, ints)) ps h)

  is_at_itself : (key : ℤ) (v : V) → is_at {V = V} key (key, v) ≡ true
  is_at_itself key v = let same = signed_Decides key key in same.1 refl

module _ {V : Type 0} {d : List (ℤ × V) × ℕ} {f : Fork V} where
  -- the value at a key
  pub found_left : (at : AtFork d f) (rising : IsRising d.0) (key : ℤ) → Less ≡ int_cmp key f.key → value_at key d.0 ≡ value_at key f.left.0
  found_left at rising key less =
      let w = around_fork at rising in
      let lt = int_ranked key f.key Less less in
      rw (
        at.pairs,
        filter-append (is_at key) f.left.0 ((f.key, f.value.value) ∷ f.right.0),
        none_above key ((f.key, f.value.value) ∷ f.right.0)
            (lt, all_map _ _ (λ p above. grind (arith, ints)) f.right.0 w.behind),
        append-nil (filter (is_at key) f.left.0),
      ) refl

  pub found_right : (at : AtFork d f) (rising : IsRising d.0) (key : ℤ) → Greater ≡ int_cmp key f.key → value_at key d.0 ≡ value_at key f.right.0
  found_right at rising key greater =
      let w = around_fork at rising in
      let gt = int_ranked key f.key Greater greater in
      let other : is_at {V = V} key (f.key, f.value.value) ≡ false = grind (arith, ints) in
      rw (
        at.pairs,
        filter-append (is_at key) f.left.0 ((f.key, f.value.value) ∷ f.right.0),
        none_below key f.left.0 (all_map _ _ (λ p below. grind (arith, ints)) f.left.0 w.before),
        other,
      ) refl

  pub found_here : (at : AtFork d f) (rising : IsRising d.0) (key : ℤ) → Equal ≡ int_cmp key f.key → value_at key d.0 ≡ Some f.value.value
  found_here at rising key equal =
      let w = around_fork at rising in
      let e : key ≡ f.key = int_ranked key f.key Equal equal in
      let same : is_at {V = V} key (f.key, f.value.value) ≡ true = subst (λ k. is_at {V = V} k (f.key, f.value.value) ≡ true) (sym e)
      (is_at_itself f.key f.value.value) in
      let none = none_below key f.left.0 (subst (λ k. AllByRecursion (λ p. p.0 <ℤ k) f.left.0) (sym e) w.before) in
      rw (at.pairs, filter-append (is_at key) f.left.0 ((f.key, f.value.value) ∷ f.right.0), none, same) refl

  -- the pairs above a key, and those below and up to it
  pub above_on_right : (at : AtFork d f) (rising : IsRising d.0) (key : ℤ) → int_lt key f.key ≡ false
      → filter (is_above key) d.0 ≡ filter (is_above key) f.right.0
  above_on_right at rising key failed =
      ap (filter (is_above key)) at.pairs ∙ upper_no {test = is_above key} _ _ _ (above_is_upper key) (around_fork at rising) failed

  pub first_above_left : (at : AtFork d f) (rising : IsRising d.0) (key : ℤ) → int_lt key f.key ≡ true
      → first (filter (is_above key) d.0) ≡ first_or (first (filter (is_above key) f.left.0)) (f.key, f.value.value)
  first_above_left at rising key held =
      ap first (ap (filter (is_above key)) at.pairs ∙ upper_yes {test = is_above key} _ _ _ (above_is_upper key) (around_fork at rising) held)
      ∙ first_of (filter (is_above key) f.left.0) (f.key, f.value.value) f.right.0

  pub below_on_left : (at : AtFork d f) (rising : IsRising d.0) (key : ℤ) → int_lt f.key key ≡ false
      → filter (is_below key) d.0 ≡ filter (is_below key) f.left.0
  below_on_left at rising key failed =
      ap (filter (is_below key)) at.pairs ∙ lower_no {test = is_below key} _ _ _ (below_is_lower key) (around_fork at rising) failed

  pub last_below_right : (at : AtFork d f) (rising : IsRising d.0) (key : ℤ) → int_lt f.key key ≡ true
      → last (filter (is_below key) d.0) ≡ first_or (last (filter (is_below key) f.right.0)) (f.key, f.value.value)
  last_below_right at rising key held =
      ap last (ap (filter (is_below key)) at.pairs ∙ lower_yes {test = is_below key} _ _ _ (below_is_lower key) (around_fork at rising) held)
      ∙ last_of f.left.0 (f.key, f.value.value) (filter (is_below key) f.right.0)

  pub up_to_on_left : (at : AtFork d f) (rising : IsRising d.0) (key : ℤ) → int_lt key f.key ≡ true → filter (is_up_to key) d.0 ≡ filter (is_up_to key) f.left.0
  up_to_on_left at rising key lt =
      ap (filter (is_up_to key)) at.pairs ∙ lower_no {test = is_up_to key} _ _ _ (up_to_is_lower key) (around_fork at rising) (grind (arith, ints))

  pub last_up_to_right : (at : AtFork d f) (rising : IsRising d.0) (key : ℤ) → int_lt key f.key ≡ false
      → last (filter (is_up_to key) d.0) ≡ first_or (last (filter (is_up_to key) f.right.0)) (f.key, f.value.value)
  last_up_to_right at rising key le =
      ap last (ap (filter (is_up_to key)) at.pairs ∙ lower_yes {test = is_up_to key} _ _ _ (up_to_is_lower key) (around_fork at rising) (grind (arith, ints)))
      ∙ last_of f.left.0 (f.key, f.value.value) (filter (is_up_to key) f.right.0)

-- what a test told of a value
pub told : {a b c : Bool} → a ≡ b → a ≡ c → b ≡ c
told e h = sym e ∙ h

module _ {X : Type 0} {o all : Option X} where
  -- what stands on the far side, or else the node's own
  pub some_behind : (m p : X) → all ≡ first_or o m → Some p ≡ o → Some p ≡ all
  some_behind m p whole e = subst (λ z. first_or z m ≡ all) (sym e) (sym whole)

  pub none_behind : (m : X) → all ≡ first_or o m → None ≡ o → Some m ≡ all
  none_behind m whole e = subst (λ z. first_or z m ≡ all) (sym e) (sym whole)
