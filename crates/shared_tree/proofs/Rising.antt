-- What a test on keys keeps of rising pairs round one of them.
use Rattle.std.proofs.Common.{◌≡◌, ℤ, ◌+◌, ◌≤◌, ◌<ℤ◌, Bool, true, false, List, [], ◌∷◌, ◌++◌, length, filter, refl, sym, ap, ◌∙◌, arith, append_assoc, append-nil, length-append}
use Rattle.std.specs.List.{AllByRecursion}
use Rattle.std.proofs.lemmas.Int.{ints}
use Rattle.std.proofs.lemmas.List.Elements.{filter-append}
use Rattle.shared_tree.specs.Pairs.{IsRising, is_below, is_above, is_up_to, is_from, with_pair, without_key}

-- the pairs of a node are in order: each side, and each of its pairs to the node's own
pub record Around {V : Type 0} (l : List (ℤ × V)) (m : ℤ × V) (r : List (ℤ × V)) : Type 0 where
  pub left : IsRising l
  pub right : IsRising r
  pub before : AllByRecursion (λ p. p.0 <ℤ m.0) l
  pub behind : AllByRecursion (λ p. m.0 <ℤ p.0) r

module _ {X : Type 0} where
  pub all_left : (P : X → Type 0) (l r : List X) → AllByRecursion P (l ++ r) → AllByRecursion P l
  all_left P [] r h = tt
  all_left P (x ∷ l) r h = (h.0, all_left P l r h.1)

  pub all_right : (P : X → Type 0) (l r : List X) → AllByRecursion P (l ++ r) → AllByRecursion P r
  all_right P [] r h = h
  all_right P (x ∷ l) r h = all_right P l r h.1

  pub all_map : (P Q : X → Type 0) → ((x : X) → P x → Q x) → (xs : List X) → AllByRecursion P xs → AllByRecursion Q xs
  all_map P Q f [] h = tt
  all_map P Q f (x ∷ xs) h = (f x h.0, all_map P Q f xs h.1)

  -- all elements are kept, or none
  pub filter_all : (test : X → Bool) (xs : List X) → AllByRecursion (λ x. test x ≡ true) xs → filter test xs ≡ xs
  filter_all test [] h = refl
  filter_all test (x ∷ xs) h = rw h.0 (ap (λ l. x ∷ l) (filter_all test xs h.1))

  pub filter_none : (test : X → Bool) (xs : List X) → AllByRecursion (λ x. test x ≡ false) xs → filter test xs ≡ []
  filter_none test [] h = refl
  filter_none test (x ∷ xs) h = rw h.0 (filter_none test xs h.1)

-- what implies a test that fails, fails
fails : (a b : Bool) → (a ≡ true → b ≡ true) → b ≡ false → a ≡ false
fails true b f e = sym (f refl) ∙ e
fails false b f e = refl

module _ {V : Type 0} where
  pub around : (l : List (ℤ × V)) (m : ℤ × V) (r : List (ℤ × V)) → IsRising (l ++ m ∷ r) → Around l m r
  around [] m r h = record { left = tt; right = h.1; before = tt; behind = h.0 }
  around (x ∷ l) m r h =
      let rest = around l m r h.1 in
      record {
        left = (all_left _ l (m ∷ r) h.0, rest.left);
        right = rest.right;
        before = ((all_right _ l (m ∷ r) h.0).0, rest.before);
        behind = rest.behind;
      }

  -- a test that holds from some key on, or up to some key
  abbrev pub IsUpper : (ℤ × V → Bool) → Type 0
  IsUpper test = (p q : ℤ × V) → p.0 <ℤ q.0 → test p ≡ true → test q ≡ true

  abbrev pub IsLower : (ℤ × V → Bool) → Type 0
  IsLower test = (p q : ℤ × V) → p.0 <ℤ q.0 → test q ≡ true → test p ≡ true

  pub upper_yes : {test : ℤ × V → Bool} (l : List (ℤ × V)) (m : ℤ × V) (r : List (ℤ × V)) → IsUpper test → Around l m r → test m ≡ true
      → filter test (l ++ m ∷ r) ≡ filter test l ++ m ∷ r
  upper_yes {test} l m r up h held =
      filter-append test l (m ∷ r)
      ∙ ap (λ t. filter test l ++ t) (filter_all test (m ∷ r) (held, all_map _ _ (λ p lt. up m p lt held) r h.behind))

  pub upper_no : {test : ℤ × V → Bool} (l : List (ℤ × V)) (m : ℤ × V) (r : List (ℤ × V)) → IsUpper test → Around l m r → test m ≡ false
      → filter test (l ++ m ∷ r) ≡ filter test r
  upper_no {test} l m r up h failed =
      filter-append test l (m ∷ r)
      ∙ rw (filter_none test l (all_map _ _ (λ p lt. fails (test p) (test m) (up p m lt) failed) l h.before), failed) refl

  pub lower_yes : {test : ℤ × V → Bool} (l : List (ℤ × V)) (m : ℤ × V) (r : List (ℤ × V)) → IsLower test → Around l m r → test m ≡ true
      → filter test (l ++ m ∷ r) ≡ l ++ m ∷ filter test r
  lower_yes {test} l m r low h held =
      filter-append test l (m ∷ r)
      ∙ rw (filter_all test l (all_map _ _ (λ p lt. low p m lt held) l h.before), held) refl

  pub lower_no : {test : ℤ × V → Bool} (l : List (ℤ × V)) (m : ℤ × V) (r : List (ℤ × V)) → IsLower test → Around l m r → test m ≡ false
      → filter test (l ++ m ∷ r) ≡ filter test l
  lower_no {test} l m r low h failed =
      filter-append test l (m ∷ r)
      ∙ rw (failed, filter_none test r (all_map _ _ (λ p lt. fails (test p) (test m) (low m p lt) failed) r h.behind)) (append-nil (filter test l))

  -- the four tests
  pub above_is_upper : (key : ℤ) → IsUpper (is_above key)
  above_is_upper key p q lt held = grind (arith, ints)

  pub from_is_upper : (key : ℤ) → IsUpper (is_from key)
  from_is_upper key p q lt held = grind (arith, ints)

  pub below_is_lower : (key : ℤ) → IsLower (is_below key)
  below_is_lower key p q lt held = grind (arith, ints)

  pub up_to_is_lower : (key : ℤ) → IsLower (is_up_to key)
  up_to_is_lower key p q lt held = grind (arith, ints)

  -- a pair put left of a node's own, right of it, or in its place
  pub put_left : (key : ℤ) (value : V) (l : List (ℤ × V)) (m : ℤ × V) (r : List (ℤ × V)) → Around l m r → key <ℤ m.0
      → with_pair (key, value) (l ++ m ∷ r) ≡ with_pair (key, value) l ++ m ∷ r
  put_left key value l m r h lt =
      rw (
        lower_no {test = is_below key} l m r (below_is_lower key) h (grind (arith, ints)),
        upper_yes {test = is_above key} l m r (above_is_upper key) h
            (grind (arith, ints)),
      )
      (sym (append_assoc (filter (is_below key) l) ((key, value) ∷ filter (is_above key) l) (m ∷ r)))

  pub put_right : (key : ℤ) (value : V) (l : List (ℤ × V)) (m : ℤ × V) (r : List (ℤ × V)) → Around l m r → m.0 <ℤ key
      → with_pair (key, value) (l ++ m ∷ r) ≡ l ++ m ∷ with_pair (key, value) r
  put_right key value l m r h lt =
      rw (
        lower_yes {test = is_below key} l m r (below_is_lower key) h (grind (arith, ints)),
        upper_no {test = is_above key} l m r (above_is_upper key) h
            (grind (arith, ints)),
      )
      (append_assoc l (m ∷ filter (is_below key) r) ((key, value) ∷ filter (is_above key) r))

  -- what a key's own pair stands between
  pub below_at : (key : ℤ) (l : List (ℤ × V)) (m : ℤ × V) (r : List (ℤ × V)) → Around l m r → key ≡ m.0 → filter (is_below key) (l ++ m ∷ r) ≡ l
  below_at key l m r h e =
      lower_no {test = is_below key} l m r (below_is_lower key) h (grind (arith, ints))
      ∙ filter_all (is_below key) l (all_map _ _ (λ p lt. grind (arith, ints)) l h.before)

  pub above_at : (key : ℤ) (l : List (ℤ × V)) (m : ℤ × V) (r : List (ℤ × V)) → Around l m r → key ≡ m.0 → filter (is_above key) (l ++ m ∷ r) ≡ r
  above_at key l m r h e =
      upper_no {test = is_above key} l m r (above_is_upper key) h (grind (arith, ints))
      ∙ filter_all (is_above key) r (all_map _ _ (λ p lt. grind (arith, ints)) r h.behind)

  pub put_at : (key : ℤ) (value : V) (l : List (ℤ × V)) (m : ℤ × V) (r : List (ℤ × V)) → Around l m r → key ≡ m.0
      → with_pair (key, value) (l ++ m ∷ r) ≡ l ++ (key, value) ∷ r
  put_at key value l m r h e = rw (below_at key l m r h e, above_at key l m r h e) refl

  -- a key taken out left of a node's own, right of it, or the node's own
  pub cut_left : (key : ℤ) (l : List (ℤ × V)) (m : ℤ × V) (r : List (ℤ × V)) → Around l m r → key <ℤ m.0
      → without_key key (l ++ m ∷ r) ≡ without_key key l ++ m ∷ r
  cut_left key l m r h lt =
      rw (
        lower_no {test = is_below key} l m r (below_is_lower key) h (grind (arith, ints)),
        upper_yes {test = is_above key} l m r (above_is_upper key) h
            (grind (arith, ints)),
      )
      (sym (append_assoc (filter (is_below key) l) (filter (is_above key) l) (m ∷ r)))

  pub cut_right : (key : ℤ) (l : List (ℤ × V)) (m : ℤ × V) (r : List (ℤ × V)) → Around l m r → m.0 <ℤ key
      → without_key key (l ++ m ∷ r) ≡ l ++ m ∷ without_key key r
  cut_right key l m r h lt =
      rw (
        lower_yes {test = is_below key} l m r (below_is_lower key) h (grind (arith, ints)),
        upper_no {test = is_above key} l m r (above_is_upper key) h
            (grind (arith, ints)),
      )
      (append_assoc l (m ∷ filter (is_below key) r) (filter (is_above key) r))

  pub cut_at : (key : ℤ) (l : List (ℤ × V)) (m : ℤ × V) (r : List (ℤ × V)) → Around l m r → key ≡ m.0 → without_key key (l ++ m ∷ r) ≡ l ++ r
  cut_at key l m r h e = rw (below_at key l m r h e, above_at key l m r h e) refl

  -- as many pairs at most with a pair as before, and one
  pub fewer : (test : ℤ × V → Bool) (ps : List (ℤ × V)) → length (filter test ps) ≤ length ps
  fewer test [] = omega arith
  fewer test (p ∷ ps) = grind (arith, fewer test ps)

  -- not many more pairs with a pair put
  pub few_with : (pair : ℤ × V) (ps : List (ℤ × V)) → length (with_pair pair ps) ≤ length ps + length ps + 1
  few_with pair ps =
      rw (length-append (filter (is_below pair.0) ps) (pair ∷ filter (is_above pair.0) ps))
      (omega (arith, fewer (is_below pair.0) ps, fewer (is_above pair.0) ps))
