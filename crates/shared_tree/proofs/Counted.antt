-- What a change leaves of keys that rise, and how many pairs there are.
use Rattle.std.proofs.Common.{◌≡◌, ℕ, ℤ, pos, negsuc, ◌+◌, ◌-◌, ◌^◌, ◌≤◌, ◌+ℤ◌, ◌<ℤ◌, ◌≤ℤ◌, int_lt, Bool, true, false, cond, List, [], ◌∷◌, ◌++◌, length, filter, is_some, refl, arith, length-append, FitsSigned, option_map, IsTrue}
use Rattle.std.specs.List.{AllByRecursion}
use Rattle.std.specs.Cmp.{signed_Decides}
use Rattle.std.proofs.lemmas.Int.{ints}
use mir.Syntax.{w128}
use Rattle.shared_tree.specs.Pairs.{IsRising, is_below, is_above, is_at, first, value_at, with_pair, without_key}
use Rattle.shared_tree.proofs.Rising.{all_map, filter_none}

module _ {X : Type 0} where
  pub all_append : (P : X → Type 0) (l r : List X) → AllByRecursion P l → AllByRecursion P r → AllByRecursion P (l ++ r)
  all_append P [] r hl hr = hr
  all_append P (x ∷ l) r hl hr = (hl.0, all_append P l r hl.1 hr)

  -- what holds of all holds of those that are kept, and each of these passes the test
  pub all_kept : (P : X → Type 0) (test : X → Bool) (xs : List X) → AllByRecursion P xs → AllByRecursion P (filter test xs)
  all_kept P test [] h = tt
  all_kept P test (x ∷ xs) h = by (test x) (all_kept P test xs h.1)
    where
      by : (t : Bool) → AllByRecursion P (filter test xs) → AllByRecursion P (cond t (x ∷ filter test xs) (filter test xs))
      by true rest = (h.0, rest)
      by false rest = rest

  pub each_passes : (test : X → Bool) (xs : List X) → AllByRecursion (λ x. test x ≡ true) (filter test xs)
  each_passes test [] = tt
  each_passes test (x ∷ xs) = by (test x) refl (each_passes test xs)
    where
      by : (t : Bool) → test x ≡ t → AllByRecursion (λ y. test y ≡ true) (filter test xs)
          → AllByRecursion (λ y. test y ≡ true) (cond t (x ∷ filter test xs) (filter test xs))
      by true e rest = (e, rest)
      by false e rest = rest

module _ {V : Type 0} where
  pub rising_kept : (test : ℤ × V → Bool) (ps : List (ℤ × V)) → IsRising ps → IsRising (filter test ps)
  rising_kept test [] h = tt
  rising_kept test (p ∷ ps) h = by (test p) (rising_kept test ps h.1)
    where
      by : (t : Bool) → IsRising (filter test ps) → IsRising (cond t (p ∷ filter test ps) (filter test ps))
      by true rest = (all_kept _ test ps h.0, rest)
      by false rest = rest

  -- pairs below a key, and then pairs from it on
  rising_meet : (key : ℤ) (l r : List (ℤ × V)) → IsRising l → IsRising r → AllByRecursion (λ p. p.0 <ℤ key) l → AllByRecursion (λ p. key ≤ℤ p.0) r
      → IsRising (l ++ r)
  rising_meet key [] r hl hr bl br = hr
  rising_meet key (p ∷ l) r hl hr bl br = (
    all_append (λ q. p.0 <ℤ q.0) l r hl.0 (all_map (λ q. key ≤ℤ q.0) (λ q. p.0 <ℤ q.0) (λ q le. let lt = bl.0 in grind (arith, ints)) r br),
    rising_meet key l r hl.1 hr bl.1 br,
  )

  below_key : (key : ℤ) (ps : List (ℤ × V)) → AllByRecursion (λ p. p.0 <ℤ key) (filter (is_below key) ps)
  below_key key ps = all_map (λ p. is_below key p ≡ true) (λ p. p.0 <ℤ key) (λ p held. grind (arith, ints)) _ (each_passes (is_below key) ps)

  above_key : (key : ℤ) (ps : List (ℤ × V)) → AllByRecursion (λ p. key <ℤ p.0) (filter (is_above key) ps)
  above_key key ps = all_map (λ p. is_above key p ≡ true) (λ p. key <ℤ p.0) (λ p held. grind (arith, ints)) _ (each_passes (is_above key) ps)

  from_key : (key : ℤ) (ps : List (ℤ × V)) → AllByRecursion (λ p. key ≤ℤ p.0) (filter (is_above key) ps)
  from_key key ps = all_map (λ p. key <ℤ p.0) (λ p. key ≤ℤ p.0) (λ p lt. grind (arith, ints)) _ (above_key key ps)

  pub rising_with : (key : ℤ) (value : V) (ps : List (ℤ × V)) → IsRising ps → IsRising (with_pair (key, value) ps)
  rising_with key value ps h =
      rising_meet key (filter (is_below key) ps) ((key, value) ∷ filter (is_above key) ps) (rising_kept (is_below key) ps h)
      (above_key key ps, rising_kept (is_above key) ps h) (below_key key ps) (omega (arith, ints), from_key key ps)

  pub rising_without : (key : ℤ) (ps : List (ℤ × V)) → IsRising ps → IsRising (without_key key ps)
  rising_without key ps h =
      rising_meet key (filter (is_below key) ps) (filter (is_above key) ps) (rising_kept (is_below key) ps h)
      (rising_kept (is_above key) ps h) (below_key key ps) (from_key key ps)

  -- each key is an `i128`
  abbrev pub Fit : List (ℤ × V) → Type 0
  Fit ps = AllByRecursion (λ p. FitsSigned w128 p.0) ps

  pub fit_with : (key : ℤ) (value : V) (ps : List (ℤ × V)) → FitsSigned w128 key → Fit ps → Fit (with_pair (key, value) ps)
  fit_with key value ps fits h = all_append _ (filter (is_below key) ps) _ (all_kept _ (is_below key) ps h) (fits, all_kept _ (is_above key) ps h)

  pub fit_without : (key : ℤ) (ps : List (ℤ × V)) → Fit ps → Fit (without_key key ps)
  fit_without key ps h = all_append _ (filter (is_below key) ps) _ (all_kept _ (is_below key) ps h) (all_kept _ (is_above key) ps h)

  -- Distinct keys between two ends are no more than there are numbers between them.
  few_between : (low high : ℤ) (ps : List (ℤ × V)) → low ≤ℤ (high +ℤ pos 1) → AllByRecursion (λ p. low ≤ℤ p.0) ps → AllByRecursion (λ p. p.0 ≤ℤ high) ps
      → IsRising ps → (pos (length ps) +ℤ low) ≤ℤ (high +ℤ pos 1)
  few_between low high [] ends above below rising = omega (arith, ints)
  few_between low high (p ∷ ps) ends above below rising =
      let first : low ≤ℤ p.0 = above.0 in
      let last : p.0 ≤ℤ high = below.0 in
      let rest = few_between (p.0 +ℤ pos 1) high ps (omega (arith, ints)) (all_map (λ q. p.0 <ℤ q.0) (λ q. (p.0 +ℤ pos 1) ≤ℤ q.0) (λ q lt. omega (arith, ints))
      ps rising.0) below.1 rising.1 in
      omega (arith, ints, rest)

  pub few : (ps : List (ℤ × V)) → IsRising ps → Fit ps → length ps ≤ 2 ^ 128
  few ps rising fits =
      let all = few_between (negsuc (2 ^ 127 - 1)) (pos (2 ^ 127 - 1)) ps (omega (arith, ints))
      (all_map (λ p. FitsSigned w128 p.0) _ (λ p fit. omega (arith, ints)) ps fits) (all_map (λ p. FitsSigned w128 p.0) _ (λ p fit. omega (arith, ints)) ps
      fits) rising in
      omega (arith, ints, all)

  -- each pair stands below a key, above it, or at it
  apart : (key : ℤ) (ps : List (ℤ × V)) → length ps ≡ length (filter (is_below key) ps) + length (filter (is_above key) ps) + length (filter (is_at key) ps)
  apart key [] = refl
  apart key (p ∷ ps) = by (int_lt p.0 key) (int_lt key p.0) refl refl (apart key ps)
    where
      by : (b a : Bool) → int_lt p.0 key ≡ b → int_lt key p.0 ≡ a → length ps ≡ length (filter (is_below key) ps) + length (filter (is_above key) ps) + length
          (filter (is_at key) ps) → length (p ∷ ps) ≡ length (filter (is_below key) (p ∷ ps)) + length (filter (is_above key) (p ∷ ps)) + length
          (filter (is_at key) (p ∷ ps))
      by true true eb ea rest = absurd (grind (arith, ints))
      by true false eb ea rest = rw (eb, ea) (omega (arith, rest))
      by false true eb ea rest = rw (eb, ea) (omega (arith, rest))
      by false false eb ea rest = rw (eb, ea) (omega (arith, rest))

  -- at most one has the key
  at_most_one : (key : ℤ) (ps : List (ℤ × V)) → IsRising ps → length (filter (is_at key) ps) ≤ 1
  at_most_one key [] h = omega arith
  at_most_one key (p ∷ ps) h = by (is_at key p) refl (at_most_one key ps h.1)
    where
      by : (t : Bool) → is_at key p ≡ t → length (filter (is_at key) ps) ≤ 1 → length (cond t (p ∷ filter (is_at key) ps) (filter (is_at key) ps)) ≤ 1
      by true e rest =
          let d = signed_Decides p.0 key in
          let same : p.0 ≡ key = d.0 e in
          rw (filter_none (is_at key) ps (all_map (λ q. p.0 <ℤ q.0) (λ q. is_at key q ≡ false) (λ q lt. grind (arith, ints)) ps h.0)) (omega arith)
      by false e rest = rest

  -- the number of pairs with other keys, where one has the key and where none has it
  pub others_there : (key : ℤ) (ps : List (ℤ × V)) → IsRising ps → is_some (value_at key ps) ≡ true → length (without_key key ps) ≡ length ps - 1
  others_there key ps h there =
      rw (length-append (filter (is_below key) ps) (filter (is_above key) ps))
      (omega (arith, apart key ps, at_most_one key ps h, some_first (filter (is_at key) ps) there))
    where
      some_first : (qs : List (ℤ × V)) → is_some (option_map (λ p. p.1) (first qs)) ≡ true → 1 ≤ length qs
      some_first [] e = absurd (grind arith)
      some_first (q ∷ qs) e = omega arith

  pub others_not : (key : ℤ) (ps : List (ℤ × V)) → is_some (value_at key ps) ≡ false → length (without_key key ps) ≡ length ps
  others_not key ps not_there =
      rw (length-append (filter (is_below key) ps) (filter (is_above key) ps))
      (omega (arith, apart key ps, none_first (filter (is_at key) ps) not_there))
    where
      none_first : (qs : List (ℤ × V)) → is_some (option_map (λ p. p.1) (first qs)) ≡ false → length qs ≡ 0
      none_first [] e = refl
      none_first (q ∷ qs) e = absurd (grind arith)

  -- a pair put makes one more than the others
  pub length_with : (pair : ℤ × V) (ps : List (ℤ × V)) → length (with_pair pair ps) ≡ length (without_key pair.0 ps) + 1
  length_with pair ps =
      rw (
        length-append (filter (is_below pair.0) ps) (pair ∷ filter (is_above pair.0) ps),
        length-append (filter (is_below pair.0) ps)
            (filter (is_above pair.0) ps),
      ) (omega arith)

  -- where none has the key, another pair has room among all keys
  pub fewer_than_keys : (key : ℤ) (ps : List (ℤ × V)) → IsRising ps → Fit ps → FitsSigned w128 key → is_some (value_at key ps) ≡ false → 1 ≤ length ps
      → length ps + 1 ≤ 2 ^ 128
  fewer_than_keys key (p ∷ qs) rising fits fit not_there some =
      let ps = p ∷ qs in
      let value = p.1 in
      omega (
        arith,
        few (with_pair (key, value) ps) (rising_with key value ps rising) (fit_with key value ps fit fits),
        length_with (key, value) ps,
        others_not key ps not_there,
      )
  fewer_than_keys key [] rising fits fit not_there some = absurd (omega (arith, some))

  -- what isn't empty has a pair
  pub some_left : (ps : List (ℤ × V)) → (ps ≡ [] → IsTrue false) → 1 ≤ length ps
  some_left [] h = absurd (grind (arith, h refl))
  some_left (p ∷ ps) h = omega arith

  -- what is known of a version with a pair put, and of one without a key's pair
  pub record Follows (pairs : List (ℤ × V)) (count : ℕ) : Type 0 where
    pub rising : IsRising pairs
    pub fits : Fit pairs
    pub more : count ≡ length pairs - 1

  pub follows_with : (old new : List (ℤ × V)) (key : ℤ) (value : V) (more : ℕ) → IsRising old → Fit old → FitsSigned w128 key → new ≡ with_pair (key, value) old
      → more ≡ length (without_key key old) → Follows new more
  follows_with old new key value more rising fits fit is others =
      rw is (record {
        rising = rising_with key value old rising;
        fits = fit_with key value old fit fits;
        more = omega (arith, length_with (key, value) old, others);
      })

  pub follows_without : (old new : List (ℤ × V)) (key : ℤ) (more others : ℕ) → IsRising old → Fit old → new ≡ without_key key old
      → others ≡ length (without_key key old) → more ≡ others - 1 → Follows new more
  follows_without old new key more others rising fits is count e =
      rw is (record {
        rising = rising_without key old rising;
        fits = fit_without key old fits;
        more = omega (arith, count, e);
      })
