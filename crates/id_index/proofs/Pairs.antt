-- What changes of pairs make of what stands at a key, and of one another.
use Rattle.std.proofs.Common.{◌≡◌, ℤ, int_lt, int_eq, Bool, true, false, not, cond, if◌then◌else◌, List, [], ◌∷◌, ◌++◌, Some, None, Result, Ok, Err, IfOk, filter, option_map, refl, sym, ap, subst, ◌∙◌, arith, append-nil}
use Rattle.std.specs.List.{AllByRecursion}
use Rattle.std.specs.Cmp.{signed_Decides}
use Rattle.std.proofs.lemmas.Int.{ints}
use Rattle.std.proofs.lemmas.List.Elements.{filter-append}
use Rattle.shared_tree.specs.Pairs.{IsRising, first, is_above, is_at, is_below, value_at, with_pair, without_key}
use Rattle.shared_tree.proofs.Rising.{filter_all}
use Rattle.shared_tree.proofs.Rows.{others_are}

pub if_ok : {T E : Type 0} {P Q : T → Type 0} (result : Result T E) → ((value : T) → P value → Q value) → IfOk result P → IfOk result Q
if_ok (Ok value) f h = f value h
if_ok (Err fault) f h = h

-- ---- filters of filters

module _ {X : Type 0} (p q : X → Bool) where
  -- what passes the second test passes the first
  pub filter_within : (xs : List X) → ((x : X) → q x ≡ true → p x ≡ true) → filter q (filter p xs) ≡ filter q xs
  filter_within [] h = refl
  filter_within (x ∷ xs) h = by (p x) (q x) refl refl (filter_within xs h)
    where
      by : (s t : Bool) → p x ≡ s → q x ≡ t → filter q (filter p xs) ≡ filter q xs
          → filter q (cond s (x ∷ filter p xs) (filter p xs)) ≡ cond t (x ∷ filter q xs) (filter q xs)
      by true true es et ih = rw et (ap (λ l. x ∷ l) ih)
      by true false es et ih = rw et ih
      by false true es et ih = absurd (let f = sym es ∙ h x et in grind (arith, f))
      by false false es et ih = ih

  -- what passes the second test fails the first
  pub filter_apart : (xs : List X) → ((x : X) → q x ≡ true → p x ≡ false) → filter q (filter p xs) ≡ []
  filter_apart [] h = refl
  filter_apart (x ∷ xs) h = by (p x) (q x) refl refl (filter_apart xs h)
    where
      by : (s t : Bool) → p x ≡ s → q x ≡ t → filter q (filter p xs) ≡ [] → filter q (cond s (x ∷ filter p xs) (filter p xs)) ≡ []
      by true true es et ih = absurd (let f = sym es ∙ h x et in grind (arith, f))
      by true false es et ih = rw et ih
      by false t es et ih = ih

  pub filter_swap : (xs : List X) → filter q (filter p xs) ≡ filter p (filter q xs)
  filter_swap [] = refl
  filter_swap (x ∷ xs) = by (p x) (q x) refl refl (filter_swap xs)
    where
      by : (s t : Bool) → p x ≡ s → q x ≡ t → filter q (filter p xs) ≡ filter p (filter q xs) → filter q (cond s (x ∷ filter p xs) (filter p xs)) ≡ filter p
          (cond t (x ∷ filter q xs) (filter q xs))
      by true true es et ih = rw (et, es) (ap (λ l. x ∷ l) ih)
      by true false es et ih = rw et ih
      by false true es et ih = rw es ih
      by false false es et ih = ih

-- ---- pairs at a key

module _ {V : Type 0} where
  at_is : (key : ℤ) (p : ℤ × V) → is_at key p ≡ true → p.0 ≡ key
  at_is key p e = let d = signed_Decides p.0 key in d.0 e

  -- what stands at a key once a pair was put, or one left out
  pub value_at_with : (key other : ℤ) (value : V) (ps : List (ℤ × V))
      → value_at key (with_pair (other, value) ps) ≡ (if int_eq key other then Some value else value_at key ps)
  value_at_with key other value ps = by (int_lt key other) (int_lt other key) refl refl
    where
      split : filter (is_at key) (with_pair (other, value) ps) ≡ filter (is_at key) (filter (is_below other) ps) ++ filter (is_at key)
          ((other, value) ∷ filter (is_above other) ps)
      split = filter-append (is_at key) (filter (is_below other) ps) ((other, value) ∷ filter (is_above other) ps)

      on : (l r : List (ℤ × V)) (b : Bool) → filter (is_at key) (filter (is_below other) ps) ≡ l → int_eq other key ≡ b
          → filter (is_at key) (filter (is_above other) ps) ≡ r → value_at key (with_pair (other, value) ps) ≡ option_map (λ p. p.1)
          (first (l ++ cond b ((other, value) ∷ r) r))
      on l r b el eb er = ap (λ z. option_map (λ p. p.1) (first z)) (split ∙ rw (el, eb, er) refl)

      by : (b a : Bool) → int_lt key other ≡ b → int_lt other key ≡ a
          → value_at key (with_pair (other, value) ps) ≡ (if int_eq key other then Some value else value_at key ps)
      by true true eb ea = absurd (grind (arith, ints))
      by true false eb ea =
          let no : int_eq key other ≡ false = grind (arith, ints) in
          let here : int_eq other key ≡ false = grind (arith, ints) in
          let low = filter_within (is_below other) (is_at key) ps (λ p e. let f = at_is key p e in grind (arith, ints)) in
          let high = filter_apart (is_above other) (is_at key) ps (λ p e. let f = at_is key p e in grind (arith, ints)) in
          rw no (on (filter (is_at key) ps) [] false low here high ∙ ap (λ z. option_map (λ p. p.1) (first z)) (append-nil (filter (is_at key) ps)))
      by false true eb ea =
          let no : int_eq key other ≡ false = grind (arith, ints) in
          let here : int_eq other key ≡ false = grind (arith, ints) in
          let low = filter_apart (is_below other) (is_at key) ps (λ p e. let f = at_is key p e in grind (arith, ints)) in
          let high = filter_within (is_above other) (is_at key) ps (λ p e. let f = at_is key p e in grind (arith, ints)) in
          rw no (on [] (filter (is_at key) ps) false low here high)
      by false false eb ea =
          let same : key ≡ other = omega (arith, ints, eb, ea) in
          let yes : int_eq key other ≡ true = let d = signed_Decides key other in d.1 same in
          let here : int_eq other key ≡ true = let d = signed_Decides other key in d.1 (sym same) in
          let low = filter_apart (is_below other) (is_at key) ps (λ p e. let f = at_is key p e in grind (arith, ints)) in
          rw yes (on [] (filter (is_at key) (filter (is_above other) ps)) true low here refl)

  pub value_at_without : (key other : ℤ) (ps : List (ℤ × V)) → value_at key (without_key other ps) ≡ (if int_eq key other then None else value_at key ps)
  value_at_without key other ps = by (int_lt key other) (int_lt other key) refl refl
    where
      on : (l r : List (ℤ × V)) → filter (is_at key) (filter (is_below other) ps) ≡ l → filter (is_at key) (filter (is_above other) ps) ≡ r
          → value_at key (without_key other ps) ≡ option_map (λ p. p.1) (first (l ++ r))
      on l r el er = ap (λ z. option_map (λ p. p.1) (first z)) (filter-append (is_at key) (filter (is_below other) ps) (filter (is_above other) ps) ∙ rw
          (el, er) refl)

      by : (b a : Bool) → int_lt key other ≡ b → int_lt other key ≡ a
          → value_at key (without_key other ps) ≡ (if int_eq key other then None else value_at key ps)
      by true true eb ea = absurd (grind (arith, ints))
      by true false eb ea =
          let no : int_eq key other ≡ false = grind (arith, ints) in
          let low = filter_within (is_below other) (is_at key) ps (λ p e. let f = at_is key p e in grind (arith, ints)) in
          let high = filter_apart (is_above other) (is_at key) ps (λ p e. let f = at_is key p e in grind (arith, ints)) in
          rw no (on (filter (is_at key) ps) [] low high ∙ ap (λ z. option_map (λ p. p.1) (first z)) (append-nil (filter (is_at key) ps)))
      by false true eb ea =
          let no : int_eq key other ≡ false = grind (arith, ints) in
          let low = filter_apart (is_below other) (is_at key) ps (λ p e. let f = at_is key p e in grind (arith, ints)) in
          let high = filter_within (is_above other) (is_at key) ps (λ p e. let f = at_is key p e in grind (arith, ints)) in
          rw no (on [] (filter (is_at key) ps) low high)
      by false false eb ea =
          let same : key ≡ other = omega (arith, ints, eb, ea) in
          let yes : int_eq key other ≡ true = let d = signed_Decides key other in d.1 same in
          let low = filter_apart (is_below other) (is_at key) ps (λ p e. let f = at_is key p e in grind (arith, ints)) in
          let high = filter_apart (is_above other) (is_at key) ps (λ p e. let f = at_is key p e in grind (arith, ints)) in
          rw yes (on [] [] low high)

  -- ---- a change after a change at the same key

  below_left : (key : ℤ) (ps : List (ℤ × V)) → filter (is_below key) (without_key key ps) ≡ filter (is_below key) ps
  below_left key ps =
      filter-append (is_below key) (filter (is_below key) ps) (filter (is_above key) ps)
      ∙ rw (filter_within (is_below key) (is_below key) ps (λ p e. e), filter_apart (is_above key) (is_below key) ps (λ p e. grind (arith, ints)))
      (append-nil (filter (is_below key) ps))

  above_left : (key : ℤ) (ps : List (ℤ × V)) → filter (is_above key) (without_key key ps) ≡ filter (is_above key) ps
  above_left key ps =
      filter-append (is_above key) (filter (is_below key) ps) (filter (is_above key) ps)
      ∙ rw (filter_apart (is_below key) (is_above key) ps (λ p e. grind (arith, ints)), filter_within (is_above key) (is_above key) ps (λ p e. e)) refl

  pub with_without : (key : ℤ) (value : V) (ps : List (ℤ × V)) → with_pair (key, value) (without_key key ps) ≡ with_pair (key, value) ps
  with_without key value ps = rw (below_left key ps, above_left key ps) refl

  pub without_without : (key : ℤ) (ps : List (ℤ × V)) → without_key key (without_key key ps) ≡ without_key key ps
  without_without key ps = rw (below_left key ps, above_left key ps) refl

  below_put : (key : ℤ) (value : V) (ps : List (ℤ × V)) → filter (is_below key) (with_pair (key, value) ps) ≡ filter (is_below key) ps
  below_put key value ps =
      let here : int_lt key key ≡ false = grind (arith, ints) in
      filter-append (is_below key) (filter (is_below key) ps) ((key, value) ∷ filter (is_above key) ps)
      ∙ rw (filter_within (is_below key) (is_below key) ps (λ p e. e), here, filter_apart (is_above key) (is_below key) ps (λ p e. grind (arith, ints)))
      (append-nil (filter (is_below key) ps))

  above_put : (key : ℤ) (value : V) (ps : List (ℤ × V)) → filter (is_above key) (with_pair (key, value) ps) ≡ filter (is_above key) ps
  above_put key value ps =
      let here : int_lt key key ≡ false = grind (arith, ints) in
      filter-append (is_above key) (filter (is_below key) ps) ((key, value) ∷ filter (is_above key) ps)
      ∙ rw (filter_apart (is_below key) (is_above key) ps (λ p e. grind (arith, ints)), here, filter_within (is_above key) (is_above key) ps (λ p e. e)) refl

  pub with_with : (key : ℤ) (value other : V) (ps : List (ℤ × V)) → with_pair (key, value) (with_pair (key, other) ps) ≡ with_pair (key, value) ps
  with_with key value other ps = rw (below_put key other ps, above_put key other ps) refl

  -- ---- a pair that stands at a key

  pub record Standing (key : ℤ) (value : V) (ps : List (ℤ × V)) : Type 0 where
    pub left : List (ℤ × V)
    pub right : List (ℤ × V)
    pub is : ps ≡ left ++ (key, value) ∷ right

  pub standing : (key : ℤ) (value : V) (ps : List (ℤ × V)) → value_at key ps ≡ Some value → Standing key value ps
  standing key value [] e = absurd (grind (arith, e))
  standing key value (p ∷ ps) e = by (is_at key p) refl (subst (λ b. option_map (λ q. q.1) (first (cond b (p ∷ filter (is_at key) ps) (filter (is_at key) ps)))
      ≡ Some value) refl e) (standing key value ps)
    where
      some_same : {x y : V} → Some x ≡ Some y → x ≡ y
      some_same e' = grind arith

      same_pair : (q : ℤ × V) → q.0 ≡ key → q.1 ≡ value → q ≡ (key, value)
      same_pair q ek ev = rw (← ek, ← ev) refl

      by : (t : Bool) → is_at key p ≡ t → option_map (λ q. q.1) (first (cond t (p ∷ filter (is_at key) ps) (filter (is_at key) ps))) ≡ Some value
          → (value_at key ps ≡ Some value → Standing key value ps) → Standing key value (p ∷ ps)
      by true h e' rest = record { left = []; right = ps; is = ap (λ q. q ∷ ps) (same_pair p (at_is key p h) (some_same e')) }
      by false h e' rest =
          let found = rest e' in
          record { left = p ∷ found.left; right = found.right; is = ap (λ l. p ∷ l) found.is }

  -- none stands at a key that is left out
  pub none_left_out : (key : ℤ) (ps : List (ℤ × V)) → IsRising ps → value_at key ps ≡ None → without_key key ps ≡ ps
  none_left_out key ps rising e = others_are key ps rising ∙ filter_all (λ p. not (is_at key p)) ps (all_fail ps e)
    where
      all_fail : (qs : List (ℤ × V)) → value_at key qs ≡ None → AllByRecursion (λ p. not (is_at key p) ≡ true) qs
      all_fail [] e' = tt
      all_fail (q ∷ qs) e' = by (is_at key q) refl e' (all_fail qs)
        where
          by : (t : Bool) → is_at key q ≡ t → option_map (λ p. p.1) (first (cond t (q ∷ filter (is_at key) qs) (filter (is_at key) qs))) ≡ None
              → (value_at key qs ≡ None → AllByRecursion (λ p. not (is_at key p) ≡ true) qs) → AllByRecursion (λ p. not (is_at key p) ≡ true) (q ∷ qs)
          by true h e'' rest = absurd (grind (arith, e''))
          by false h e'' rest = (rw h refl, rest e'')
