-- What a change of a version does to its values, where each has a key of its own: one is replaced, put at its
-- place, added at the end, left out, or found. A test of values stands for each test of keys.
use Rattle.std.proofs.Common.{◌≡◌, ℤ, ◌<ℤ◌, int_lt, Bool, true, false, not, cond, if◌then◌else◌, List, [], ◌∷◌, ◌++◌, Some, filter, option_map, find, map, refl, sym, ap, subst, ◌∙◌, arith}
use Rattle.std.specs.List.{AllByRecursion}
use Rattle.std.proofs.lemmas.Int.{ints}
use Rattle.std.proofs.lemmas.List.{map-append}
use Rattle.shared_tree.specs.Pairs.{IsRising, is_below, is_above, is_at, first, value_at, values, with_pair, without_key}
use Rattle.shared_tree.specs.Rows.{IsKeyedBy}
use Rattle.shared_tree.proofs.Counted.{all_append, all_kept}
use Rattle.shared_tree.proofs.Rising.{all_map, filter_all, filter_none}

module _ {V : Type 0} where
  -- a test of values keeps those whose pairs pass it
  pub values_kept : (test : V → Bool) (same : ℤ × V → Bool) (ps : List (ℤ × V)) → AllByRecursion (λ p. test p.1 ≡ same p) ps
      → filter test (values ps) ≡ values (filter same ps)
  values_kept test same [] h = refl
  values_kept test same (p ∷ ps) h = by (same p) h.0 (values_kept test same ps h.1)
    where
      by : (t : Bool) → test p.1 ≡ t → filter test (values ps) ≡ values (filter same ps)
          → cond (test p.1) (p.1 ∷ filter test (values ps)) (filter test (values ps)) ≡ values (cond t (p ∷ filter same ps) (filter same ps))
      by true e rest = rw e (ap (λ l. p.1 ∷ l) rest)
      by false e rest = rw e rest

  -- the value at a key is the first that passes the key's test
  pub found_is : (test : V → Bool) (key : ℤ) (ps : List (ℤ × V)) → AllByRecursion (λ p. test p.1 ≡ is_at key p) ps → value_at key ps ≡ find test (values ps)
  found_is test key [] h = refl
  found_is test key (p ∷ ps) h = by (is_at key p) refl h.0 (found_is test key ps h.1)
    where
      by : (t : Bool) → is_at key p ≡ t → test p.1 ≡ is_at key p → value_at key ps ≡ find test (values ps) → value_at key (p ∷ ps) ≡ find test (values (p ∷ ps))
      by true e same rest = rw (e, same ∙ e) refl
      by false e same rest = rw (e, same ∙ e) rest

  -- a pair put at its place
  pub placed_is : (before : V → V → Bool) (key : ℤ) (value : V) (ps : List (ℤ × V)) → AllByRecursion (λ p. before p.1 value ≡ is_below key p) ps
      → AllByRecursion (λ p. before value p.1 ≡ is_above key p) ps → values (with_pair (key, value) ps) ≡ filter (λ other. before other value) (values ps)
      ++ value ∷ filter (λ other. before value other) (values ps)
  placed_is before key value ps below above =
      rw (
        map-append (λ p. p.1) (filter (is_below key) ps) ((key, value) ∷ filter (is_above key) ps),
        values_kept (λ other. before other value) (is_below key)
            ps below,
        values_kept (λ other. before value other) (is_above key) ps above,
      ) refl

  -- a pair whose key is above all others stands at the end
  pub added_is : (key : ℤ) (value : V) (ps : List (ℤ × V)) → AllByRecursion (λ p. p.0 <ℤ key) ps → values (with_pair (key, value) ps) ≡ values ps ++ value ∷ []
  added_is key value ps last =
      let below : filter (is_below key) ps ≡ ps = filter_all (is_below key) ps
      (all_map (λ p. p.0 <ℤ key) (λ p. is_below key p ≡ true) (λ p lt. grind (arith, ints)) ps last) in
      let above : filter (is_above key) ps ≡ [] = filter_none (is_above key) ps
      (all_map (λ p. p.0 <ℤ key) (λ p. is_above key p ≡ false) (λ p lt. grind (arith, ints)) ps last) in
      rw (below, above) (map-append (λ p. p.1) ps ((key, value) ∷ []))

  -- the pairs of other keys, in order
  pub others_are : (key : ℤ) (ps : List (ℤ × V)) → IsRising ps → without_key key ps ≡ filter (λ p. not (is_at key p)) ps
  others_are key [] rising = refl
  others_are key (p ∷ rest) rising = by (int_lt p.0 key) (int_lt key p.0) refl refl (others_are key rest rising.1)
    where
      by : (b a : Bool) → int_lt p.0 key ≡ b → int_lt key p.0 ≡ a → without_key key rest ≡ filter (λ q. not (is_at key q)) rest
          → without_key key (p ∷ rest) ≡ filter (λ q. not (is_at key q)) (p ∷ rest)
      by true true eb ea ih = absurd (grind (arith, ints))
      by true false eb ea ih = rw (eb, ea) (ap (λ l. p ∷ l) ih)
      by false true eb ea ih =
          let none : filter (is_below key) rest ≡ [] = filter_none (is_below key) rest
          (all_map (λ q. p.0 <ℤ q.0) (λ q. is_below key q ≡ false) (λ q lt. grind (arith, ints)) rest rising.0) in
          let behind : filter (is_above key) rest ≡ filter (λ q. not (is_at key q)) rest =
          subst (λ l. l ++ filter (is_above key) rest ≡ filter (λ q. not (is_at key q)) rest) none ih in
          rw (eb, ea, none) (ap (λ l. p ∷ l) behind)
      by false false eb ea ih = rw (eb, ea) ih

  -- a key's value left out
  pub left_out_is : (test : V → Bool) (key : ℤ) (ps : List (ℤ × V)) → IsRising ps → AllByRecursion (λ p. test p.1 ≡ is_at key p) ps
      → values (without_key key ps) ≡ filter (λ value. not (test value)) (values ps)
  left_out_is test key ps rising tests =
      ap values (others_are key ps rising)
      ∙ sym (values_kept (λ value. not (test value)) (λ p. not (is_at key p)) ps
      (all_map (λ p. test p.1 ≡ is_at key p) (λ p. not (test p.1) ≡ not (is_at key p)) (λ p e. ap not e) ps tests))

  -- a change of values that pass no test changes none
  unchanged : (test : V → Bool) (change : V → V) (ps : List (ℤ × V)) → AllByRecursion (λ p. test p.1 ≡ false) ps
      → map (λ value. if test value then change value else value) (values ps) ≡ values ps
  unchanged test change [] h = refl
  unchanged test change (p ∷ ps) h = rw h.0 (ap (λ l. p.1 ∷ l) (unchanged test change ps h.1))

  -- a key's value replaced by what a change makes of it
  pub replaced_is : (test : V → Bool) (change : V → V) (key : ℤ) (old : V) (ps : List (ℤ × V)) → IsRising ps → AllByRecursion (λ p. test p.1 ≡ is_at key p) ps
      → value_at key ps ≡ Some old → values (with_pair (key, change old) ps) ≡ map (λ value. if test value then change value else value) (values ps)
  replaced_is test change key old [] rising tests found = absurd (grind (arith, found))
  replaced_is test change key old (p ∷ rest) rising tests found = by (int_lt p.0 key) (int_lt key p.0) (is_at key p) refl refl refl
      (replaced_is test change key old rest rising.1 tests.1)
    where
      some_same : {x y : V} → Some x ≡ Some y → x ≡ y
      some_same e = grind arith

      -- all later keys are above one that isn't above p's
      over : (int_lt p.0 key ≡ false) → AllByRecursion (λ q. key <ℤ q.0) rest
      over eb = all_map (λ q. p.0 <ℤ q.0) (λ q. key <ℤ q.0) (λ q lt. grind (arith, ints)) rest rising.0

      none_at : int_lt p.0 key ≡ false → filter (is_at key) rest ≡ []
      none_at eb = filter_none (is_at key) rest (all_map (λ q. key <ℤ q.0) (λ q. is_at key q ≡ false) (λ q lt. grind (arith, ints)) rest (over eb))

      none_below : int_lt p.0 key ≡ false → filter (is_below key) rest ≡ []
      none_below eb = filter_none (is_below key) rest (all_map (λ q. key <ℤ q.0) (λ q. is_below key q ≡ false) (λ q lt. grind (arith, ints)) rest (over eb))

      all_above : int_lt p.0 key ≡ false → filter (is_above key) rest ≡ rest
      all_above eb = filter_all (is_above key) rest (all_map (λ q. key <ℤ q.0) (λ q. is_above key q ≡ true) (λ q lt. grind (arith, ints)) rest (over eb))

      none_tested : int_lt p.0 key ≡ false → AllByRecursion (λ q. test q.1 ≡ false) rest
      none_tested eb = both rest tests.1 (over eb)
        where
          both : (qs : List (ℤ × V)) → AllByRecursion (λ q. test q.1 ≡ is_at key q) qs → AllByRecursion (λ q. key <ℤ q.0) qs
              → AllByRecursion (λ q. test q.1 ≡ false) qs
          both [] t a = tt
          both (q ∷ qs) t a = (t.0 ∙ (let lt = a.0 in grind (arith, ints)), both qs t.1 a.1)

      by : (b a e : Bool) → int_lt p.0 key ≡ b → int_lt key p.0 ≡ a → is_at key p ≡ e
          → (value_at key rest ≡ Some old → values (with_pair (key, change old) rest) ≡ map (λ value. if test value then change value else value) (values rest))
          → values (with_pair (key, change old) (p ∷ rest)) ≡ map (λ value. if test value then change value else value) (values (p ∷ rest))
      by true true e eb ea ee ih = absurd (grind (arith, ints))
      by true false true eb ea ee ih = absurd (grind (arith, ints))
      by true false false eb ea ee ih =
          let found' : value_at key rest ≡ Some old = subst (λ b. option_map (λ q. q.1) (first (cond b (p ∷ filter (is_at key) rest) (filter (is_at key) rest)))
          ≡ Some old) ee found in
          rw (eb, ea, tests.0 ∙ ee) (ap (λ l. p.1 ∷ l) (ih found'))
      by false true true eb ea ee ih = absurd (grind (arith, ints))
      by false true false eb ea ee ih =
          let found' : value_at key rest ≡ Some old = subst (λ b. option_map (λ q. q.1) (first (cond b (p ∷ filter (is_at key) rest) (filter (is_at key) rest)))
          ≡ Some old) ee found in
          absurd (let none = none_at eb in let f = subst (λ l. option_map (λ q. q.1) (first l) ≡ Some old) none found' in grind (arith, f))
      by false false false eb ea ee ih = absurd (grind (arith, ints))
      by false false true eb ea ee ih =
          let same : p.1 ≡ old = some_same (subst (λ b. option_map (λ q. q.1) (first (cond b (p ∷ filter (is_at key) rest) (filter (is_at key) rest))) ≡ Some
          old) ee found) in
          rw (eb, ea, tests.0 ∙ ee, none_below eb, all_above eb) (rw same (ap (λ l. change old ∷ l) (sym (unchanged test change rest (none_tested eb)))))

  -- each value still stands at its own key
  pub keyed_with : (own : V → ℤ) (key : ℤ) (value : V) (ps : List (ℤ × V)) → key ≡ own value → IsKeyedBy own ps → IsKeyedBy own (with_pair (key, value) ps)
  keyed_with own key value ps e h = all_append (λ p. p.0 ≡ own p.1) (filter (is_below key) ps) ((key, value) ∷ filter (is_above key) ps)
      (all_kept _ (is_below key) ps h) (e, all_kept _ (is_above key) ps h)

  pub keyed_without : (own : V → ℤ) (key : ℤ) (ps : List (ℤ × V)) → IsKeyedBy own ps → IsKeyedBy own (without_key key ps)
  keyed_without own key ps h = all_append (λ p. p.0 ≡ own p.1) (filter (is_below key) ps) (filter (is_above key) ps) (all_kept _ (is_below key) ps h)
      (all_kept _ (is_above key) ps h)

  -- tests of keys by tests of values that have them
  pub tests_are : (own : V → ℤ) (test : V → Bool) (same : ℤ → Bool) (ps : List (ℤ × V)) → ((value : V) → test value ≡ same (own value)) → IsKeyedBy own ps
      → AllByRecursion (λ p. test p.1 ≡ same p.0) ps
  tests_are own test same ps e h = all_map (λ p. p.0 ≡ own p.1) (λ p. test p.1 ≡ same p.0) (λ p k. e p.1 ∙ ap same (sym k)) ps h
