-- Ids as keys of versions.
use Rattle.std.proofs.Common.{◌≡◌, ℕ, ◌^◌, ℤ, int_lt, int_eq, negsuc, pos, ◌+ℤ◌, ◌-◌, ◌≤ℤ◌, filter, length, take, [], ◌∷◌, ◌++◌, nat_lt, ◌==◌, Bool, true, false, List, ◌≤◌, refl, sym, subst, ◌∙◌, arith, FitsSigned}
use Rattle.std.proofs.lemmas.Bool.{eqb-true, ltb-true}
use Rattle.std.proofs.lemmas.Int.{ints}
use Rattle.std.proofs.lemmas.Bool.Decides.{nat_tests}
use Rattle.std.specs.Cmp.{signed_Decides}
use Rattle.std.proofs.lemmas.List.{length-map, take_all}
use Rattle.media_rows.specs.Views.{id_key}
use Rattle.shared_tree.specs.Pairs.{AreKeys, is_above, is_from, values}
use Rattle.shared_tree.proofs.Rising.{all_map, fewer, filter_all, filter_none}
use mir.Syntax.{w128}

pub same_key : (a b : ℕ) → (a == b) ≡ int_eq (id_key a) (id_key b)
same_key a b = by (a == b) (int_eq (id_key a) (id_key b)) refl refl
  where
    by : (s t : Bool) → (a == b) ≡ s → int_eq (id_key a) (id_key b) ≡ t → (a == b) ≡ int_eq (id_key a) (id_key b)
    by true true es et = es ∙ sym et
    by false false es et = es ∙ sym et
    by true false es et = absurd (let e = eqb-true a b es in let f = subst (λ x. int_eq (id_key a) (id_key x) ≡ false) (sym e) et in grind (arith, ints, f))
    by false true es et = absurd (let d = signed_Decides (id_key a) (id_key b) in let e : id_key a ≡ id_key b = d.0 et in let f : a ≡ b =
        omega (arith, ints, e) in grind (arith, nat_tests, f))

pub below_key : (a b : ℕ) → nat_lt a b ≡ int_lt (id_key a) (id_key b)
below_key a b = by (nat_lt a b) (int_lt (id_key a) (id_key b)) refl refl
  where
    by : (s t : Bool) → nat_lt a b ≡ s → int_lt (id_key a) (id_key b) ≡ t → nat_lt a b ≡ int_lt (id_key a) (id_key b)
    by true true es et = es ∙ sym et
    by false false es et = es ∙ sym et
    by true false es et = absurd (let lt = ltb-true a b es in omega (arith, ints, lt, et))
    by false true es et = absurd (let ge : b ≤ a = grind (arith, nat_tests) in omega (arith, ints, ge, et))

module _ {V : Type 0} where
  -- a walk passes all pairs from its key on
  pub walked_from : (n : ℕ) (key : ℤ) (ps : List (ℤ × V)) (before all : List V) → before ≡ [] → all ≡ before ++ take n (values (filter (is_from key) ps))
      → n ≡ length ps → all ≡ values (filter (is_from key) ps)
  walked_from n key ps before all none e size =
      rw (e, none) (take_all n (values (filter (is_from key) ps)) (omega (
        arith,
        length-map (filter (is_from key) ps) (λ p. p.1),
        fewer (is_from key) ps,
        size,
      )))

  -- all pairs stand from the least key on, and none above the greatest
  pub all_from_least : (ps : List (ℤ × V)) → AreKeys ps → filter (is_from (negsuc (2 ^ 127 - 1))) ps ≡ ps
  all_from_least ps fits = filter_all (is_from (negsuc (2 ^ 127 - 1))) ps (all_map (λ p. FitsSigned w128 p.0) (λ p. is_from (negsuc (2 ^ 127 - 1)) p ≡ true)
      (λ p fit. grind (arith, ints)) ps fits)

  pub none_above : (key : ℤ) (ps : List (ℤ × V)) → AreKeys ps → pos (2 ^ 127 - 1) ≤ℤ key → filter (is_above key) ps ≡ []
  none_above key ps fits last = filter_none (is_above key) ps (all_map (λ p. FitsSigned w128 p.0) (λ p. is_above key p ≡ false) (λ p fit. grind (arith, ints))
      ps fits)

  -- what stands above a key stands from the next one on
  pub from_next : (key next : ℤ) (ps : List (ℤ × V)) → next ≡ key +ℤ pos 1 → filter (is_from next) ps ≡ filter (is_above key) ps
  from_next key next [] e = refl
  from_next key next (p ∷ ps) e =
      let same : is_from next p ≡ is_above key p = grind (arith, ints) in
      rw (same, from_next key next ps e) refl
