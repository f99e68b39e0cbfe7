-- The place for an object is the least one that is free.
use Rattle.std.proofs.Common.{◌≡◌, inl, inr, ℕ, zero, suc, ◌+◌, ◌<◌, Bool, true, false, cond, List, [], ◌∷◌, ◌++◌, Option, Some, None, refl, sym, ap, subst, ◌∙◌, arith}
use Rattle.std.specs.Prelude.{◌==◌, nat_le, find, IsFalse, MatchOption}
use Rattle.std.specs.List.{list_all}
use Rattle.std.proofs.lemmas.Bool.{and_from, or_left, le-leb, eqb-true, eqb-false, cases_eq}
use Rattle.media_rows.specs.declared.object.ObjectRow.{ObjectRow}
use Rattle.media_rows.specs.declared.object.ObjectState.{ObjectState}
use Rattle.media_rows.specs.declared.object.ObjectState.TheVariants.{Allocated, Stored}
use Rattle.media_rows.specs.Lists.{numbers_below}
use Rattle.media_rows.specs.Objects.{is_free, is_clear_of, blocks_of}
use Rattle.library_laws.specs.Laws.{IsLeastPlace, PlacesAreLeast}
use Rattle.library_laws.proofs.ListLemmas.{list_all-from_In}

-- what the first number that passes is, among those below another
Least : (ℕ → Bool) → ℕ → Option ℕ → Type 0
Least p n o = MatchOption o ((k : ℕ) → k < n → p k ≡ false) (λ b. (p b ≡ true) × (b < n) × ((k : ℕ) → k < b → p k ≡ false))

first_of_two : Option ℕ → Option ℕ → Option ℕ
first_of_two None o = o
first_of_two (Some n) o = Some n

behind_step : (b : Bool) (x : ℕ) (all rest last : Option ℕ) → all ≡ first_of_two rest last → cond b (Some x) all ≡ first_of_two (cond b (Some x) rest) last
unfolding first_of_two
behind_step true x all rest last e = refl
behind_step false x all rest last e = e

find-behind : (p : ℕ → Bool) (xs : List ℕ) (n : ℕ) → find p (xs ++ n ∷ []) ≡ first_of_two (find p xs) (cond (p n) (Some n) None)
unfolding first_of_two
find-behind p [] n = refl
find-behind p (x ∷ xs) n = behind_step (p x) x (find p (xs ++ n ∷ [])) (find p xs) (cond (p n) (Some n) None) (find-behind p xs n)

least_step : (p : ℕ → Bool) (n : ℕ) (b : Bool) → p n ≡ b → (o : Option ℕ) → Least p n o → Least p (suc n) (first_of_two o (cond b (Some n) None))
unfolding Least first_of_two
least_step p n true e None none = (e, omega arith, none)
least_step p n false e None none = λ k less. elim (cases_eq k n) [ inl same ↦ ap p same ∙ e | inr other ↦ none k (omega arith) ]
least_step p n b e (Some m) some = (some.0, omega (arith, some.1), some.2)

none_below : (p : ℕ → Bool) → Least p 0 None
unfolding Least
none_below p = λ k less. absurd (omega arith)

least_found : (p : ℕ → Bool) (n : ℕ) → Least p n (find p (numbers_below n))
unfolding numbers_below
least_found p zero = none_below p
least_found p (suc n) = subst (Least p (suc n)) (sym (find-behind p (numbers_below n) n))
    (least_step p n (p n) refl (find p (numbers_below n)) (least_found p n))

-- no blocks are clear of everything
nothing_clear : (state : ObjectState) → is_clear_of 0 0 state ≡ true
nothing_clear Allocated = refl
nothing_clear (Stored start size digest) = or_left (nat_le (0 + 0) start) (nat_le (start + blocks_of size) 0) (le-leb (0 + 0) start (omega arith))

no_blocks : (objects : List ObjectRow) (blocks : ℕ) → IsLeastPlace objects blocks 0 0
no_blocks objects blocks = record {
  free = and_from (nat_le (0 + 0) blocks) (list_all (λ row. is_clear_of 0 0 row.state) objects) (le-leb (0 + 0) blocks (omega arith))
      (list_all-from_In (λ row. is_clear_of 0 0 row.state) objects (λ row here. nothing_clear row.state));
  zero = λ e. refl;
  least = λ lower less. absurd (omega arith);
}

some_blocks : (objects : List ObjectRow) (blocks count : ℕ) → (count ≡ 0 → ⊥) → (o : Option ℕ) → Least (is_free objects blocks count) blocks o
    → MatchOption o ((place : ℕ) → place < blocks → IsFalse (is_free objects blocks count place)) (IsLeastPlace objects blocks count)
unfolding Least
some_blocks objects blocks count some None none = none
some_blocks objects blocks count some (Some place) is = record { free = is.0; zero = λ e. absurd (some e); least = is.2 }

places_by : (objects : List ObjectRow) (blocks count : ℕ) (b : Bool) → (count == 0) ≡ b
    → MatchOption (cond b (Some 0) (find (is_free objects blocks count) (numbers_below blocks)))
    ((place : ℕ) → place < blocks → IsFalse (is_free objects blocks count place)) (IsLeastPlace objects blocks count)
places_by objects blocks count true e = subst (λ c. IsLeastPlace objects blocks c 0) (sym (eqb-true count 0 e)) (no_blocks objects blocks)
places_by objects blocks count false e = some_blocks objects blocks count (eqb-false count 0 e) (find (is_free objects blocks count) (numbers_below blocks))
    (least_found (is_free objects blocks count) blocks)

pub places_are_least : PlacesAreLeast
places_are_least objects blocks count = places_by objects blocks count (count == 0) refl
