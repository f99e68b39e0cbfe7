-- What a change of a version does to rows that stand at the keys of their ids.
use Rattle.std.proofs.Common.{◌≡◌, ℕ, ℤ, ◌==◌, nat_lt, Bool, true, false, not, cond, if◌then◌else◌, List, [], ◌∷◌, Some, None, filter, find, map, refl, sym, ap, subst, ◌∙◌, arith, int_eq, int_lt}
use Rattle.std.specs.List.{AllByRecursion}
use Rattle.std.proofs.lemmas.Bool.{eqb-true}
use Rattle.media_rows.specs.Lists.{placed}
use Rattle.media_rows.specs.Views.{id_key}
use Rattle.shared_tree.specs.Pairs.{IsRising, is_at, values, with_pair, without_key}
use Rattle.shared_tree.specs.Rows.{IsKeyedBy}
use Rattle.shared_tree.proofs.Rows.{found_is, keyed_with, keyed_without, left_out_is, placed_is, replaced_is, tests_are}
use Rattle.id_index.proofs.Ids.{below_key, same_key}

module _ {V : Type 0} (id_of : V → ℕ) where
  abbrev own : V → ℤ
  own row = id_key (id_of row)

  tests : (id : ℕ) (ps : List (ℤ × V)) → IsKeyedBy own ps → AllByRecursion (λ p. (id_of p.1 == id) ≡ is_at (id_key id) p) ps
  tests id ps keyed = tests_are own (λ row. id_of row == id) (λ k. int_eq k (id_key id)) ps (λ row. same_key (id_of row) id) keyed

  -- a row put at its place
  pub placed_values : (row : V) (ps next : List (ℤ × V)) → IsKeyedBy own ps → next ≡ with_pair (id_key (id_of row), row) ps
      → values next ≡ placed (λ a b. nat_lt (id_of a) (id_of b)) row (values ps)
  placed_values row ps next keyed is =
      ap values is
      ∙ placed_is (λ a b. nat_lt (id_of a) (id_of b)) (id_key (id_of row)) row ps
      (tests_are own (λ other. nat_lt (id_of other) (id_of row)) (λ k. int_lt k (id_key (id_of row))) ps (λ other. below_key (id_of other) (id_of row)) keyed)
      (tests_are own (λ other. nat_lt (id_of row) (id_of other)) (λ k. int_lt (id_key (id_of row)) k) ps (λ other. below_key (id_of row) (id_of other)) keyed)

  pub placed_keyed : (row : V) (ps next : List (ℤ × V)) → IsKeyedBy own ps → next ≡ with_pair (id_key (id_of row), row) ps → IsKeyedBy own next
  placed_keyed row ps next keyed is = subst (IsKeyedBy own) (sym is) (keyed_with own (id_key (id_of row)) row ps refl keyed)

  -- the row that is found has the id
  pub found_id : (id : ℕ) (rows : List V) (old : V) → Some old ≡ find (λ row. id_of row == id) rows → id_of old ≡ id
  found_id id [] old e = absurd (grind (arith, e))
  found_id id (row ∷ rows) old e = by (id_of row == id) refl e (found_id id rows old)
    where
      same : {x y : V} → Some x ≡ Some y → x ≡ y
      same e' = grind arith

      by : (t : Bool) → (id_of row == id) ≡ t → Some old ≡ cond t (Some row) (find (λ r. id_of r == id) rows)
          → (Some old ≡ find (λ r. id_of r == id) rows → id_of old ≡ id) → id_of old ≡ id
      by true h e' rest = ap id_of (same e') ∙ eqb-true (id_of row) id h
      by false h e' rest = rest e'

  -- a row of an id changed
  pub changed_values : (id : ℕ) (change : V → V) (old new : V) (ps next : List (ℤ × V)) → IsRising ps → IsKeyedBy own ps
      → Some old ≡ find (λ row. id_of row == id) (values ps) → new ≡ change old → next ≡ with_pair (id_key id, new) ps
      → values next ≡ map (λ row. if id_of row == id then change row else row) (values ps)
  changed_values id change old new ps next rising keyed found made is =
      ap values (is ∙ ap (λ row. with_pair (id_key id, row) ps) made)
      ∙ replaced_is (λ row. id_of row == id) change (id_key id) old ps rising (tests id ps keyed)
      (found_is (λ row. id_of row == id) (id_key id) ps (tests id ps keyed) ∙ sym found)

  pub changed_keyed : (id : ℕ) (change : V → V) (old new : V) (ps next : List (ℤ × V)) → ((row : V) → id_of (change row) ≡ id_of row) → IsKeyedBy own ps
      → Some old ≡ find (λ row. id_of row == id) (values ps) → new ≡ change old → next ≡ with_pair (id_key id, new) ps → IsKeyedBy own next
  changed_keyed id change old new ps next stays keyed found made is =
      subst (IsKeyedBy own) (sym is) (keyed_with own (id_key id) new ps (ap id_key (sym (ap id_of made ∙ stays old ∙ found_id id (values ps) old found))) keyed)

  -- no row of that id, so none is changed
  none_changed : (id : ℕ) (change : V → V) (rows : List V) → None ≡ find (λ row. id_of row == id) rows
      → rows ≡ map (λ row. if id_of row == id then change row else row) rows
  none_changed id change [] e = refl
  none_changed id change (row ∷ rows) e = by (id_of row == id) e (none_changed id change rows)
    where
      by : (t : Bool) → None ≡ cond t (Some row) (find (λ r. id_of r == id) rows)
          → (None ≡ find (λ r. id_of r == id) rows → rows ≡ map (λ r. if id_of r == id then change r else r) rows)
          → row ∷ rows ≡ (if t then change row else row) ∷ map (λ r. if id_of r == id then change r else r) rows
      by true e' rest = absurd (grind (arith, e'))
      by false e' rest = ap (λ l. row ∷ l) (rest e')

  pub unchanged_values : (id : ℕ) (change : V → V) (ps next : List (ℤ × V)) → None ≡ find (λ row. id_of row == id) (values ps) → next ≡ ps
      → values next ≡ map (λ row. if id_of row == id then change row else row) (values ps)
  unchanged_values id change ps next none is = ap values is ∙ none_changed id change (values ps) none

  -- the row of an id left out
  pub left_values : (id : ℕ) (ps next : List (ℤ × V)) → IsRising ps → IsKeyedBy own ps → next ≡ without_key (id_key id) ps
      → values next ≡ filter (λ row. not (id_of row == id)) (values ps)
  left_values id ps next rising keyed is = ap values is ∙ left_out_is (λ row. id_of row == id) (id_key id) ps rising (tests id ps keyed)

  pub left_keyed : (id : ℕ) (ps next : List (ℤ × V)) → IsKeyedBy own ps → next ≡ without_key (id_key id) ps → IsKeyedBy own next
  left_keyed id ps next keyed is = subst (IsKeyedBy own) (sym is) (keyed_without own (id_key id) ps keyed)
