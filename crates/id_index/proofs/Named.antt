-- What a change of rows makes of the ids of those that name an id, and of an index of them.
use Rattle.std.proofs.Common.{◌≡◌, ℕ, ℤ, int_lt, Bool, true, false, cond, if◌then◌else◌, List, [], ◌∷◌, ◌++◌, Option, Some, None, filter, map, refl, sym, ap, subst, ◌∙◌, arith}
use Rattle.std.proofs.lemmas.List.{map-append}
use Rattle.std.proofs.lemmas.List.Elements.{filter-append}
use Rattle.media_rows.specs.Lists.{has_number}
use Rattle.media_rows.specs.Views.{id_key}
use Rattle.shared_tree.specs.Pairs.{IsRising, is_above, is_below, value_at, with_pair, without_key}
use Rattle.shared_tree.proofs.Rising.{around, cut_at, put_at}
use Rattle.id_index.specs.Index.{IsIndexOf, Links, Unlinks, changed_row, has_pairs, ids_at, naming}
use Rattle.id_index.proofs.Pairs.{filter_swap, none_left_out, standing, with_without}

-- a pair that is put is there
module _ {V : Type 0} where
  pub put_there : (pair : ℤ × V) (ps : List (ℤ × V)) → has_pairs (with_pair pair ps) ≡ true
  put_there pair ps = by (filter (is_below pair.0) ps)
    where
      by : (l : List (ℤ × V)) → has_pairs (l ++ pair ∷ filter (is_above pair.0) ps) ≡ true
      by [] = refl
      by (p ∷ l) = refl

  pub none_there : (ps : List (ℤ × V)) → has_pairs ps ≡ false → ps ≡ []
  none_there [] e = refl
  none_there (p ∷ ps) e = absurd (grind (arith, e))

module _ {V : Type 0} (id_of : V → ℕ) (named : V → List ℕ) where
  abbrev mark : ℤ × V → ℤ × ℕ
  mark p = (p.0, id_of p.1)

  abbrev names : ℕ → ℤ × V → Bool
  names a p = has_number a (named p.1)

  abbrev marks : ℕ → List (ℤ × V) → List (ℤ × ℕ)
  marks a ps = naming id_of named a ps

  -- a test of keys before or behind
  marked : (test : ℤ → Bool) (ps : List (ℤ × V)) → map mark (filter (λ p. test p.0) ps) ≡ filter (λ p. test p.0) (map mark ps)
  marked test [] = refl
  marked test (p ∷ ps) = by (test p.0) (marked test ps)
    where
      by : (t : Bool) → map mark (filter (λ q. test q.0) ps) ≡ filter (λ q. test q.0) (map mark ps)
          → map mark (cond t (p ∷ filter (λ q. test q.0) ps) (filter (λ q. test q.0) ps)) ≡ cond t (mark p ∷ filter (λ q. test q.0) (map mark ps))
          (filter (λ q. test q.0) (map mark ps))
      by true ih = ap (λ l. mark p ∷ l) ih
      by false ih = ih

  kept_below : (a : ℕ) (key : ℤ) (ps : List (ℤ × V)) → map mark (filter (names a) (filter (is_below key) ps)) ≡ filter (is_below key) (marks a ps)
  kept_below a key ps = ap (map mark) (filter_swap (is_below key) (names a) ps) ∙ marked (λ k. int_lt k key) (filter (names a) ps)

  kept_above : (a : ℕ) (key : ℤ) (ps : List (ℤ × V)) → map mark (filter (names a) (filter (is_above key) ps)) ≡ filter (is_above key) (marks a ps)
  kept_above a key ps = ap (map mark) (filter_swap (is_above key) (names a) ps) ∙ marked (λ k. int_lt key k) (filter (names a) ps)

  joined : (a : ℕ) (l r : List (ℤ × V)) → marks a (l ++ r) ≡ marks a l ++ marks a r
  joined a l r = ap (map mark) (filter-append (names a) l r) ∙ map-append mark (filter (names a) l) (filter (names a) r)

  pub naming_without : (a : ℕ) (key : ℤ) (ps : List (ℤ × V)) → marks a (without_key key ps) ≡ without_key key (marks a ps)
  naming_without a key ps = joined a (filter (is_below key) ps) (filter (is_above key) ps) ∙ rw (kept_below a key ps, kept_above a key ps) refl

  pub naming_with : (a : ℕ) (key : ℤ) (row : V) (ps : List (ℤ × V))
      → marks a (with_pair (key, row) ps) ≡ (if has_number a (named row) then with_pair (key, id_of row) (marks a ps) else without_key key (marks a ps))
  naming_with a key row ps = joined a (filter (is_below key) ps) ((key, row) ∷ filter (is_above key) ps) ∙ by (has_number a (named row)) refl
    where
      by : (t : Bool) → has_number a (named row) ≡ t → marks a (filter (is_below key) ps) ++ marks a ((key, row) ∷ filter (is_above key) ps)
          ≡ (if t then with_pair (key, id_of row) (marks a ps) else without_key key (marks a ps))
      by true e = rw (e, kept_below a key ps, kept_above a key ps) refl
      by false e = rw (e, kept_below a key ps, kept_above a key ps) refl

  -- a row that names an id stands there
  pub named_there : (a : ℕ) (key : ℤ) (row : V) (ps : List (ℤ × V)) → value_at key ps ≡ Some row → has_number a (named row) ≡ true
      → has_pairs (marks a ps) ≡ true
  named_there a key row ps found names_it =
      let there = standing key row ps found in
      let here : marks a ((key, row) ∷ there.right) ≡ (key, id_of row) ∷ marks a there.right = rw names_it refl in
      ap (λ l. has_pairs (marks a l)) there.is ∙ ap has_pairs (joined a there.left ((key, row) ∷ there.right) ∙ ap (λ l. marks a there.left ++ l) here) ∙ by
      (marks a there.left) (marks a there.right)
    where
      by : (l r : List (ℤ × ℕ)) → has_pairs (l ++ (key, id_of row) ∷ r) ≡ true
      by [] r = refl
      by (q ∷ l) r = refl

  -- ---- one row that goes, comes or changes

  pub index_without : (id : ℕ) (old : V) (ps : List (ℤ × V)) (index next : List (ℤ × List (ℤ × ℕ))) → IsRising ps → value_at (id_key id) ps ≡ Some old
      → IsIndexOf id_of named ps index → Unlinks (named old) id index next → IsIndexOf id_of named (without_key (id_key id) ps) next
  index_without id old ps index next rising found indexed gone a = gone a ∙ by (has_number a (named old)) refl
    where
      key : ℤ
      key = id_key id

      by : (t : Bool) → has_number a (named old) ≡ t → (if t then without_key key (ids_at a index) else ids_at a index) ≡ marks a (without_key key ps)
      by true e = ap (without_key key) (indexed a) ∙ sym (naming_without a key ps)
      by false e =
          let there = standing key old ps found in
          let cut : without_key key ps ≡ there.left ++ there.right = ap (without_key key) there.is ∙ cut_at key there.left (key, old) there.right
          (around there.left (key, old) there.right (subst IsRising there.is rising)) refl in
          let here : marks a ((key, old) ∷ there.right) ≡ marks a there.right = rw e refl in
          indexed a ∙ ap (marks a) there.is ∙ joined a there.left ((key, old) ∷ there.right) ∙ ap (λ l. marks a there.left ++ l) here ∙ sym
          (ap (marks a) cut ∙ joined a there.left there.right)

  pub index_with : (id : ℕ) (row : V) (ps : List (ℤ × V)) (index next : List (ℤ × List (ℤ × ℕ))) → id_of row ≡ id
      → IsIndexOf id_of named (without_key (id_key id) ps) index → Links (named row) id index next → IsIndexOf id_of named (with_pair (id_key id, row) ps) next
  index_with id row ps index next same indexed come a = come a ∙ by (has_number a (named row)) refl
    where
      key : ℤ
      key = id_key id

      by : (t : Bool) → has_number a (named row) ≡ t → (if t then with_pair (key, id) (ids_at a index) else ids_at a index) ≡ marks a (with_pair (key, row) ps)
      by true e =
          ap (λ l. with_pair (key, id) l) (indexed a ∙ naming_without a key ps)
          ∙ with_without key id (marks a ps)
          ∙ ap (λ i. with_pair (key, i) (marks a ps)) (sym same)
          ∙ sym (naming_with a key row ps ∙ rw e refl)
      by false e = indexed a ∙ naming_without a key ps ∙ sym (naming_with a key row ps ∙ rw e refl)

  -- no row stands at the id, so none names anything
  pub index_none : (id : ℕ) (ps : List (ℤ × V)) (index : List (ℤ × List (ℤ × ℕ))) → IsRising ps → value_at (id_key id) ps ≡ None
      → IsIndexOf id_of named ps index → IsIndexOf id_of named (without_key (id_key id) ps) index
  index_none id ps index rising none indexed a = indexed a ∙ sym (ap (marks a) (none_left_out (id_key id) ps rising none))

  same_marks : (a : ℕ) (key : ℤ) (old row : V) (ps : List (ℤ × V)) → named row ≡ named old → id_of row ≡ id_of old
      → marks a ((key, old) ∷ ps) ≡ marks a ((key, row) ∷ ps)
  same_marks a key old row ps same_names same_id = by (has_number a (named old)) (has_number a (named row)) refl refl (ap (has_number a) same_names)
    where
      by : (s t : Bool) → has_number a (named old) ≡ s → has_number a (named row) ≡ t → has_number a (named row) ≡ has_number a (named old)
          → marks a ((key, old) ∷ ps) ≡ marks a ((key, row) ∷ ps)
      by true true es et e = rw (es, et) (ap (λ i. (key, i) ∷ marks a ps) (sym same_id))
      by false false es et e = rw (es, et) refl
      by true false es et e = absurd (let f = sym et ∙ e ∙ es in grind (arith, f))
      by false true es et e = absurd (let f = sym et ∙ e ∙ es in grind (arith, f))

  -- a row that names what it named
  pub index_kept : (id : ℕ) (old row : V) (ps : List (ℤ × V)) (index : List (ℤ × List (ℤ × ℕ))) → IsRising ps → value_at (id_key id) ps ≡ Some old
      → named row ≡ named old → id_of row ≡ id_of old → IsIndexOf id_of named ps index → IsIndexOf id_of named (with_pair (id_key id, row) ps) index
  index_kept id old row ps index rising found same_names same_id indexed a =
      let key = id_key id in
      let there = standing key old ps found in
      let put : with_pair (key, row) ps ≡ there.left ++ (key, row) ∷ there.right = ap (λ l. with_pair (key, row) l) there.is ∙ put_at key row there.left
      (key, old) there.right (around there.left (key, old) there.right (subst IsRising there.is rising)) refl in
      let here = same_marks a key old row there.right same_names same_id in
      indexed a ∙ ap (marks a) there.is ∙ joined a there.left ((key, old) ∷ there.right) ∙ ap (λ l. marks a there.left ++ l) here ∙ sym
      (ap (marks a) put ∙ joined a there.left ((key, row) ∷ there.right))

  -- a change that leaves what each row names
  pub index_changed : (id : ℕ) (change : V → V) (ps : List (ℤ × V)) (index : List (ℤ × List (ℤ × ℕ))) → IsRising ps
      → ((row : V) → named (change row) ≡ named row) → ((row : V) → id_of (change row) ≡ id_of row) → IsIndexOf id_of named ps index
      → IsIndexOf id_of named (changed_row (id_key id) change (value_at (id_key id) ps) ps) index
  index_changed id change ps index rising names_stay id_stays indexed = by (value_at (id_key id) ps) refl
    where
      by : (found : Option V) → value_at (id_key id) ps ≡ found → IsIndexOf id_of named (changed_row (id_key id) change found ps) index
      by None e = indexed
      by (Some old) e = index_kept id old (change old) ps index rising e (names_stay old) (id_stays old) indexed
