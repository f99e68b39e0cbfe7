-- Links to several ids, made one after the other.
use Rattle.std.proofs.Common.{◌≡◌, ℕ, ℤ, ◌==◌, Bool, true, false, ◌||◌, cond, if◌then◌else◌, List, [], ◌∷◌, Some, None, unwrap_or, refl, ap, ◌∙◌, arith, int_eq}
use Rattle.media_rows.specs.Lists.{has_number}
use Rattle.media_rows.specs.Views.{id_key}
use Rattle.shared_tree.specs.Pairs.{value_at, with_pair, without_key}
use Rattle.id_index.specs.Index.{ids_at}
use Rattle.id_index.specs.Within.Steps.{Sets, linked, unlinked}
use Rattle.id_index.proofs.Ids.{same_key}
use Rattle.id_index.proofs.Pairs.{value_at_with, value_at_without, with_with, without_without}

pub linked_is : (a id : ℕ) (to : List ℕ) (ids : List (ℤ × ℕ)) → linked a id to ids ≡ (if has_number a to then with_pair (id_key id, id) ids else ids)
linked_is a id [] ids = refl
linked_is a id (x ∷ to) ids = by (a == x) (has_number a to) (linked_is a id to (with_pair (id_key id, id) ids)) (linked_is a id to ids)
  where
    by : (s t : Bool) → linked a id to (with_pair (id_key id, id) ids) ≡ cond t (with_pair (id_key id, id) (with_pair (id_key id, id) ids))
        (with_pair (id_key id, id) ids) → linked a id to ids ≡ cond t (with_pair (id_key id, id) ids) ids
        → linked a id to (cond s (with_pair (id_key id, id) ids) ids) ≡ cond (s || t) (with_pair (id_key id, id) ids) ids
    by true true put stay = put ∙ with_with (id_key id) id id ids
    by true false put stay = put
    by false true put stay = stay
    by false false put stay = stay

pub unlinked_is : (a id : ℕ) (to : List ℕ) (ids : List (ℤ × ℕ)) → unlinked a id to ids ≡ (if has_number a to then without_key (id_key id) ids else ids)
unlinked_is a id [] ids = refl
unlinked_is a id (x ∷ to) ids = by (a == x) (has_number a to) (unlinked_is a id to (without_key (id_key id) ids)) (unlinked_is a id to ids)
  where
    by : (s t : Bool) → unlinked a id to (without_key (id_key id) ids) ≡ cond t (without_key (id_key id) (without_key (id_key id) ids))
        (without_key (id_key id) ids) → unlinked a id to ids ≡ cond t (without_key (id_key id) ids) ids
        → unlinked a id to (cond s (without_key (id_key id) ids) ids) ≡ cond (s || t) (without_key (id_key id) ids) ids
    by true true cut stay = cut ∙ without_without (id_key id) ids
    by true false cut stay = cut
    by false true cut stay = stay
    by false false cut stay = stay

-- ids put at one, and what stood at one left out
pub ids_put : (to : ℕ) (ids : List (ℤ × ℕ)) (old new : List (ℤ × List (ℤ × ℕ))) → new ≡ with_pair (id_key to, ids) old → Sets to ids old new
ids_put to ids old new is a =
    ap (ids_at a) is ∙ ap (λ o. unwrap_or o []) (value_at_with (id_key a) (id_key to) ids old) ∙ by (a == to) (int_eq (id_key a) (id_key to)) (same_key a to)
  where
    by : (s t : Bool) → s ≡ t → unwrap_or (cond t (Some ids) (value_at (id_key a) old)) [] ≡ cond s ids (ids_at a old)
    by true true e = refl
    by false false e = refl
    by true false e = absurd (grind (arith, e))
    by false true e = absurd (grind (arith, e))

pub ids_gone : (to : ℕ) (old new : List (ℤ × List (ℤ × ℕ))) → new ≡ without_key (id_key to) old → Sets to [] old new
ids_gone to old new is a =
    ap (ids_at a) is ∙ ap (λ o. unwrap_or o []) (value_at_without (id_key a) (id_key to) old) ∙ by (a == to) (int_eq (id_key a) (id_key to)) (same_key a to)
  where
    by : (s t : Bool) → s ≡ t → unwrap_or (cond t None (value_at (id_key a) old)) [] ≡ cond s [] (ids_at a old)
    by true true e = refl
    by false false e = refl
    by true false e = absurd (grind (arith, e))
    by false true e = absurd (grind (arith, e))
