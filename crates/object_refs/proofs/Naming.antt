-- Ids in names: what a new entry and one that is left out do to the serials that are found.
use Rattle.std.proofs.Common.{◌≡◌, ◌≢◌, ℕ, Bool, true, false, not, cond, List, [], ◌∷◌, ◌++◌, Option, Some, None, bytes_eq, find, option_map, unwrap_or, int_eq, refl, sym, ap, subst, ◌∙◌, arith}
use Rattle.std.proofs.lemmas.Slice.Eq.{bytes_eq-Decides}
use Rattle.media_rows.specs.Views.{id_key}
use Rattle.shared_tree.specs.Pairs.{with_pair, without_key}
use Rattle.object_refs.specs.declared.names.Named.{Named}
use Rattle.object_refs.specs.NameTables.{Names, Renames, bucket_at, is_named_so, serial_in, serial_named}
use Rattle.object_refs.specs.Within.Names.{bucket_with, bucket_without}
use Rattle.object_refs.proofs.Looks.{looked_with, looked_with_other, looked_without, looked_without_other, same_is}
use Rattle.object_refs.proofs.Numbers.{same_number}

pub same_bytes : (a b : List ℕ) → bytes_eq a b ≡ true → a ≡ b
same_bytes a b e = let d = bytes_eq-Decides a b in d.0 e

pub bytes_same : (a b : List ℕ) → a ≡ b → bytes_eq a b ≡ true
bytes_same a b e = let d = bytes_eq-Decides a b in d.1 e

-- ids that differ differ both ways
pub bytes_differ : (a b : List ℕ) → bytes_eq a b ≡ false → bytes_eq b a ≡ false
bytes_differ a b e = by (bytes_eq b a) refl
  where
    by : (t : Bool) → bytes_eq b a ≡ t → bytes_eq b a ≡ false
    by true h = absurd (let yes = bytes_same a b (sym (same_bytes b a h)) in grind (arith, yes, e))
    by false h = h

-- ids that differ aren't one
pub other_id : (id other : List ℕ) → bytes_eq other id ≡ false → other ≢ id
other_id id other differs e = let same = bytes_same other id e in grind (arith, same, differs)

id_differs : (id other : List ℕ) → other ≢ id → bytes_eq other id ≡ false
id_differs id other differs = by (bytes_eq other id) refl
  where
    by : (t : Bool) → bytes_eq other id ≡ t → bytes_eq other id ≡ false
    by true e = absurd (differs (same_bytes other id e))
    by false e = e

-- ---- an entry left out

left_out : (id : List ℕ) (bucket : List Named) → serial_in id (bucket_without id bucket) ≡ None
left_out id [] = refl
left_out id (entry ∷ bucket) = by (bytes_eq entry.id id) refl (left_out id bucket)
  where
    by : (t : Bool) → bytes_eq entry.id id ≡ t → serial_in id (bucket_without id bucket) ≡ None
        → serial_in id (cond (not t) (entry ∷ bucket_without id bucket) (bucket_without id bucket)) ≡ None
    by true e ih = ih
    by false e ih = rw e ih

left_in : (id other : List ℕ) (bucket : List Named) → bytes_eq other id ≡ false → serial_in other (bucket_without id bucket) ≡ serial_in other bucket
left_in id other [] differs = refl
left_in id other (entry ∷ bucket) differs = by (bytes_eq entry.id id) (bytes_eq entry.id other) refl refl (left_in id other bucket differs)
  where
    by : (t s : Bool) → bytes_eq entry.id id ≡ t → bytes_eq entry.id other ≡ s → serial_in other (bucket_without id bucket) ≡ serial_in other bucket
        → serial_in other (cond (not t) (entry ∷ bucket_without id bucket) (bucket_without id bucket)) ≡ option_map (λ e. e.serial)
        (cond s (Some entry) (find (is_named_so other) bucket))
    by true true e f ih = absurd (let same = bytes_same other id (sym (same_bytes entry.id other f) ∙ same_bytes entry.id id e) in grind (arith, same, differs))
    by true false e f ih = ih
    by false true e f ih = rw f refl
    by false false e f ih = rw f ih

-- ---- a new entry

-- what an entry behind others gives, where they give nothing
behind_none : (id : List ℕ) (bucket : List Named) (entry : Named) → serial_in id bucket ≡ None → serial_in id (bucket ++ entry ∷ []) ≡ serial_in id (entry ∷ [])
behind_none id [] entry none = refl
behind_none id (first ∷ bucket) entry none = by (bytes_eq first.id id) refl (λ f. behind_none id bucket entry f)
  where
    by : (t : Bool) → bytes_eq first.id id ≡ t → (serial_in id bucket ≡ None → serial_in id (bucket ++ entry ∷ []) ≡ serial_in id (entry ∷ []))
        → serial_in id ((first ∷ bucket) ++ entry ∷ []) ≡ serial_in id (entry ∷ [])
    by true e ih = absurd (let f : Some first.serial ≡ None = rw e at none in grind (arith, f))
    by false e ih = rw e (ih (rw e at none))

entry_found : (entry : Named) (bucket : List Named) → serial_in entry.id (bucket_with entry bucket) ≡ Some entry.serial
entry_found entry bucket =
    behind_none entry.id (bucket_without entry.id bucket) entry (left_out entry.id bucket) ∙ rw (bytes_same entry.id entry.id refl) refl

-- an entry of another id behind others changes nothing
behind_other : (other : List ℕ) (bucket : List Named) (entry : Named) → bytes_eq entry.id other ≡ false
    → serial_in other (bucket ++ entry ∷ []) ≡ serial_in other bucket
behind_other other [] entry differs = rw differs refl
behind_other other (first ∷ bucket) entry differs = by (bytes_eq first.id other) refl (behind_other other bucket entry differs)
  where
    by : (t : Bool) → bytes_eq first.id other ≡ t → serial_in other (bucket ++ entry ∷ []) ≡ serial_in other bucket
        → serial_in other ((first ∷ bucket) ++ entry ∷ []) ≡ serial_in other (first ∷ bucket)
    by true e ih = rw e refl
    by false e ih = rw e ih

entry_passed : (entry : Named) (bucket : List Named) (other : List ℕ) → bytes_eq other entry.id ≡ false
    → serial_in other (bucket_with entry bucket) ≡ serial_in other bucket
entry_passed entry bucket other e =
    behind_other other (bucket_without entry.id bucket) entry (bytes_differ other entry.id e) ∙ left_in entry.id other bucket e

-- ---- a bucket that is put, or taken out

-- a bucket put at its number's key
put_here : (number : ℕ) (bucket : List Named) (names : Names) → bucket_at number (with_pair (id_key number, bucket) names) ≡ bucket
put_here number bucket names = ap (λ o. unwrap_or o []) (looked_with (id_key number) bucket names)

put_there : (number n : ℕ) (bucket : List Named) (names : Names) → int_eq (id_key number) (id_key n) ≡ false
    → bucket_at n (with_pair (id_key number, bucket) names) ≡ bucket_at n names
put_there number n bucket names e = ap (λ o. unwrap_or o []) (looked_with_other (id_key n) (id_key number) bucket names e)

gone_here : (number : ℕ) (names : Names) → bucket_at number (without_key (id_key number) names) ≡ []
gone_here number names = ap (λ o. unwrap_or o []) (looked_without (id_key number) names)

gone_there : (number n : ℕ) (names : Names) → int_eq (id_key number) (id_key n) ≡ false
    → bucket_at n (without_key (id_key number) names) ≡ bucket_at n names
gone_there number n names e = ap (λ o. unwrap_or o []) (looked_without_other (id_key n) (id_key number) names e)

-- a table that differs in one bucket alone, which gives what it should
renamed : (number : ℕ) (id : List ℕ) (serial : Option ℕ) (bucket : List Named) (old new : Names) → bucket_at number new ≡ bucket
    → ((n : ℕ) → int_eq (id_key number) (id_key n) ≡ false → bucket_at n new ≡ bucket_at n old) → serial_in id bucket ≡ serial
    → ((other : List ℕ) → bytes_eq other id ≡ false → serial_in other bucket ≡ serial_in other (bucket_at number old))
    → Renames number id serial old new
renamed number id serial bucket old new here there is same = record {
  this = ap (serial_in id) here ∙ is;
  others = others;
}
  where
    others : (n : ℕ) (other : List ℕ) → (n ≡ number → other ≢ id) → serial_named n other new ≡ serial_named n other old
    others n other differs = by (int_eq (id_key number) (id_key n)) refl
      where
        by : (t : Bool) → int_eq (id_key number) (id_key n) ≡ t → serial_named n other new ≡ serial_named n other old
        by true e =
            let one : number ≡ n = same_number number n (same_is (id_key number) (id_key n) e) in
            subst (λ m. serial_named m other new ≡ serial_named m other old) one
            (ap (serial_in other) here ∙ same other (id_differs id other (differs (sym one))))
        by false e = ap (serial_in other) (there n e)

pub named_with : (number : ℕ) (entry : Named) (bucket : List Named) (old new : Names) → bucket ≡ bucket_with entry (bucket_at number old)
    → new ≡ with_pair (id_key number, bucket) old → Renames number entry.id (Some entry.serial) old new
named_with number entry bucket old new made is =
    rw (is, made) (renamed number entry.id (Some entry.serial) (bucket_with entry (bucket_at number old)) old
    (with_pair (id_key number, bucket_with entry (bucket_at number old)) old) (put_here number (bucket_with entry (bucket_at number old)) old)
    (λ n e. put_there number n (bucket_with entry (bucket_at number old)) old e) (entry_found entry (bucket_at number old))
    (λ other e. entry_passed entry (bucket_at number old) other e))

pub named_without : (number : ℕ) (id : List ℕ) (bucket : List Named) (old new : Names) → bucket ≡ bucket_without id (bucket_at number old)
    → new ≡ with_pair (id_key number, bucket) old → Renames number id None old new
named_without number id bucket old new made is =
    rw (is, made) (renamed number id None (bucket_without id (bucket_at number old)) old
    (with_pair (id_key number, bucket_without id (bucket_at number old)) old) (put_here number (bucket_without id (bucket_at number old)) old)
    (λ n e. put_there number n (bucket_without id (bucket_at number old)) old e) (left_out id (bucket_at number old))
    (λ other e. left_in id other (bucket_at number old) e))

-- the last entry of a number goes with its bucket
pub named_none : (number : ℕ) (id : List ℕ) (bucket : List Named) (old new : Names) → bucket ≡ bucket_without id (bucket_at number old) → bucket ≡ []
    → new ≡ without_key (id_key number) old → Renames number id None old new
named_none number id bucket old new made none is =
    rw is (renamed number id None [] old (without_key (id_key number) old) (gone_here number old) (λ n e. gone_there number n old e) refl
    (λ other e. ap (serial_in other) (sym (sym made ∙ none)) ∙ left_in id other (bucket_at number old) e))
