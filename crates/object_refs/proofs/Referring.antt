-- The references to one object among those of a book.
use Rattle.std.proofs.Common.{◌≡◌, ℕ, ℤ, ◌<ℤ◌, Bool, true, false, cond, List, [], ◌∷◌, ◌++◌, Some, None, bytes_eq, length, map, refl, sym, ap, subst, ◌∙◌, arith}
use Rattle.std.specs.List.{AllByRecursion}
use Rattle.std.proofs.lemmas.List.{length-map}
use Rattle.std.proofs.lemmas.List.Elements.{filter-append}
use Rattle.media_rows.specs.declared.segment.SegmentRow.{SegmentRow}
use Rattle.media_rows.specs.Objects.{reference_count, references}
use Rattle.shared_tree.specs.Pairs.{IsRising, is_at, value_at, values}
use Rattle.shared_tree.specs.Rows.{IsKeyedBy}
use Rattle.object_refs.specs.declared.kept.Kept.{Kept}
use Rattle.object_refs.specs.NameTables.{Names}
use Rattle.object_refs.specs.References.{kept_of, reference_of, references_in, references_to}
use Rattle.object_refs.specs.Within.Books.{IsInverse, id_at, kept_key, name_at}
use Rattle.object_refs.proofs.Inverse.{some_same}
use Rattle.object_refs.proofs.Looks.{above_differs, looked_here, looked_past, same_is}
use Rattle.object_refs.proofs.Found.{found_seen, tests_at}
use Rattle.object_refs.proofs.Naming.{same_bytes}

pub refs_same : (own id : List ℕ) (flows : List ℕ) → bytes_eq own id ≡ true → references (map (reference_of own) flows) id ≡ map (reference_of own) flows
refs_same own id [] e = refl
refs_same own id (f ∷ flows) e = rw e (ap (λ l. reference_of own f ∷ l) (refs_same own id flows e))

pub refs_other : (own id : List ℕ) (flows : List ℕ) → bytes_eq own id ≡ false → references (map (reference_of own) flows) id ≡ []
refs_other own id [] e = refl
refs_other own id (f ∷ flows) e = rw e (refs_other own id flows e)

pub refs_append : (l r : List SegmentRow) (id : List ℕ) → references (l ++ r) id ≡ references l id ++ references r id
refs_append l r id = filter-append (λ row. bytes_eq row.segment.object id) l r

pub append_nothing : {X : Type 0} (l : List X) → l ++ [] ≡ l
append_nothing [] = refl
append_nothing (x ∷ l) = ap (λ r. x ∷ r) (append_nothing l)

-- an object that isn't kept has none
pub refs_missing : (id : List ℕ) (kept : List Kept) → kept_of id kept ≡ None → references (references_in kept) id ≡ []
refs_missing id [] e = refl
refs_missing id (k ∷ kept) e = by (bytes_eq k.row.id id) refl e (refs_missing id kept)
  where
    by : (t : Bool) → bytes_eq k.row.id id ≡ t → cond t (Some k) (kept_of id kept) ≡ None → (kept_of id kept ≡ None → references (references_in kept) id ≡ [])
        → references (references_in (k ∷ kept)) id ≡ []
    by true et f ih = absurd (grind (arith, f))
    by false et f ih = refs_append (references_to k) (references_in kept) id
        ∙ ap (λ l. l ++ references (references_in kept) id) (refs_other k.row.id id k.flows et) ∙ ih f

refs_none : (id : List ℕ) (rows : List (ℤ × Kept)) → AllByRecursion (λ p. bytes_eq p.1.row.id id ≡ false) rows
    → references (references_in (values rows)) id ≡ []
refs_none id [] h = refl
refs_none id (p ∷ rows) h = refs_append (references_to p.1) (references_in (values rows)) id
    ∙ ap (λ l. l ++ references (references_in (values rows)) id) (refs_other p.1.row.id id p.1.flows h.0) ∙ refs_none id rows h.1

pub refs_at : (id : List ℕ) (s : ℤ) (rows : List (ℤ × Kept)) (kept : Kept) → IsRising rows → AllByRecursion (λ p. bytes_eq p.1.row.id id ≡ is_at s p) rows
    → value_at s rows ≡ Some kept → references (references_in (values rows)) id ≡ references_to kept
refs_at id s [] kept rising tests e = absurd (grind (arith, e))
refs_at id s (p ∷ rest) kept rising tests e = by (is_at s p) refl (λ e'. refs_at id s rest kept rising.1 tests.1 e')
  where
    no_more : s ≡ p.0 → AllByRecursion (λ q. bytes_eq q.1.row.id id ≡ false) rest
    no_more at = both rest tests.1 rising.0
      where
        both : (qs : List (ℤ × Kept)) → AllByRecursion (λ q. bytes_eq q.1.row.id id ≡ is_at s q) qs → AllByRecursion (λ q. p.0 <ℤ q.0) qs
            → AllByRecursion (λ q. bytes_eq q.1.row.id id ≡ false) qs
        both [] t lt = tt
        both (q ∷ qs) t lt = (t.0 ∙ above_differs q.0 s (subst (λ z. z <ℤ q.0) (sym at) lt.0), both qs t.1 lt.1)

    by : (t : Bool) → is_at s p ≡ t → (value_at s rest ≡ Some kept → references (references_in (values rest)) id ≡ references_to kept)
        → references (references_in (values (p ∷ rest))) id ≡ references_to kept
    by true et ih =
        let is : p.1 ≡ kept = some_same (sym (looked_here s p rest et) ∙ e) in
        refs_append (references_to p.1) (references_in (values rest)) id
        ∙ ap (λ l. l ++ references (references_in (values rest)) id) (refs_same p.1.row.id id p.1.flows (tests.0 ∙ et))
        ∙ ap (λ l. references_to p.1 ++ l) (refs_none id rest (no_more (sym (same_is p.0 s et))))
        ∙ append_nothing (references_to p.1) ∙ ap references_to is
    by false et ih =
        refs_append (references_to p.1) (references_in (values rest)) id
        ∙ ap (λ l. l ++ references (references_in (values rest)) id) (refs_other p.1.row.id id p.1.flows (tests.0 ∙ et))
        ∙ ih (sym (looked_past s p rest et) ∙ e)

-- a kept one has its own
pub refs_found : (id : List ℕ) (rows : List (ℤ × Kept)) (names : Names) (kept : Kept) → IsRising rows → IsKeyedBy kept_key rows
    → IsInverse (id_at rows) (name_at names) → kept_of id (values rows) ≡ Some kept → references (references_in (values rows)) id ≡ references_to kept
refs_found id rows names kept rising keyed inverse e =
    let at = found_seen kept_key (λ k. bytes_eq k.row.id id) rows kept rising keyed e in
    refs_at id (kept_key kept) rows kept rising (tests_at id (kept_key kept) kept rows names rising inverse at.0 (same_bytes kept.row.id id at.1)) at.0

pub count_found : (id : List ℕ) (rows : List (ℤ × Kept)) (names : Names) (kept : Kept) → IsRising rows → IsKeyedBy kept_key rows
    → IsInverse (id_at rows) (name_at names) → kept_of id (values rows) ≡ Some kept → reference_count (references_in (values rows)) id ≡ length kept.flows
count_found id rows names kept rising keyed inverse e = ap length (refs_found id rows names kept rising keyed inverse e)
    ∙ length-map kept.flows (reference_of kept.row.id)
