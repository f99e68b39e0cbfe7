-- The bytes of a library's rows, kind by kind.
use Rattle.std.proofs.Common.{◌≡◌, ◌+◌, ℕ, List, [], ◌∷◌, map, refl, ap, ◌∙◌, arith}
use Rattle.std.proofs.lemmas.List.Sums.{sum_by-append}
use Rattle.std.specs.List.{fold, sum_by}
use Rattle.media_rows.specs.declared.row.Row.{Row}
use Rattle.media_rows.specs.declared.row.Row.TheVariants as rows
use Rattle.media_rows.specs.Snapshot.{segment_row_before}
use Rattle.media_rows.specs.Lists.{in_order}
use Rattle.generated_workload.specs.StoredBytes.{StoredBytesAreTheObjects, row_bytes, stored_bytes_of}

-- the bytes of rows that are made one of each item
made : {X : Type 0} (make : X → Row) (a : ℕ) (xs : List X) → fold (λ s row. s + row_bytes row) a (map make xs) ≡ fold (λ s x. s + row_bytes (make x)) a xs
made make a [] = refl
made make a (x ∷ xs) = made make (a + row_bytes (make x)) xs

-- a sum of nothing
zeros : {X : Type 0} (xs : List X) → sum_by (λ x. 0) xs ≡ 0
zeros [] = refl
zeros (x ∷ xs) = zeros xs

-- rows of a kind that has no bytes
none : {X : Type 0} (make : X → Row) (xs : List X) → ((x : X) → row_bytes (make x) ≡ 0) → stored_bytes_of (map make xs) ≡ 0
none make xs nothing = made make 0 xs ∙ ap (λ f. sum_by f xs) (λ i x. nothing x i) ∙ zeros xs

pub stored_bytes_are_the_objects : StoredBytesAreTheObjects
stored_bytes_are_the_objects library =
    let sources = none rows.Source library.catalog.sources (λ x. refl) in
    let flows = none rows.Flow library.catalog.flows (λ x. refl) in
    let objects = made rows.Object 0 library.objects in
    let segments = none rows.Segment (in_order segment_row_before library.segments) (λ x. refl) in
    let requests = none rows.Request library.requests (λ x. refl) in
    let hooks = none rows.Hook library.outbox.hooks (λ x. refl) in
    let events = none rows.Event library.outbox.events (λ x. refl) in
    simp sum_by-append (omega arith)
