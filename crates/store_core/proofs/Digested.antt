-- A good library stays good where an object gets another digest.
use Rattle.std.proofs.Common.{◌≡◌, ℕ, Bool, true, false, cond, List, [], ◌∷◌, ◌++◌, Option, Some, None, map, refl, ap, ap₂, ◌∙◌}
use Rattle.std.specs.Prelude.{◌==◌, ◌&&◌, nat_lt}
use Rattle.std.specs.List.{list_all}
use Rattle.std.proofs.lemmas.Bool.{and_parts}
use Rattle.media_rows.specs.declared.object.Digest.{Digest}
use Rattle.media_rows.specs.declared.object.ObjectRow.{ObjectRow}
use Rattle.media_rows.specs.Good.{Good, are_extents_good, are_names_good, are_object_ids_distinct, are_serials_good, are_serials_in_order, are_states_apart, are_texts_good, are_urls_distinct, is_catalog_in_order, is_event_text, is_extent_good, is_flow_text, is_hook_text, is_object_text, is_request_text, is_source_text, rises_by}
use Rattle.media_rows.specs.Library.{Library, serials_of}
use Rattle.media_rows.specs.Lists.{are_distinct_texts, each_pair}
use Rattle.object_refs.specs.References.{digested, digested_at, digested_row}
use Rattle.media_book.proofs.Digested.{blind_left, blind_right, same_references, same_state}

-- what good names say of the objects
pub names_parts : (library : Library) → are_names_good library ≡ true
    → (are_object_ids_distinct library.objects ≡ true) × (rises_by (λ row. row.serial) library.objects ≡ true)
names_parts library good =
    let a = and_parts (is_catalog_in_order library.catalog && are_object_ids_distinct library.objects && are_urls_distinct library.outbox.hooks && are_serials_in_order library)
    (are_serials_good library.next_serial (serials_of library)) good in
    let b = and_parts (is_catalog_in_order library.catalog && are_object_ids_distinct library.objects && are_urls_distinct library.outbox.hooks)
    (are_serials_in_order library) a.0 in
    let c = and_parts (is_catalog_in_order library.catalog && are_object_ids_distinct library.objects) (are_urls_distinct library.outbox.hooks) b.0 in
    let d = and_parts (is_catalog_in_order library.catalog) (are_object_ids_distinct library.objects) c.0 in
    let e = and_parts (rises_by (λ (row : ObjectRow). row.serial) library.objects && rises_by (λ row. row.serial) library.segments
    && rises_by (λ row. row.serial) library.requests && rises_by (λ row. row.serial) library.outbox.hooks)
    (rises_by (λ row. row.serial) library.outbox.events) b.1 in
    let f = and_parts (rises_by (λ (row : ObjectRow). row.serial) library.objects && rises_by (λ row. row.serial) library.segments
    && rises_by (λ row. row.serial) library.requests) (rises_by (λ row. row.serial) library.outbox.hooks) e.0 in
    let g = and_parts (rises_by (λ (row : ObjectRow). row.serial) library.objects && rises_by (λ row. row.serial) library.segments)
    (rises_by (λ row. row.serial) library.requests) f.0 in
    let h = and_parts (rises_by (λ (row : ObjectRow). row.serial) library.objects) (rises_by (λ row. row.serial) library.segments) g.0 in
    (d.1, h.0)

-- rows that are looked at in the same way
module _ (f : ObjectRow → ObjectRow) where
  same_looks : {X : Type 0} (look : ObjectRow → X) → ((row : ObjectRow) → look (f row) ≡ look row) → (rows : List ObjectRow)
      → map look (map f rows) ≡ map look rows
  same_looks look same [] = refl
  same_looks look same (row ∷ rows) = ap₂ (λ x l. x ∷ l) (same row) (same_looks look same rows)

  same_tests : (test other : ObjectRow → Bool) → ((row : ObjectRow) → test (f row) ≡ other row) → (rows : List ObjectRow)
      → list_all test (map f rows) ≡ list_all other rows
  same_tests test other same [] = refl
  same_tests test other same (row ∷ rows) = ap₂ (λ (a b : Bool). a && b) (same row) (same_tests test other same rows)

  same_pairs : (test : ObjectRow → ObjectRow → Bool) → ((a b : ObjectRow) → test (f a) (f b) ≡ test a b) → (rows : List ObjectRow)
      → each_pair test (map f rows) ≡ each_pair test rows
  same_pairs test same [] = refl
  same_pairs test same (row ∷ rows) =
      ap₂ (λ (a b : Bool). a && b) (same_tests (test (f row)) (test row) (same row) rows) (same_pairs test same rows)

module _ (apart : Option ℕ) (digest : Digest) where
  abbrev changed : ObjectRow → ObjectRow
  changed row = digested_at apart digest row

  -- a look at all but the digest sees the same
  same_look : {X : Type 0} (look : ObjectRow → X) → ((row : ObjectRow) → look (digested_row digest row) ≡ look row) → (row : ObjectRow)
      → look (changed row) ≡ look row
  same_look look blind row = by apart
    where
      choose : (t : Bool) → look (cond t (digested_row digest row) row) ≡ look row
      choose true = blind row
      choose false = refl

      by : (a : Option ℕ) → look (digested_at a digest row) ≡ look row
      by None = refl
      by (Some serial) = choose (row.serial == serial)

  same_extents : (blocks : ℕ) (rows : List ObjectRow) → are_extents_good blocks (digested apart digest rows) ≡ are_extents_good blocks rows
  same_extents blocks rows =
      ap₂ (λ (a b : Bool). a && b)
      (same_pairs changed (λ a b. are_states_apart a.state b.state)
      (λ a b. same_state apart digest (λ s. are_states_apart s (changed b).state) (blind_left (changed b).state) a
      ∙ same_state apart digest (are_states_apart a.state) (blind_right a.state) b) rows)
      (same_tests changed (λ row. is_extent_good blocks row.state) (λ row. is_extent_good blocks row.state)
      (same_state apart digest (is_extent_good blocks) (λ start size d e. refl)) rows)

  -- names and serials, of which these are the objects'
  abbrev names_by : Library → List (List ℕ) → Bool → List ℕ → Bool
  names_by library ids rising serials =
      is_catalog_in_order library.catalog && are_distinct_texts ids && are_urls_distinct library.outbox.hooks
      && (rising && rises_by (λ row. row.serial) library.segments && rises_by (λ row. row.serial) library.requests
      && rises_by (λ row. row.serial) library.outbox.hooks && rises_by (λ row. row.serial) library.outbox.events)
      && are_serials_good library.next_serial
      (serials ++ map (λ row. row.serial) library.segments ++ map (λ row. row.serial) library.requests
      ++ map (λ row. row.serial) library.outbox.hooks ++ map (λ row. row.serial) library.outbox.events)

  same_names : (library : Library) → are_names_good (record library { objects = digested apart digest library.objects }) ≡ are_names_good library
  same_names library =
      let objects = digested apart digest library.objects in
      let serials : map (λ (row : ObjectRow). row.serial) objects ≡ map (λ row. row.serial) library.objects =
      same_looks changed (λ row. row.serial) (same_look (λ row. row.serial) (λ row. refl)) library.objects in
      ap (λ ids. names_by library ids (rises_by (λ (row : ObjectRow). row.serial) objects) (map (λ row. row.serial) objects))
      (same_looks changed (λ row. row.id) (same_look (λ row. row.id) (λ row. refl)) library.objects)
      ∙ ap₂ (λ rising l. names_by library (map (λ (row : ObjectRow). row.id) library.objects) rising l)
      (same_pairs changed _
      (λ a b. ap₂ (λ x y. nat_lt x y) (same_look (λ row. row.serial) (λ row. refl) a) (same_look (λ row. row.serial) (λ row. refl) b)) library.objects)
      serials

  same_texts : (library : Library) → are_texts_good (record library { objects = digested apart digest library.objects }) ≡ are_texts_good library
  same_texts library =
      ap (λ t. list_all is_source_text library.catalog.sources && list_all is_flow_text library.catalog.flows && t
      && list_all is_request_text library.requests && list_all is_hook_text library.outbox.hooks && list_all is_event_text library.outbox.events)
      (same_tests changed is_object_text is_object_text (same_look is_object_text (λ row. refl)) library.objects)

  pub still_good : (library : Library) → Good library → Good (record library { objects = digested apart digest library.objects })
  still_good library good = record {
    segments = good.segments;
    references = same_references apart digest library.objects library.segments ∙ good.references;
    extents = same_extents library.blocks library.objects ∙ good.extents;
    names = same_names library ∙ good.names;
    sources = good.sources;
    collections = good.collections;
    requests = good.requests;
    outbox = good.outbox;
    texts = same_texts library ∙ good.texts;
  }
