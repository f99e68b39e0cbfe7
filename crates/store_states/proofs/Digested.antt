-- A library with the digests of its objects' bytes is as good as one without.
use Rattle.std.proofs.Common.{◌≡◌, ◌==◌, ℕ, Bool, true, false, cond, List, [], ◌∷◌, ◌++◌, map, Option, Some, None, refl, sym, ap, ap₂, subst, ◌∙◌, IsTrue, ◌&&◌}
use Rattle.std.specs.Prelude.{bytes_eq, Contains, nat_lt}
use Rattle.std.specs.List.{list_all}
use Rattle.media_rows.specs.declared.object.Digest.{Digest}
use Rattle.media_rows.specs.declared.object.ObjectRow.{ObjectRow}
use Rattle.media_rows.specs.declared.object.ObjectState.{ObjectState}
use Rattle.media_rows.specs.declared.object.ObjectState.TheVariants.{Allocated, Stored}
use Rattle.media_rows.specs.declared.segment.SegmentRow.{SegmentRow}
use Rattle.media_rows.specs.Digests.{digest_of}
use Rattle.media_rows.specs.Good.{Good, are_names_good, are_object_ids_distinct, are_references_good, are_serials_good, are_states_apart, are_texts_good, is_extent_good, is_object_text, rises_by}
use Rattle.media_rows.specs.Library.{Library, serials_of}
use Rattle.media_rows.specs.Lists.{each_pair, rises}
use Rattle.media_rows.specs.Media.{Archive, HasDigests}
use Rattle.media_rows.specs.Objects.{digest_in_state, is_stored, is_stored_object, is_stored_row, object_of}
use Rattle.library_laws.proofs.KeptLemmas.{rises-keys}
use Rattle.library_laws.proofs.ListLemmas.{In, In-map, In-from_Contains}
use Rattle.library_laws.proofs.OutboxKept.{Names-from}
use Rattle.store_states.specs.States.{digested, digested_row, digested_state, held_in, library_in, state_bytes}
use Rattle.store_states.proofs.Held.{own_held}

module _ (image : List ℕ) (area : ℕ) where
  -- ---- one object

  stored_same : (state : ObjectState) → is_stored (digested_state image area state) ≡ is_stored state
  stored_same Allocated = refl
  stored_same (Stored start size digest) = refl

  apart_same : (a b : ObjectState) → are_states_apart (digested_state image area a) (digested_state image area b) ≡ are_states_apart a b
  apart_same Allocated b = refl
  apart_same (Stored start size digest) Allocated = refl
  apart_same (Stored start size digest) (Stored other_start other_size other_digest) = refl

  extent_same : (blocks : ℕ) (state : ObjectState) → is_extent_good blocks (digested_state image area state) ≡ is_extent_good blocks state
  extent_same blocks Allocated = refl
  extent_same blocks (Stored start size digest) = refl

  bytes_same : (state : ObjectState) → state_bytes image area (digested_state image area state) ≡ state_bytes image area state
  bytes_same Allocated = refl
  bytes_same (Stored start size digest) = refl

  -- ---- lists of objects

  ids_same : (objects : List ObjectRow) → map (λ row. row.id) (digested image area objects) ≡ map (λ row. row.id) objects
  ids_same [] = refl
  ids_same (row ∷ rows) = ap (λ (ids : List (List ℕ)). row.id ∷ ids) (ids_same rows)

  serials_same : (objects : List ObjectRow) → map (λ row. row.serial) (digested image area objects) ≡ map (λ row. row.serial) objects
  serials_same [] = refl
  serials_same (row ∷ rows) = ap (λ (serials : List ℕ). row.serial ∷ serials) (serials_same rows)

  found_step : (b : Bool) (row : ObjectRow) (found other : Option ObjectRow) → is_stored_row found ≡ is_stored_row other
      → is_stored_row (cond b (Some (digested_row image area row)) found) ≡ is_stored_row (cond b (Some row) other)
  found_step true row found other same = stored_same row.state
  found_step false row found other same = same

  stored_object_same : (id : List ℕ) (objects : List ObjectRow) → is_stored_object (digested image area objects) id ≡ is_stored_object objects id
  stored_object_same id [] = refl
  stored_object_same id (row ∷ rows) =
      found_step (bytes_eq row.id id) row (object_of id (digested image area rows)) (object_of id rows) (stored_object_same id rows)

  references_same : (objects : List ObjectRow) (segments : List SegmentRow) → are_references_good (digested image area objects) segments
      ≡ are_references_good objects segments
  references_same objects [] = refl
  references_same objects (row ∷ rows) =
      ap₂ (λ (a b : Bool). a && b) (stored_object_same row.segment.object objects) (references_same objects rows)

  apart_from : (first : ObjectRow) (rows : List ObjectRow) → list_all (λ row. are_states_apart (digested_row image area first).state row.state) (digested image area rows)
      ≡ list_all (λ row. are_states_apart first.state row.state) rows
  apart_from first [] = refl
  apart_from first (row ∷ rows) = ap₂ (λ (a b : Bool). a && b) (apart_same first.state row.state) (apart_from first rows)

  pairs_same : (objects : List ObjectRow) → each_pair (λ a b. are_states_apart a.state b.state) (digested image area objects)
      ≡ each_pair (λ a b. are_states_apart a.state b.state) objects
  pairs_same [] = refl
  pairs_same (row ∷ rows) = ap₂ (λ (a b : Bool). a && b) (apart_from row rows) (pairs_same rows)

  extents_same : (blocks : ℕ) (objects : List ObjectRow) → list_all (λ row. is_extent_good blocks row.state) (digested image area objects)
      ≡ list_all (λ row. is_extent_good blocks row.state) objects
  extents_same blocks [] = refl
  extents_same blocks (row ∷ rows) = ap₂ (λ (a b : Bool). a && b) (extent_same blocks row.state) (extents_same blocks rows)

  rises_same : (objects : List ObjectRow) → rises_by (λ row. row.serial) (digested image area objects) ≡ rises_by (λ row. row.serial) objects
  rises_same objects =
      sym (rises-keys nat_lt (λ (row : ObjectRow). row.serial) (digested image area objects)) ∙ ap (rises nat_lt) (serials_same objects)
      ∙ rises-keys nat_lt (λ (row : ObjectRow). row.serial) objects

  texts_same : (objects : List ObjectRow) → list_all is_object_text (digested image area objects) ≡ list_all is_object_text objects
  texts_same [] = refl
  texts_same (row ∷ rows) = ap (λ (b : Bool). is_object_text row && b) (texts_same rows)

  -- ---- the whole library

  module _ (library : Library) where
    abbrev with_digests : Library
    with_digests = record library { objects = digested image area library.objects }

    all_serials_same : serials_of with_digests ≡ serials_of library
    all_serials_same =
        ap (λ (serials : List ℕ). serials ++ map (λ row. row.serial) library.segments
        ++ map (λ row. row.serial) library.requests
        ++ map (λ row. row.serial) library.outbox.hooks
        ++ map (λ row. row.serial) library.outbox.events) (serials_same library.objects)

    names_same : are_names_good with_digests ≡ are_names_good library
    names_same =
        rw (ids_same library.objects, rises_same library.objects, all_serials_same) refl

    good_digested : Good library → Good with_digests
    good_digested good = record {
      segments = good.segments;
      references = references_same library.objects library.segments ∙ good.references;
      extents = ap₂ (λ (a b : Bool). a && b) (pairs_same library.objects) (extents_same library.blocks library.objects) ∙ good.extents;
      names = names_same ∙ good.names;
      sources = good.sources;
      collections = good.collections;
      requests = good.requests;
      outbox = good.outbox;
      texts = rw (texts_same library.objects) good.texts;
    }

-- ---- by form

good_by : (b : Bool) (image : List ℕ) (area : ℕ) (made : Library) → Good made → Good (cond b (record made { objects = digested image area made.objects }) made)
good_by true image area made good = good_digested image area made good
good_by false image area made good = good

pub good_in : (form : ℕ) (image : List ℕ) (area : ℕ) (made : Library) → Good made → Good (library_in form image area made)
good_in form image area made good = good_by (form == 1) image area made good

blocks_by : (b : Bool) (image : List ℕ) (area : ℕ) (made : Library) → (cond b (record made { objects = digested image area made.objects }) made).blocks
    ≡ made.blocks
blocks_by true image area made = refl
blocks_by false image area made = refl

pub blocks_in : (form : ℕ) (image : List ℕ) (area : ℕ) (made : Library) → (library_in form image area made).blocks ≡ made.blocks
blocks_in form image area made = blocks_by (form == 1) image area made

-- ---- digests

-- a stored state has the digest of its bytes
state_digest : (image : List ℕ) (area : ℕ) (state : ObjectState) → is_stored (digested_state image area state) ≡ true
    → digest_in_state (digested_state image area state) ≡ Some (digest_of (state_bytes image area (digested_state image area state)))
state_digest image area Allocated st = cc
state_digest image area (Stored start size digest) st = refl

pub digests_held : (image : List ℕ) (area : ℕ) (made library : Library) → Good library → library ≡ record made { objects = digested image area made.objects }
    → HasDigests (record { library = library; held = held_in image area library.objects })
digests_held image area made library good is row here st =
    let there = In-from_Contains library.objects row here in
    let own = own_held image area library.objects row (Names-from library good.names).objects there in
    let old = In-map (digested_row image area) made.objects row (subst (λ (x : Library). In row x.objects) is there) in
    let state : row.state ≡ digested_state image area old.0.state = ap (λ (r : ObjectRow). r.state) old.2 in
    ap digest_in_state state ∙ state_digest image area old.0.state (sym (ap is_stored state) ∙ st)
    ∙ ap (λ (s : ObjectState). Some (digest_of (state_bytes image area s))) (sym state)
    ∙ ap (λ (bytes : List ℕ). Some (digest_of bytes)) (sym own)
