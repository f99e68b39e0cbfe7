-- Media in which an object gets another digest: what is kept of them looks at no digest.
use Rattle.std.proofs.Common.{◌≡◌, ℕ, ◌+◌, ◌==◌, nat_le, subst, Bool, true, false, ◌&&◌, cond, List, [], ◌∷◌, Option, Some, None, bytes_eq, map, refl, sym, ap, ap₂, ◌∙◌}
use Rattle.std.specs.List.{list_all, sum}
use Rattle.media_rows.specs.declared.object.Digest.{Digest}
use Rattle.media_rows.specs.declared.object.ObjectRow.{ObjectRow}
use Rattle.media_rows.specs.declared.object.ObjectState.{ObjectState}
use Rattle.media_rows.specs.declared.object.ObjectState.TheVariants.{Allocated, Stored}
use Rattle.media_rows.specs.declared.segment.SegmentRow.{SegmentRow}
use Rattle.media_rows.specs.Good.{are_references_good, are_states_apart, is_extent_good}
use Rattle.media_rows.specs.Lists.{each_pair}
use Rattle.media_rows.specs.Objects.{are_apart, blocks_of, is_clear_of, is_stored, is_stored_object, is_stored_row, object_of}
use Rattle.object_blobs.specs.Holes.{Area}
use Rattle.object_refs.specs.declared.kept.Kept.{Kept}
use Rattle.object_refs.specs.References.{Book, digested, digested_at, digested_row, objects_in, with_digest}
use Rattle.reference_laws.specs.Ties.{AreTied, flows_to}
use Rattle.media_book.specs.Media.{media_digested, stored_size}
use Rattle.media_book.specs.Within.Ties.{AreHeld, IsMedia, held_seen, object_states}

-- whether two states have a block in common
pub blind_left : (other : ObjectState) (start size : ℕ) (d e : Option Digest)
    → are_states_apart (Stored start size d) other ≡ are_states_apart (Stored start size e) other
blind_left Allocated start size d e = refl
blind_left (Stored a b c) start size d e = refl

pub blind_right : (own : ObjectState) (start size : ℕ) (d e : Option Digest)
    → are_states_apart own (Stored start size d) ≡ are_states_apart own (Stored start size e)
blind_right Allocated start size d e = refl
blind_right (Stored a b c) start size d e = refl

module _ (apart : Option ℕ) (digest : Digest) where
  -- an object keeps its id
  pub same_id : (row : ObjectRow) → (digested_at apart digest row).id ≡ row.id
  same_id row = by apart
    where
      choose : (t : Bool) → (cond t (digested_row digest row) row).id ≡ row.id
      choose true = refl
      choose false = refl

      by : (a : Option ℕ) → (digested_at a digest row).id ≡ row.id
      by None = refl
      by (Some serial) = choose (row.serial == serial)

  -- what looks at no digest says the same of its state
  pub same_state : {X : Type 0} (look : ObjectState → X)
      → ((start size : ℕ) (d e : Option Digest) → look (Stored start size d) ≡ look (Stored start size e)) → (row : ObjectRow)
      → look (digested_at apart digest row).state ≡ look row.state
  same_state look blind row = by apart
    where
      state : (s : ObjectState) → row.state ≡ s → look (digested_row digest row).state ≡ look row.state
      state Allocated e = ap (λ s. look (digested_row digest (record row { state = s })).state) e ∙ sym (ap look e)
      state (Stored start size kept) e =
          ap (λ s. look (digested_row digest (record row { state = s })).state) e ∙ blind start size (Some digest) kept ∙ sym (ap look e)

      choose : (t : Bool) → look (cond t (digested_row digest row) row).state ≡ look row.state
      choose true = state row.state refl
      choose false = refl

      by : (a : Option ℕ) → look (digested_at a digest row).state ≡ look row.state
      by None = refl
      by (Some serial) = choose (row.serial == serial)

  same_all : (test : ObjectState → Bool) → ((start size : ℕ) (d e : Option Digest) → test (Stored start size d) ≡ test (Stored start size e))
      → (objects : List ObjectRow) → list_all test (object_states (digested apart digest objects)) ≡ list_all test (object_states objects)
  same_all test blind [] = refl
  same_all test blind (row ∷ rows) = ap₂ (λ (a b : Bool). a && b) (same_state test blind row) (same_all test blind rows)

  same_pairs : (objects : List ObjectRow)
      → each_pair are_states_apart (object_states (digested apart digest objects)) ≡ each_pair are_states_apart (object_states objects)
  same_pairs [] = refl
  same_pairs (row ∷ rows) =
      ap₂ (λ (a b : Bool). a && b)
      (same_state (λ s. list_all (are_states_apart s) (object_states (digested apart digest rows))) (λ start size d e. each start size d e (object_states (digested apart digest rows))) row
      ∙ same_all (are_states_apart row.state) (blind_right row.state) rows)
      (same_pairs rows)
    where
      each : (start size : ℕ) (d e : Option Digest) (states : List ObjectState)
          → list_all (are_states_apart (Stored start size d)) states ≡ list_all (are_states_apart (Stored start size e)) states
      each start size d e [] = refl
      each start size d e (s ∷ states) = ap₂ (λ (a b : Bool). a && b) (blind_left s start size d e) (each start size d e states)

  same_sizes : (objects : List ObjectRow) → map stored_size (object_states (digested apart digest objects)) ≡ map stored_size (object_states objects)
  same_sizes [] = refl
  same_sizes (row ∷ rows) = ap₂ (λ n l. n ∷ l) (same_state stored_size (λ start size d e. refl) row) (same_sizes rows)

  still_held : (objects : List ObjectRow) (area : Area) (bytes : ℕ) → AreHeld (object_states objects) area bytes
      → AreHeld (object_states (digested apart digest objects)) area bytes
  still_held objects area bytes held = record {
    free = λ block. held.free block
        ∙ ap (λ b. nat_le (block + 1) area.blocks && b) (sym (same_all (is_clear_of block 1) (λ start size d e. refl) objects));
    inside = same_all (is_extent_good area.blocks) (λ start size d e. refl) objects ∙ held.inside;
    apart = same_pairs objects ∙ held.apart;
    counted = held.counted ∙ sym (ap sum (same_sizes objects));
  }

  -- the same objects are stored
  pub same_stored : (objects : List ObjectRow) (id : List ℕ) → is_stored_object (digested apart digest objects) id ≡ is_stored_object objects id
  same_stored [] id = refl
  same_stored (row ∷ rows) id =
      ap (λ i. is_stored_row (cond (bytes_eq i id) (Some (digested_at apart digest row)) (object_of id (digested apart digest rows)))) (same_id row)
      ∙ by (bytes_eq row.id id) (same_stored rows id)
    where
      by : (t : Bool) → is_stored_object (digested apart digest rows) id ≡ is_stored_object rows id
          → is_stored_row (cond t (Some (digested_at apart digest row)) (object_of id (digested apart digest rows)))
          ≡ is_stored_row (cond t (Some row) (object_of id rows))
      by true ih = same_state is_stored (λ start size d e. refl) row
      by false ih = ih

  pub same_references : (objects : List ObjectRow) (segments : List SegmentRow)
      → are_references_good (digested apart digest objects) segments ≡ are_references_good objects segments
  same_references objects [] = refl
  same_references objects (row ∷ rows) =
      ap₂ (λ (a b : Bool). a && b) (same_stored objects row.segment.object) (same_references objects rows)

-- the objects of the book
objects_digested : (apart : Option ℕ) (digest : Digest) (kept : List Kept)
    → objects_in (with_digest digest (record { kept = kept; apart = apart })).kept ≡ digested apart digest (objects_in kept)
objects_digested apart digest [] = refl
objects_digested apart digest (k ∷ kept) = ap (λ l. digested_at apart digest k.row ∷ l) (objects_digested apart digest kept)

still_tied : (segments : List SegmentRow) (apart : Option ℕ) (digest : Digest) (kept : List Kept) → AreTied segments kept
    → AreTied segments (with_digest digest (record { kept = kept; apart = apart })).kept
still_tied segments apart digest [] tied = tt
still_tied segments apart digest (k ∷ kept) tied = (
  tied.0 ∙ ap (flows_to segments) (sym (same_id apart digest k.row)),
  still_tied segments apart digest kept tied.1,
)

pub digested_is : (digest : Digest) (segments : List SegmentRow) (book : Book) (area : Area) (bytes : ℕ) → IsMedia segments book.kept area bytes
    → IsMedia segments (with_digest digest book).kept area bytes
digested_is digest segments book area bytes was =
    let objects = objects_digested book.apart digest book.kept in
    record {
      tied = still_tied segments book.apart digest book.kept was.tied;
      named = ap (λ l. are_references_good l segments) objects ∙ same_references book.apart digest (objects_in book.kept) segments ∙ was.named;
      held = subst (λ l. AreHeld (object_states l) area bytes) (sym objects) (still_held book.apart digest (objects_in book.kept) area bytes was.held);
      rising = was.rising;
    }

pub digested_seen : (digest : Digest) (segments : List SegmentRow) (book : Book) (area : Area)
    → held_seen segments (with_digest digest book) area ≡ media_digested digest (held_seen segments book area)
digested_seen digest segments book area =
    ap (λ l. record { media = record { blocks = area.blocks; segments = segments; objects = l }; apart = book.apart })
    (objects_digested book.apart digest book.kept)
