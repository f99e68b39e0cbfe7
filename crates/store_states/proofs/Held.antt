-- The bytes of a library's objects in an image, and those of the next one.
use Rattle.std.proofs.Common.{◌≡◌, ◌≤◌, ◌+◌, ◌*◌, ◌/◌, ◌-◌, ℕ, Bool, true, false, cond, List, [], ◌∷◌, map, length, take, drop, Option, refl, sym, ap, ap₂, subst, ◌∙◌, arith, inl, inr, nat_le, nat_eq, length-take, length-drop}
use Rattle.std.specs.Prelude.{bytes_eq, not, nat_lt, ◌==◌, ◌&&◌, ◌||◌}
use Rattle.std.specs.List.{list_all}
use Rattle.std.proofs.lemmas.Bool.{and_from, and_parts, not-true}
use Rattle.std.proofs.lemmas.Bool.Decides.{nat_tests}
use Rattle.std.proofs.lemmas.List.{nil_from_length}
use Rattle.disk_trait.specs.Calls.{bytes_at}
use Rattle.media_rows.specs.declared.change.Change.{Change}
use Rattle.media_rows.specs.declared.change.Change.TheVariants as changes
use Rattle.media_rows.specs.declared.object.Digest.{Digest}
use Rattle.media_rows.specs.declared.object.ObjectRow.{ObjectRow}
use Rattle.media_rows.specs.declared.object.ObjectState.{ObjectState}
use Rattle.media_rows.specs.declared.object.ObjectState.TheVariants.{Allocated, Stored}
use Rattle.media_rows.specs.Apply.{is_allowed}
use Rattle.media_rows.specs.Changes.{after}
use Rattle.media_rows.specs.Good.{Good, are_object_ids_distinct, are_states_apart, is_extent_good}
use Rattle.media_rows.specs.Library.{Library}
use Rattle.media_rows.specs.Lists.{each_pair}
use Rattle.media_rows.specs.Media.{Archive, archive_after, bytes_after, fits_bytes, is_held}
use Rattle.media_rows.specs.Objects.{are_bytes_of, blocks_of, bytes_of, fits_state, is_stored}
use Rattle.library_laws.specs.ChangeLaws.{WasStored}
use Rattle.library_laws.specs.MediaLaws.{IsGoodArchive}
use Rattle.library_laws.proofs.KeptLemmas.{chosen, passed, text_same}
use Rattle.library_laws.proofs.ListLemmas.{Contains-from_In, In, In-from_Contains, list_all-In, map-In}
use Rattle.library_laws.proofs.MediaKept.{bytes_along, bytes_fit, bytes_stay}
use Rattle.library_laws.proofs.ObjectsCome.{stored_stay}
use Rattle.library_laws.proofs.OutboxKept.{Names-from}
use Rattle.store_states.specs.Held.{BytesHaveTheirLengths, ChangesFindBytes, HasBlocks, StandsThere, archive_in}
use Rattle.store_states.specs.States.{held_in, state_bytes}

-- ---- the bytes of one object

-- where no two objects have one id, the bytes of an id are those of its object
pub own_held : (image : List ℕ) (area : ℕ) (objects : List ObjectRow) (row : ObjectRow) → are_object_ids_distinct objects ≡ true → In row objects
    → bytes_of row.id objects (held_in image area objects) ≡ state_bytes image area row.state
own_held image area [] row distinct here = absurd here
own_held image area (first ∷ rows) row distinct (inl same) =
    ap (λ (r : ObjectRow). bytes_of r.id (first ∷ rows) (held_in image area (first ∷ rows))) same
    ∙ chosen (bytes_eq first.id first.id) (state_bytes image area first.state) (bytes_of first.id rows (held_in image area rows)) (text_same first.id)
    ∙ ap (λ (r : ObjectRow). state_bytes image area r.state) (sym same)
own_held image area (first ∷ rows) row distinct (inr there) =
    let apart = and_parts (list_all (λ id. not (bytes_eq first.id id)) (map (λ row. row.id) rows)) (are_object_ids_distinct rows) distinct in
    let other = not-true (bytes_eq first.id row.id) (list_all-In (λ id. not (bytes_eq first.id id)) (map (λ row. row.id) rows) apart.0 row.id
    (map-In (λ (r : ObjectRow). r.id) rows row there)) in
    passed (bytes_eq first.id row.id) (state_bytes image area first.state) (bytes_of row.id rows (held_in image area rows)) other
    ∙ own_held image area rows row apart.1 there

-- ---- lengths

state_length : (image : List ℕ) (area blocks : ℕ) (state : ObjectState) → area + 4096 * blocks ≤ length image → is_extent_good blocks state ≡ true
    → fits_state state (state_bytes image area state) ≡ true
state_length image area blocks Allocated there good = refl
state_length image area blocks (Stored start size digest) there good =
    let within = and_parts (nat_le (start + blocks_of size) blocks) (nat_lt 0 size || (start == 0)) good in
    let few : start + (size + 4095) / 4096 ≤ blocks = grind (arith, nat_tests) in
    let rest : length (drop (area + 4096 * start) image) ≡ length image - (area + 4096 * start) = length-drop (area + 4096 * start) image in
    let long : length (take size (drop (area + 4096 * start) image)) ≡ size =
    omega (arith, length-take size (drop (area + 4096 * start) image), rest, there, few) in
    grind (arith, nat_tests, long)

objects_held : (image : List ℕ) (area blocks : ℕ) (objects : List ObjectRow) → area + 4096 * blocks ≤ length image
    → list_all (λ row. is_extent_good blocks row.state) objects ≡ true → are_bytes_of objects (held_in image area objects) ≡ true
objects_held image area blocks [] there good = refl
objects_held image area blocks (row ∷ rows) there good =
    let parts = and_parts (is_extent_good blocks row.state) (list_all (λ r. is_extent_good blocks r.state) rows) good in
    and_from _ _ (state_length image area blocks row.state there parts.0) (objects_held image area blocks rows there parts.1)

pub lengths_held : BytesHaveTheirLengths
lengths_held image area library good there =
    let parts = and_parts (each_pair (λ a b. are_states_apart a.state b.state) library.objects)
    (list_all (λ row. is_extent_good library.blocks row.state) library.objects) good.extents in
    objects_held image area library.blocks library.objects there parts.1

-- ---- the next library

no_bytes : (bytes : List ℕ) → nat_eq (length bytes) 0 ≡ true → [] ≡ bytes
no_bytes bytes fits = let none : length bytes ≡ 0 = grind (arith, nat_tests) in sym (nil_from_length bytes none)

-- bytes along objects, one by one
fits_along : (rows : List ObjectRow) (f : List ℕ → List ℕ) → are_bytes_of rows (map (λ row. f row.id) rows) ≡ true → (row : ObjectRow) → In row rows
    → fits_state row.state (f row.id) ≡ true
fits_along [] f fits row here = absurd here
fits_along (first ∷ rows) f fits row (inl same) =
    rw same ((and_parts (fits_state first.state (f first.id)) (are_bytes_of rows (map (λ r. f r.id) rows)) fits).0)
fits_along (first ∷ rows) f fits row (inr there) =
    fits_along rows f ((and_parts (fits_state first.state (f first.id)) (are_bytes_of rows (map (λ r. f r.id) rows)) fits).1) row there

module _ (image : List ℕ) (area : ℕ) (library : Library) (change : Change) (came : List ℕ) (good : Good library) (there : HasBlocks image area library)
    (allowed : is_allowed library change ≡ true) (fits : fits_bytes change came ≡ true) (stands : StandsThere image area change came) where
  archive : Archive
  archive = archive_in image area library

  good_archive : IsGoodArchive archive
  unfolding archive
  good_archive = record { good = good; held = lengths_held image area library good there }

  bytes_then : List ℕ → List ℕ
  bytes_then id = bytes_after change came archive id

  all_fit : are_bytes_of (after change library).objects (map (λ row. bytes_then row.id) (after change library).objects) ≡ true
  unfolding archive bytes_then
  all_fit = bytes_fit archive change came good_archive allowed fits

  came_now : (id : List ℕ) (moment start size : ℕ) (digest : Option Digest) → change ≡ changes.Store moment id start size digest
      → state_bytes image area (Stored start size digest) ≡ bytes_then id
  unfolding bytes_then
  came_now id moment start size digest is =
      let stood : came ≡ state_bytes image area (Stored start size digest) = subst (λ (c : Change). StandsThere image area c came) is stands in
      sym stood ∙ sym (chosen (bytes_eq id id) came (bytes_of id archive.library.objects archive.held) (text_same id))
      ∙ sym (ap (λ (c : Change). bytes_after c came archive id) is)

  stored_before : (row old : ObjectRow) → In row (after change library).objects → In old library.objects → row.serial ≡ old.serial → row.id ≡ old.id
      → row.state ≡ old.state → is_stored row.state ≡ true → state_bytes image area row.state ≡ bytes_then row.id
  unfolding archive bytes_then
  stored_before row old here was serial id state stored =
      let stays = bytes_stay archive change came good_archive allowed old row (Contains-from_In library.objects old was)
      (Contains-from_In (after change library).objects row here) serial (ap is_stored (sym state) ∙ stored) in
      ap (state_bytes image area) state ∙ sym (own_held image area library.objects old (Names-from library good.names).objects was) ∙ sym stays
      ∙ bytes_along (after change library).objects (bytes_after change came archive) row here

  by_origin : (row : ObjectRow) → In row (after change library).objects → is_stored row.state ≡ true → WasStored library change row
      → state_bytes image area row.state ≡ bytes_then row.id
  by_origin row here stored (WasStored.before old was serial id state) =
      stored_before row old here (In-from_Contains library.objects old was) serial id state stored
  by_origin row here stored (WasStored.now moment start size digest is state) =
      ap (state_bytes image area) state ∙ came_now row.id moment start size digest is

  by_state : (state : ObjectState) (row : ObjectRow) → row.state ≡ state → In row (after change library).objects
      → state_bytes image area row.state ≡ bytes_then row.id
  by_state Allocated row is here =
      let none : nat_eq (length (bytes_then row.id)) 0 ≡ true =
      ap (λ (s : ObjectState). fits_state s (bytes_then row.id)) (sym is) ∙ fits_along (after change library).objects bytes_then all_fit row here in
      ap (state_bytes image area) is ∙ no_bytes (bytes_then row.id) none
  by_state (Stored start size digest) row is here =
      let stored : is_stored row.state ≡ true = ap is_stored is in
      by_origin row here stored (stored_stay library change row (Contains-from_In (after change library).objects row here) stored)

  along_rows : (rows : List ObjectRow) → ((row : ObjectRow) → In row rows → state_bytes image area row.state ≡ bytes_then row.id)
      → held_in image area rows ≡ map (λ row. bytes_then row.id) rows
  along_rows [] each = refl
  along_rows (row ∷ rows) each = ap₂ (λ bytes more. bytes ∷ more) (each row (inl refl)) (along_rows rows (λ other later. each other (inr later)))

  pub bytes_found : held_in image area (after change library).objects ≡ (archive_after change came (archive_in image area library)).held
  unfolding archive bytes_then
  bytes_found = along_rows (after change library).objects (λ row here. by_state row.state row refl here)

pub changes_find_bytes : ChangesFindBytes
changes_find_bytes image area library change came good there allowed fits stands = bytes_found image area library change came good there allowed fits stands
