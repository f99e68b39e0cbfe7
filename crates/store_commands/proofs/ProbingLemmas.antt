-- The objects of a store, probed one after another.
use Rattle.std.proofs.Common.{◌≡◌, ◌≢◌, ◌<◌, ◌+◌, ◌∙◌, ◌∷◌, ◌++◌, inl, inr, ℕ, Bool, true, false, not, List, [], All, map, take, drop, length, get_or, Option, Some, None, refl, sym, ap, subst}
use Rattle.std.specs.Prelude.{◌==◌, Contains, IfSome, bytes_eq, unwrap_or}
use Rattle.std.proofs.lemmas.Bool.{and_parts, eqb-true, false≢true, not-true}
use Rattle.std.proofs.lemmas.List.{drop_more, take-append-drop}
use Rattle.std.proofs.lemmas.List.Elements.{All-contains, All-more, All-nil, Contains-get_or}
use Rattle.disk_trait.specs.Calls.{DiskReads}
use Rattle.disk_trait.specs.Device.{Device}
use Rattle.disk_trait.proofs.Theorems.{no_reads, reads_twice}
use Rattle.library_laws.proofs.KeptLemmas.{rises-keys, same_text, text_same}
use Rattle.library_laws.proofs.ListLemmas.{Contains-from_In, In, In-filter, In-from_Contains, filter-In, find-some, rises-In}
use Rattle.library_laws.proofs.MediaGiven.{same_digest}
use Rattle.library_laws.proofs.OutboxKept.{Names-from}
use Rattle.media_rows.specs.declared.object.Digest.{Digest}
use Rattle.media_rows.specs.declared.object.ObjectRow.{ObjectRow}
use Rattle.media_rows.specs.declared.object.ObjectState.{ObjectState}
use Rattle.media_rows.specs.declared.object.ObjectState.TheVariants.{Allocated, Stored}
use Rattle.media_rows.specs.Answer.{digest_eq}
use Rattle.media_rows.specs.Digests.{digest_of, digest_text}
use Rattle.media_rows.specs.Good.{Good}
use Rattle.media_rows.specs.Library.{Library}
use Rattle.media_rows.specs.Lists.{are_distinct_texts}
use Rattle.media_rows.specs.Media.{Archive}
use Rattle.media_rows.specs.Objects.{bytes_of, digest_in_state, is_stored, is_stored_row, object_of}
use Rattle.media_store.specs.Probes.{Tells, TellsRow}
use Rattle.media_store.specs.Stores.{StoreSeen}
use Rattle.media_store.specs.declared.probes.Probe.{Probe}
use Rattle.store_core.specs.Prepared.{stored_objects}
use Rattle.store_states.specs.Kept.{StoreView}
use Rattle.store_states.specs.States.{media_start, state_bytes}
use Rattle.tams_answers.proofs.Following.{found_bytes, row_bytes}
use Rattle.tams_outcomes.specs.declared.outcome.DamagedObject.{DamagedObject}
use Rattle.store_commands.specs.Probing.{AreWhole, IsDamaged, IsFirstDamaged, IsWhole, archive_in, found_digest, told_by}

-- ---- digests

abbrev digest_by : ℕ → ℕ → Digest
digest_by high low = record { high = high; low = low }

digests_same : (a b : Digest) → digest_eq a b ≡ true → a ≡ b
digests_same a b e =
    let both = and_parts (a.high == b.high) (a.low == b.low) e in
    ap (λ h. digest_by h a.low) (eqb-true a.high b.high both.0) ∙ ap (λ l. digest_by b.high l) (eqb-true a.low b.low both.1)

digests_differ : (a b : Digest) → digest_eq a b ≡ false → a ≢ b
digests_differ a b e same = false≢true (sym e ∙ ap (digest_eq a) (sym same) ∙ same_digest a)

-- ---- an object by its id

-- two objects of one id are one
same_row : (objects : List ObjectRow) → are_distinct_texts (map (λ row. row.id) objects) ≡ true → (a b : ObjectRow) → In a objects → In b objects
    → a.id ≡ b.id → a ≡ b
same_row objects distinct a b here there same =
    elim (rises-In (λ x y. not (bytes_eq x.id y.id)) objects (sym (rises-keys (λ x y. not (bytes_eq x y)) (λ (r : ObjectRow). r.id) objects) ∙ distinct) a b
    here there) [
      | inl e ↦ e
      | inr (inl apart) ↦ absurd (false≢true (sym (not-true (bytes_eq a.id b.id) apart) ∙ ap (bytes_eq a.id) (sym same) ∙ text_same a.id))
      | inr (inr apart) ↦ absurd (false≢true (sym (not-true (bytes_eq b.id a.id) apart) ∙ ap (bytes_eq b.id) same ∙ text_same b.id))
    ]

found_itself : (library : Library) → Good library → (row : ObjectRow) → In row library.objects → object_of row.id library.objects ≡ Some row
found_itself library good row here =
    let some = find-some (λ (r : ObjectRow). bytes_eq r.id row.id) library.objects row here (text_same row.id) in
    some.1 ∙ ap Some (same_row library.objects (Names-from library good.names).objects some.0 row some.2 here (same_text some.0.id row.id some.3))

module _ (kept : StoreView) (good : Good kept.library) (row : ObjectRow) (has : Contains (stored_objects kept.library.objects) row) where
  abbrev objects : List ObjectRow
  objects = kept.library.objects

  there : In row objects × (is_stored row.state ≡ true)
  there = In-filter (λ (r : ObjectRow). is_stored r.state) objects row (In-from_Contains (stored_objects objects) row has)

  itself : object_of row.id objects ≡ Some row
  itself = found_itself kept.library good row there.0

  -- it may be probed
  pub may_probe : is_stored_row (object_of row.id objects) ≡ true
  may_probe = ap is_stored_row itself ∙ there.1

  -- ---- what a probe tells of it

  module _ (image : List ℕ) (probe : Probe) (tells : Tells (media_start kept.journal.half) image (object_of row.id objects) probe) where
    abbrev area : ℕ
    area = media_start kept.journal.half

    own : TellsRow area image row probe
    own = subst (λ o. Tells area image o probe) itself tells

    found_is : probe.found ≡ found_digest (archive_in image kept) row
    found_is = own.found ∙ ap digest_of (sym (found_bytes image area row.id objects ∙ ap (row_bytes image area) itself))

    whole_by : (digest : Option Digest) → probe.kept ≡ unwrap_or digest probe.found → digest_eq probe.kept probe.found ≡ true
        → IfSome digest (λ k. k ≡ found_digest (archive_in image kept) row)
    whole_by None is e = tt
    whole_by (Some k) is e = sym is ∙ digests_same probe.kept probe.found e ∙ found_is

    pub probed_whole : digest_eq probe.kept probe.found ≡ true → IsWhole (archive_in image kept) row
    probed_whole e = whole_by (digest_in_state row.state) own.kept e

    damaged_by : (digest : Option Digest) → digest_in_state row.state ≡ digest → probe.kept ≡ unwrap_or digest probe.found
        → digest_eq probe.kept probe.found ≡ false → IsDamaged (archive_in image kept) row (told_by row probe)
    damaged_by None state is e = absurd (digests_differ probe.kept probe.found e is)
    damaged_by (Some k) state is e = record {
      kept = k;
      kept_is = state;
      differs = λ same. digests_differ probe.kept probe.found e (is ∙ same ∙ sym found_is);
      object_told = refl;
      kept_told = ap digest_text is;
      found_told = ap digest_text found_is;
    }

    pub probed_damaged : digest_eq probe.kept probe.found ≡ false → IsDamaged (archive_in image kept) row (told_by row probe)
    probed_damaged e = damaged_by (digest_in_state row.state) refl own.kept e

-- ---- one after another

-- Objects so far: each was whole, and no read failed.
pub record HasProbed (kept : StoreView) (store : StoreSeen) (rows : List ObjectRow) (first now : Device) (at : ℕ) : Type 0 where
  pub unspent : store.spent ≡ false
  pub kept_is : store.kept ≡ kept
  pub reads : DiskReads true first now
  pub whole : first.shows ≡ true → All (IsWhole (archive_in first.seen kept)) (take at rows)

pub probed_none : (store : StoreSeen) (rows : List ObjectRow) (d : Device) → store.spent ≡ false → HasProbed store.kept store rows d d 0
probed_none store rows d unspent =
    record { unspent = unspent; kept_is = refl; reads = no_reads d; whole = λ shows. All-nil (IsWhole (archive_in d.seen store.kept)) }

module _ (kept : StoreView) (store : StoreSeen) (rows : List ObjectRow) (first now : Device) (at : ℕ) (so_far : HasProbed kept store rows first now at)
    (within : at < length rows) (row : ObjectRow) (row_is : row ≡ get_or rows at row) where
  -- what is told over the device as it is now is told over the first one
  told_first : (P : Archive → Type 0) → (now.shows ≡ true → P (archive_in now.seen store.kept)) → first.shows ≡ true → P (archive_in first.seen kept)
  told_first P told shows =
      subst (λ (k : StoreView). P (archive_in first.seen k)) so_far.kept_is
      (subst (λ (seen : List ℕ). P (archive_in seen store.kept)) so_far.reads.seen (told (so_far.reads.calls.same.shows ∙ shows)))

  pub probed_more : (next : StoreSeen) (new : Device) → next.spent ≡ false → next.kept ≡ store.kept → DiskReads true now new
      → (now.shows ≡ true → IsWhole (archive_in now.seen store.kept) row) → HasProbed kept next rows first new (at + 1)
  probed_more next new unspent same reads whole = record {
    unspent = unspent;
    kept_is = same ∙ so_far.kept_is;
    reads = reads_twice true first now new so_far.reads reads;
    whole = λ shows.
        let here : IsWhole (archive_in first.seen kept) (get_or rows at row) =
        subst (λ (r : ObjectRow). IsWhole (archive_in first.seen kept) r) row_is (told_first (λ (a : Archive). IsWhole a row) whole shows) in
        All-more (IsWhole (archive_in first.seen kept)) rows at row within (so_far.whole shows) here;
  }

  pub probed_first : (damaged : DamagedObject) → rows ≡ stored_objects kept.library.objects
      → (now.shows ≡ true → IsDamaged (archive_in now.seen store.kept) row damaged) → first.shows ≡ true
      → IsFirstDamaged (archive_in first.seen kept) damaged
  probed_first damaged are told shows = record {
    row = row;
    before = take at rows;
    later = drop (at + 1) rows;
    rows = sym are ∙ sym (take-append-drop at rows) ∙ ap (λ l. take at rows ++ l) (drop_more rows at row within)
        ∙ ap (λ (r : ObjectRow). take at rows ++ r ∷ drop (at + 1) rows) (sym row_is);
    whole = so_far.whole shows;
    damaged_is = told_first (λ (a : Archive). IsDamaged a row damaged) told shows;
  }

-- it is one of the store's
pub probed_there : (kept : StoreView) (rows : List ObjectRow) (at : ℕ) → rows ≡ stored_objects kept.library.objects → at < length rows → (row : ObjectRow)
    → row ≡ get_or rows at row → Contains (stored_objects kept.library.objects) row
probed_there kept rows at are within row row_is =
    subst (λ (l : List ObjectRow). Contains l row) are (subst (Contains rows) (sym row_is) (Contains-get_or rows at row within))

-- one without bytes is whole
unstored_whole : (archive : Archive) (row : ObjectRow) (state : ObjectState) → row.state ≡ state → is_stored state ≡ false → IsWhole archive row
unstored_whole archive row Allocated is none = subst (λ s. IfSome (digest_in_state s) (λ kept. kept ≡ found_digest archive row)) (sym is) tt
unstored_whole archive row (Stored start size digest) is none = absurd (false≢true (sym none))

-- all were whole
pub probed_all : (archive : Archive) → All (IsWhole archive) (stored_objects archive.library.objects) → AreWhole archive
probed_all archive whole row has = by_stored (is_stored row.state) refl
  where
    by_stored : (b : Bool) → is_stored row.state ≡ b → IsWhole archive row
    by_stored true is =
        let objects = archive.library.objects in
        All-contains (IsWhole archive) (stored_objects objects) row whole
        (Contains-from_In (stored_objects objects) row
        (filter-In (λ (r : ObjectRow). is_stored r.state) objects row (In-from_Contains objects row has) is))
    by_stored false is = unstored_whole archive row row.state refl is

-- ---- what damage says

-- an archive with a damaged object isn't whole
pub damaged_not_whole : (archive : Archive) (damaged : DamagedObject) → IsFirstDamaged archive damaged → ¬ (AreWhole archive)
damaged_not_whole archive damaged first whole =
    let row = first.row in
    let objects = archive.library.objects in
    let has = In-filter (λ (r : ObjectRow). is_stored r.state) objects row
    (subst (In row) (sym first.rows) (In-middle first.before row first.later)) in
    first.damaged_is.differs
    (subst (λ d. IfSome d (λ kept. kept ≡ found_digest archive row)) first.damaged_is.kept_is (whole row (Contains-from_In objects row has.0)))
  where
    In-middle : (before : List ObjectRow) (row : ObjectRow) (later : List ObjectRow) → In row (before ++ row ∷ later)
    In-middle [] row later = inl refl
    In-middle (other ∷ before) row later = inr (In-middle before row later)
