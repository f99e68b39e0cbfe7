-- The digests of objects, one after another, and the library with them.
use Rattle.std.proofs.Common.{◌≡◌, ◌≤◌, ◌<◌, ◌+◌, ◌*◌, ◌/◌, ◌∙◌, ◌∷◌, ◌++◌, if◌then◌else◌, ℕ, Bool, true, false, List, [], All, drop, length, get_or, refl, sym, ap, subst, arith}
use Rattle.std.specs.Prelude.{nat_le, nat_lt, ◌==◌, ◌||◌}
use Rattle.std.specs.List.{list_all}
use Rattle.std.proofs.lemmas.Bool.{and_parts}
use Rattle.std.proofs.lemmas.Bool.Decides.{nat_tests}
use Rattle.std.proofs.lemmas.List.{append_assoc, drop_all, drop_more}
use Rattle.std.proofs.lemmas.List.Elements.{Contains-get_or}
use Rattle.disk_trait.specs.Calls.{DiskReads}
use Rattle.disk_trait.specs.Device.{Device}
use Rattle.disk_trait.proofs.Theorems.{no_reads, reads_twice}
use Rattle.library_laws.proofs.ListLemmas.{In-from_Contains, list_all-In}
use Rattle.media_journal.specs.Journal.{Position}
use Rattle.media_rows.specs.declared.object.ObjectRow.{ObjectRow}
use Rattle.media_rows.specs.declared.object.ObjectState.{ObjectState}
use Rattle.media_rows.specs.declared.object.ObjectState.TheVariants.{Allocated, Stored}
use Rattle.media_rows.specs.Good.{Good, are_states_apart, is_extent_good}
use Rattle.media_rows.specs.Library.{Library}
use Rattle.media_rows.specs.Lists.{each_pair}
use Rattle.media_rows.specs.Objects.{blocks_of, is_stored}
use Rattle.store_core.specs.Prepared.{stored_objects}
use Rattle.store_opening.specs.Opening.{HasItsBlocks}
use Rattle.store_states.proofs.Digested.{good_in}
use Rattle.store_states.specs.States.{digested, digested_row, library_in, media_start}
use Rattle.disk_trait.specs.Forms.{form_in_use}
use Rattle.media_rows.specs.Snapshot.{rows_of}
use Rattle.snapshot_rows.specs.Texts.{SpellsRows}
use Rattle.store_migration.specs.declared.digests.LibraryRows.{LibraryRows}
use Rattle.store_migration.specs.Within.{AreRowsOf, IsThere}

-- ---- one after another

-- objects so far: their rows have the digests of their bytes, and no read failed
pub record HasDigested (area : ℕ) (rows list : List ObjectRow) (first now : Device) (at : ℕ) : Type 0 where
  pub reads : DiskReads true first now
  pub made : first.shows ≡ true → list ++ digested first.seen area (drop at rows) ≡ digested first.seen area rows

pub digested_none : (area : ℕ) (rows : List ObjectRow) (d : Device) → HasDigested area rows [] d d 0
digested_none area rows d = record { reads = no_reads d; made = λ shows. refl }

module _ (area : ℕ) (rows list : List ObjectRow) (first now : Device) (at : ℕ) (so_far : HasDigested area rows list first now at) (within : at < length rows)
    (row : ObjectRow) (row_is : row ≡ get_or rows at row) where
  -- the device is as long as it was
  pub there_now : All (λ (r : ObjectRow). IsThere area r.state first.size) rows → IsThere area row.state now.size
  there_now there =
      subst (IsThere area row.state) (sym so_far.reads.calls.same.size)
      (subst (λ (r : ObjectRow). IsThere area r.state first.size) (sym row_is) (there at row within))

  pub digested_more : (made : ObjectRow) (new : Device) (next : List ObjectRow) → next ≡ list ++ made ∷ [] → DiskReads true now new
      → (now.shows ≡ true → made ≡ digested_row now.seen area row) → HasDigested area rows next first new (at + 1)
  digested_more made new next is reads made_is = record {
    reads = reads_twice true first now new so_far.reads reads;
    made = λ shows.
        let own : made ≡ digested_row first.seen area row =
        made_is (so_far.reads.calls.same.shows ∙ shows) ∙ ap (λ (seen : List ℕ). digested_row seen area row) so_far.reads.seen in
        ap (λ (l : List ObjectRow). l ++ digested first.seen area (drop (at + 1) rows)) is
        ∙ append_assoc list (made ∷ []) (digested first.seen area (drop (at + 1) rows))
        ∙ ap (λ (r : ObjectRow). list ++ r ∷ digested first.seen area (drop (at + 1) rows)) own
        ∙ ap (λ (r : ObjectRow). list ++ digested_row first.seen area r ∷ digested first.seen area (drop (at + 1) rows)) row_is
        ∙ ap (λ (l : List ObjectRow). list ++ digested first.seen area l) (sym (drop_more rows at row within))
        ∙ so_far.made shows;
  }

-- ---- how many are stored

-- objects so far: so many were stored, which is no more than all
pub record HasCounted (rows : List ObjectRow) (at count : ℕ) : Type 0 where
  pub counted : count + length (stored_objects (drop at rows)) ≡ length (stored_objects rows)
  pub most : count ≤ at

pub counted_none : (objects : List ObjectRow) → HasCounted objects 0 0
counted_none objects = record { counted = omega arith; most = omega arith }

module _ (rows : List ObjectRow) (at count : ℕ) (so_far : HasCounted rows at count) (within : at < length rows) (row : ObjectRow)
    (row_is : row ≡ get_or rows at row) where
  next_is : drop at rows ≡ row ∷ drop (at + 1) rows
  next_is = drop_more rows at row within ∙ ap (λ (r : ObjectRow). r ∷ drop (at + 1) rows) (sym row_is)

  count_by : (b : Bool) → is_stored row.state ≡ b
      → length (stored_objects (drop at rows)) ≡ length (if b then row ∷ stored_objects (drop (at + 1) rows) else stored_objects (drop (at + 1) rows))
  count_by b is =
      ap (λ (l : List ObjectRow). length (stored_objects l)) next_is
      ∙ ap (λ (b : Bool). length (if b then row ∷ stored_objects (drop (at + 1) rows) else stored_objects (drop (at + 1) rows))) is

  pub counted_stored : is_stored row.state ≡ true → HasCounted rows (at + 1) (count + 1)
  counted_stored is = record { counted = omega (arith, count_by true is, so_far.counted); most = omega (arith, so_far.most) }

  pub counted_other : is_stored row.state ≡ false → HasCounted rows (at + 1) count
  counted_other is = record { counted = omega (arith, count_by false is, so_far.counted); most = omega (arith, so_far.most) }

-- all were counted
pub counted_all : (rows : List ObjectRow) (at count : ℕ) → HasCounted rows at count → length rows ≤ at → count ≡ length (stored_objects rows)
counted_all rows at count so_far whole =
    omega (arith, so_far.counted, ap (λ (l : List ObjectRow). length (stored_objects l)) (drop_all at rows whole))

-- ---- where objects lie

one_there : (area blocks size : ℕ) → area + 4096 * blocks ≤ size → (state : ObjectState) → is_extent_good blocks state ≡ true → IsThere area state size
one_there area blocks size fits Allocated good = tt
one_there area blocks size fits (Stored start long digest) good =
    let within = and_parts (nat_le (start + blocks_of long) blocks) (nat_lt 0 long || (start == 0)) good in
    let few : start + (long + 4095) / 4096 ≤ blocks = grind (arith, nat_tests) in
    omega (arith, fits, few)

each_there : (area blocks size : ℕ) → area + 4096 * blocks ≤ size → (objects : List ObjectRow)
    → list_all (λ (row : ObjectRow). is_extent_good blocks row.state) objects ≡ true → All (λ (row : ObjectRow). IsThere area row.state size) objects
each_there area blocks size fits objects good k d within =
    let row = get_or objects k d in
    one_there area blocks size fits row.state
    (list_all-In (λ (r : ObjectRow). is_extent_good blocks r.state) objects good row (In-from_Contains objects row (Contains-get_or objects k d within)))

-- the objects of a good library lie in the media blocks
pub objects_there : (library : Library) (journal : Position) (size : ℕ) → Good library → HasItsBlocks library journal
    → 2 * journal.half + 3 ≤ journal.blocks → 4096 * journal.blocks ≤ size
    → All (λ (row : ObjectRow). IsThere (media_start journal.half) row.state size) library.objects
objects_there library journal size good has sizes fits =
    let parts = and_parts (each_pair (λ a b. are_states_apart a.state b.state) library.objects)
    (list_all (λ row. is_extent_good library.blocks row.state) library.objects) good.extents in
    each_there (media_start journal.half) library.blocks size (omega (arith, has, sizes, fits)) library.objects parts.1

-- ---- the rows of the library

-- they are those of the library with the digests, which is good
pub rows_made : (image : List ℕ) (area : ℕ) (library : Library) (objects : List ObjectRow) (rows : LibraryRows) → Good library
    → objects ≡ digested image area library.objects → rows.stored ≡ length (stored_objects objects)
    → (Good (record library { objects = objects }) → SpellsRows form_in_use rows.text (rows_of (record library { objects = objects })))
    → AreRowsOf (library_in 1 image area library) rows
rows_made image area library objects rows good is stored spells = record {
  stored = stored ∙ ap (λ (l : List ObjectRow). length (stored_objects l)) is;
  spells = subst (λ (l : List ObjectRow). SpellsRows form_in_use rows.text (rows_of (record library { objects = l }))) is
      (spells (subst (λ (l : List ObjectRow). Good (record library { objects = l })) (sym is) (good_in 1 image area library good)));
}
