-- An image that is damaged stands for no state, and is damaged at one place.
use Rattle.std.proofs.Common.{◌≡◌, ◌+◌, ℕ, List, Err, sym, ap, ap₂, ◌∙◌, subst}
use Rattle.disk_trait.specs.Forms.{form_in_use}
use Rattle.media_rows.specs.Library.{Library}
use Rattle.snapshot_rows.specs.Texts.{IsDamagedAt, SpellsRows}
use Rattle.snapshot_rows.proofs.Damage.{damage_is_no_text, is_one_place}
use Rattle.media_journal.specs.declared.header.Header.{Header}
use Rattle.media_journal.specs.declared.record.Record.{Record}
use Rattle.media_journal.specs.declared.fault.JournalFault.TheVariants.{Damaged}
use Rattle.media_journal.specs.File.{active_start}
use Rattle.media_journal.specs.Opening.{DamagedAt, IsStore}
use Rattle.media_journal.specs.Readings.{HasOneAnswer}
use Rattle.media_journal.proofs.OpeningLemmas.{damaged_unreadable}
use Rattle.media_journal.proofs.ReadingLemmas.{one_reading, one_torn_reading, torn_or_whole}
use Rattle.store_states.specs.States.{Folds, IsSnapshot}
use Rattle.store_states.proofs.Snapshots.{one_snapshot}
use Rattle.store_opening.specs.Laws.{DamagedStandsForNone, IsOneDamage, OtherStandsForNone}
use Rattle.store_opening.specs.Opening.{HasDamagedRow, HasOtherRows, HasRefusedRecord, HasTornRecord, IsRefusedAt, ReadsHalf, Closed, Torn, StoreDamagedAt, InJournal, InRow, InRows, InRecord, InTorn}
use Rattle.store_opening.proofs.Applying.{one_refused, refused_no_fold}
use Rattle.store_opening.proofs.Halves.{half_undamaged, one_half}

-- ---- the snapshot of a half, by another reading of it

moved_snapshot : (h j : Header) (form again : ℕ) (text other : List ℕ) (library : Library) → j ≡ h → again ≡ form → other ≡ text
    → IsSnapshot again j other library → IsSnapshot form h text library
moved_snapshot h j form again text other library header is same snapshot =
    subst (λ (f : ℕ). IsSnapshot f h text library) is
    (subst (λ (x : Header). IsSnapshot again x text library) header (subst (λ (t : List ℕ). IsSnapshot again j t library) same snapshot))

module _ (image : List ℕ) (h : Header) (form : ℕ) (text : List ℕ) (records : List Record) (reads : ReadsHalf image h form text records) (first : Library)
    (snapshot : IsSnapshot form h text first) where
  -- a half with a snapshot has no damaged row, and no other rows
  rows_are_whole : (at : ℕ) → HasDamagedRow image at → ⊥
  rows_are_whole at damage =
      let same = one_half image damage.header h damage.form form damage.text text damage.records records damage.reads reads in
      damage_is_no_text damage.form damage.text damage.row snapshot.rows damage.damaged
      (subst (λ (f : ℕ). SpellsRows f damage.text snapshot.rows) same.is (subst (λ (t : List ℕ). SpellsRows form t snapshot.rows) same.text snapshot.spells))

  rows_are_good : (at : ℕ) → HasOtherRows image at → ⊥
  rows_are_good at damage =
      let same = one_half image damage.header h damage.form form damage.text text damage.records records damage.reads reads in
      damage.none first (moved_snapshot damage.header h damage.form form damage.text text first same.header same.is same.text snapshot)

  -- and where its records make a library, none of them is refused
  records_are_good : (library : Library) (at : ℕ) → Folds form records first library → HasRefusedRecord image at → ⊥
  records_are_good library at folds damage =
      let same = one_half image damage.header h damage.form form damage.text text damage.records records damage.reads reads in
      let one : first ≡ damage.first =
      one_snapshot damage.form damage.header damage.text damage.first first damage.snapshot
      (moved_snapshot damage.header h damage.form form damage.text text first same.header same.is same.text snapshot) in
      let moved : Folds damage.form damage.records damage.first library =
      subst (λ (f : ℕ). Folds f damage.records damage.first library) same.is
      (subst (λ (rs : List Record). Folds form rs damage.first library) same.records (subst (λ (x : Library). Folds form records x library) one folds)) in
      refused_no_fold damage.form damage.records damage.first library at damage.refused moved

-- ---- no state

pub damaged_stands_for_none : DamagedStandsForNone
damaged_stands_for_none image at form s damage stands = by damage
  where
    half : ReadsHalf image stands.header form stands.text stands.records
    half = Closed stands.gate stands.reads

    by : StoreDamagedAt image at → ⊥
    by (InJournal damage) = damaged_unreadable image at damage _ _ _ _ _ stands.reads
    by (InRow damage) = rows_are_whole image stands.header form stands.text stands.records half stands.makes.first stands.makes.snapshot at damage
    by (InRows damage) = rows_are_good image stands.header form stands.text stands.records half stands.makes.first stands.makes.snapshot at damage
    by (InRecord damage) =
        records_are_good image stands.header form stands.text stands.records half stands.makes.first stands.makes.snapshot stands.made at stands.makes.folds
        damage
    by (InTorn damage) = torn_or_whole image _ _ _ _ _ _ _ _ _ _ damage.reads stands.reads

-- two readings of an image are of one form
pub other_stands_for_none : OtherStandsForNone
other_stands_for_none image s other stands =
    let first = other.stands in
    let same =
    one_reading image stands.header first.header stands.gate first.gate form_in_use other.form stands.text first.text stands.records first.records stands.reads
    first.reads in
    other.other same.2

-- ---- one place

torn_half : (image : List ℕ) (at : ℕ) (damage : HasTornRecord image at) → ReadsHalf image damage.header damage.form damage.text damage.records
torn_half image at damage = Torn at damage.reads

one_header_fault : (image : List ℕ) (at other : ℕ) → HasOneAnswer image → IsStore image → DamagedAt image at → DamagedAt image other → other ≡ at
one_header_fault image at other law store first second =
    let e : Err (Damaged other) ≡ Err (Damaged at) = law (Err (Damaged at)) (Err (Damaged other)) tt tt (store, first) (store, second) in
    cc

one_row : (image : List ℕ) (at other : ℕ) → HasDamagedRow image at → HasDamagedRow image other → other ≡ at
one_row image at other a b =
    let same = one_half image a.header b.header a.form b.form a.text b.text a.records b.records a.reads b.reads in
    let row : b.row ≡ a.row = is_one_place a.form a.text a.row b.row a.damaged
    (subst (λ (f : ℕ). IsDamagedAt f a.text b.row) same.is (subst (λ (t : List ℕ). IsDamagedAt b.form t b.row) same.text b.damaged)) in
    b.place ∙ ap₂ (λ (h : Header) (row : ℕ). active_start image h.half + 8 + row) same.header row ∙ sym a.place

one_start : (image : List ℕ) (at other : ℕ) → HasOtherRows image at → HasOtherRows image other → other ≡ at
one_start image at other a b =
    let same = one_half image a.header b.header a.form b.form a.text b.text a.records b.records a.reads b.reads in
    b.place ∙ ap (λ (h : Header). active_start image h.half) same.header ∙ sym a.place

row_or_rows : (image : List ℕ) (at other : ℕ) → HasDamagedRow image at → HasOtherRows image other → ⊥
row_or_rows image at other a b =
    let same = one_half image a.header b.header a.form b.form a.text b.text a.records b.records a.reads b.reads in
    damage_is_no_text a.form a.text a.row b.rows a.damaged
    (subst (λ (f : ℕ). SpellsRows f a.text b.rows) same.is (subst (λ (t : List ℕ). SpellsRows b.form t b.rows) same.text b.spells))

one_record : (image : List ℕ) (at other : ℕ) → HasRefusedRecord image at → HasRefusedRecord image other → other ≡ at
one_record image at other a b =
    let same = one_half image a.header b.header a.form b.form a.text b.text a.records b.records a.reads b.reads in
    let first : b.first ≡ a.first =
    one_snapshot a.form a.header a.text a.first b.first a.snapshot
    (moved_snapshot a.header b.header a.form b.form a.text b.text b.first same.header same.is same.text b.snapshot) in
    let refused : IsRefusedAt a.form a.records a.first other =
    subst (λ (f : ℕ). IsRefusedAt f a.records a.first other) same.is
    (subst (λ (rs : List Record). IsRefusedAt b.form rs a.first other) same.records (subst (λ (x : Library). IsRefusedAt b.form b.records x other) first b.refused)) in
    one_refused a.form a.records a.first at other a.refused refused

one_torn : (image : List ℕ) (at other : ℕ) → HasTornRecord image at → HasTornRecord image other → other ≡ at
one_torn image at other a b = (one_torn_reading image _ _ _ _ _ _ _ _ _ _ a.reads b.reads).1

row_or_record : (image : List ℕ) (at other : ℕ) → HasDamagedRow image at → HasRefusedRecord image other → ⊥
row_or_record image at other a b = rows_are_whole image b.header b.form b.text b.records b.reads b.first b.snapshot at a

row_or_torn : (image : List ℕ) (at other : ℕ) → HasDamagedRow image at → HasTornRecord image other → ⊥
row_or_torn image at other a b =
    rows_are_whole image b.header b.form b.text b.records (torn_half image other b) b.makes.first b.makes.snapshot at a

rows_or_record : (image : List ℕ) (at other : ℕ) → HasOtherRows image at → HasRefusedRecord image other → ⊥
rows_or_record image at other a b = rows_are_good image b.header b.form b.text b.records b.reads b.first b.snapshot at a

rows_or_torn : (image : List ℕ) (at other : ℕ) → HasOtherRows image at → HasTornRecord image other → ⊥
rows_or_torn image at other a b =
    rows_are_good image b.header b.form b.text b.records (torn_half image other b) b.makes.first b.makes.snapshot at a

record_or_torn : (image : List ℕ) (at other : ℕ) → HasRefusedRecord image at → HasTornRecord image other → ⊥
record_or_torn image at other a b =
    records_are_good image b.header b.form b.text b.records (torn_half image other b) b.makes.first b.makes.snapshot b.library at b.makes.folds a

pub one_damage : ((image : List ℕ) → HasOneAnswer image) → IsOneDamage
one_damage law image at other store (InJournal a) (InJournal b) = one_header_fault image at other (law image) store a b
one_damage law image at other store (InJournal a) (InRow b) = absurd (half_undamaged image b.header b.form b.text b.records at (law image) store b.reads a)
one_damage law image at other store (InJournal a) (InRows b) = absurd (half_undamaged image b.header b.form b.text b.records at (law image) store b.reads a)
one_damage law image at other store (InJournal a) (InRecord b) = absurd (half_undamaged image b.header b.form b.text b.records at (law image) store b.reads a)
one_damage law image at other store (InJournal a) (InTorn b) =
    absurd (half_undamaged image b.header b.form b.text b.records at (law image) store (torn_half image other b) a)
one_damage law image at other store (InRow a) (InJournal b) = absurd (half_undamaged image a.header a.form a.text a.records other (law image) store a.reads b)
one_damage law image at other store (InRow a) (InRow b) = one_row image at other a b
one_damage law image at other store (InRow a) (InRows b) = absurd (row_or_rows image at other a b)
one_damage law image at other store (InRow a) (InRecord b) = absurd (row_or_record image at other a b)
one_damage law image at other store (InRow a) (InTorn b) = absurd (row_or_torn image at other a b)
one_damage law image at other store (InRows a) (InJournal b) = absurd (half_undamaged image a.header a.form a.text a.records other (law image) store a.reads b)
one_damage law image at other store (InRows a) (InRow b) = absurd (row_or_rows image other at b a)
one_damage law image at other store (InRows a) (InRows b) = one_start image at other a b
one_damage law image at other store (InRows a) (InRecord b) = absurd (rows_or_record image at other a b)
one_damage law image at other store (InRows a) (InTorn b) = absurd (rows_or_torn image at other a b)
one_damage law image at other store (InRecord a) (InJournal b) = absurd (half_undamaged image a.header a.form a.text a.records other (law image) store a.reads b)
one_damage law image at other store (InRecord a) (InRow b) = absurd (row_or_record image other at b a)
one_damage law image at other store (InRecord a) (InRows b) = absurd (rows_or_record image other at b a)
one_damage law image at other store (InRecord a) (InRecord b) = one_record image at other a b
one_damage law image at other store (InRecord a) (InTorn b) = absurd (record_or_torn image at other a b)
one_damage law image at other store (InTorn a) (InJournal b) =
    absurd (half_undamaged image a.header a.form a.text a.records other (law image) store (torn_half image at a) b)
one_damage law image at other store (InTorn a) (InRow b) = absurd (row_or_torn image other at b a)
one_damage law image at other store (InTorn a) (InRows b) = absurd (rows_or_torn image other at b a)
one_damage law image at other store (InTorn a) (InRecord b) = absurd (record_or_torn image other at b a)
one_damage law image at other store (InTorn a) (InTorn b) = one_torn image at other a b
