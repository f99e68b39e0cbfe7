-- What was opened of an image decides what opening a store answers.
use Rattle.std.proofs.Common.{◌≡◌, ◌<◌, ◌≤◌, ◌+◌, ◌-◌, ◌^◌, ℕ, false, List, ◌*◌, Option, Some, None, Err, inl, inr, refl, ap, subst, ◌∙◌, arith}
use Rattle.disk_trait.specs.Forms.{form_in_use}
use Rattle.media_rows.specs.declared.row.Row.{Row}
use Rattle.media_rows.specs.Library.{Library}
use Rattle.snapshot_rows.specs.Texts.{IsDamagedAt, SpellsRows}
use Rattle.media_journal.specs.declared.open.Opened.{Opened}
use Rattle.media_journal.specs.declared.fault.JournalFault.{JournalFault}
use Rattle.media_journal.specs.declared.fault.JournalFault.TheVariants as journal
use Rattle.media_journal.specs.Journal.{Gives}
use Rattle.media_journal.specs.Opening.{IsOpened, OpenAnswer, contents_of, header_of}
use Rattle.media_journal.proofs.ReadingLemmas.{gives_reads}
use Rattle.core_restore.specs.Restored.{are_rows_of_good}
use Rattle.store_states.specs.States.{Folds, IsSnapshot, Makes, StoreState, blocks_before, held_in, library_in, media_start}
use Rattle.store_opening.specs.declared.fault.OpenFault.{OpenFault}
use Rattle.store_opening.specs.declared.fault.OpenFault.TheVariants.{Damaged, Memory}
use Rattle.store_states.specs.Kept.{StoreView}
use Rattle.store_opening.specs.Opening.{IsKeptBy, IsRefusedAt, InJournal, InRow, InRows, InRecord, InTorn, ReadAnswer, StandsByOther, StoreAnswer, StoreDamagedAt, state_read}
use Rattle.store_opening.proofs.Kept.{read_stands}
use Rattle.store_opening.specs.Within.{RowsMakeNoLibrary, AtDamage, PartAnswer, opening_fault}
use Rattle.store_opening.proofs.Halves.{opened_half, opened_torn, opened_whole, rows_within}
use Rattle.store_opening.proofs.Texts.{row_within, text_of_none}

-- a fault in opening the journal
pub journal_fault : (image : List ℕ) (fault : JournalFault) → OpenAnswer image (Err fault) → ReadAnswer image (Err fault)
journal_fault image journal.NotStore none = none
journal_fault image (journal.Damaged at) damage = (damage.0, InJournal damage.1)
journal_fault image journal.OldForm fault = absurd fault
journal_fault image journal.Disk fault = tt
journal_fault image journal.Memory fault = tt

-- a fault in what was opened
pub part_fault : (image : List ℕ) (o : Opened) (fault : OpenFault) → IsOpened image o → PartAnswer image (Err fault)
    → ReadAnswer image (Err (opening_fault fault))
part_fault image o (Damaged at) is damage = (is.store, damage)
part_fault image o Memory is damage = tt

-- ---- rows

-- a row is damaged
pub damaged_row : (image : List ℕ) (o : Opened) (row at : ℕ) → IsOpened image o → IsDamagedAt o.form o.rows row
    → (o.rows_at + row < 2 ^ 63 → at ≡ o.rows_at + row) → RowsMakeNoLibrary image at
damaged_row image o row at is damaged place = inl record {
  header = header_of o;
  form = o.form;
  text = o.rows;
  records = o.found;
  reads = opened_half image o is;
  row = row;
  damaged = damaged;
  place = omega (arith, place (omega (arith, row_within o.form o.rows row damaged, rows_within image o is)), is.rows_at);
}

-- the rows are others
pub other_rows : (image : List ℕ) (o : Opened) (blocks : ℕ) (rows : List Row) (at : ℕ) → IsOpened image o → blocks ≡ o.blocks - blocks_before o.half
    → SpellsRows o.form o.rows rows → are_rows_of_good o.id blocks rows ≡ false → (8 ≤ o.rows_at → at + 8 ≡ o.rows_at) → RowsMakeNoLibrary image at
other_rows image o blocks rows at is count spells wrong place = inr record {
  header = header_of o;
  form = o.form;
  text = o.rows;
  records = o.found;
  reads = opened_half image o is;
  rows = rows;
  spells = spells;
  none = text_of_none o.form o.id (o.blocks - blocks_before o.half) o.rows rows spells (rw (← count) wrong);
  place = omega (arith, place (omega (arith, is.rows_at)), is.rows_at);
}

pub rows_fault : (image : List ℕ) (fault : OpenFault) → AtDamage {X = Library} (Err fault) (RowsMakeNoLibrary image) → PartAnswer image (Err fault)
rows_fault image (Damaged at) wrong = elim wrong [ inl row ↦ InRow row | inr rows ↦ InRows rows ]
rows_fault image Memory wrong = tt

-- ---- records

pub records_fault : (image : List ℕ) (o : Opened) (first : Library) (fault : OpenFault) → IsOpened image o → IsSnapshot o.form (header_of o) o.rows first
    → AtDamage {X = Library} (Err fault) (IsRefusedAt o.form o.found first) → PartAnswer image (Err fault)
records_fault image o first (Damaged at) is snapshot refused = InRecord record {
  header = header_of o;
  form = o.form;
  text = o.rows;
  records = o.found;
  reads = opened_half image o is;
  first = first;
  snapshot = snapshot;
  refused = refused;
}
records_fault image o first Memory is snapshot refused = tt

pub torn_record : (image : List ℕ) (o : Opened) (first library : Library) (at : ℕ) → o.torn ≡ Some at → IsOpened image o
    → IsSnapshot o.form (header_of o) o.rows first → Folds o.form o.found first library → StoreDamagedAt image at
torn_record image o first library at torn is snapshot folds = InTorn record {
  header = header_of o;
  form = o.form;
  text = o.rows;
  records = o.found;
  reads = opened_torn image o at torn is;
  library = library;
  makes = record { first = first; snapshot = snapshot; folds = folds };
}

-- ---- what is kept

pub is_kept : (image : List ℕ) (o : Opened) (first library : Library) → o.torn ≡ None → IsOpened image o
    → IsSnapshot o.form (header_of o) o.rows first → Folds o.form o.found first library
    → IsKeptBy o.form image (record { library = library; journal = o.journal })
is_kept image o first library whole is snapshot folds = record {
  header = header_of o;
  text = o.rows;
  records = o.found;
  gives = opened_whole image o whole is;
  makes = record { first = first; snapshot = snapshot; folds = folds };
}

-- no record is torn
pub untorn : (torn : Option ℕ) → ((at : ℕ) → torn ≡ Some at → ⊥) → torn ≡ None
untorn None none = refl
untorn (Some at) none = absurd (none at refl)

-- ---- what is answered in the form in use

-- what is kept by a half of another form is refused
pub other_form : (image : List ℕ) (form : ℕ) (kept : StoreView) → (form ≡ form_in_use → ⊥) → IsKeptBy form image kept → StandsByOther image
other_form image form kept other is =
    record { form = form; other = other; state = state_read form image kept; stands = read_stands form image kept is }

pub read_fault : (image : List ℕ) (fault : JournalFault) → ReadAnswer image (Err fault) → StoreAnswer image (Err fault)
read_fault image journal.NotStore none = none
read_fault image (journal.Damaged at) damage = damage
read_fault image journal.OldForm fault = absurd fault
read_fault image journal.Disk fault = tt
read_fault image journal.Memory fault = tt
