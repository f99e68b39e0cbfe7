-- A text is the snapshot of one library, and the rows of a good library are its text.
use Rattle.std.proofs.Common.{◌≡◌, ◌-◌, ℕ, true, List, [], ◌∷◌, ◌++◌, length, map, refl, sym, ap, ◌∙◌}
use Rattle.std.proofs.lemmas.Bool.{or_right}
use Rattle.disk_trait.specs.Forms.{form_in_use}
use Rattle.media_rows.specs.declared.row.Row.{Row}
use Rattle.media_rows.specs.declared.row.Row.TheVariants as rows
use Rattle.media_rows.specs.Good.{Good}
use Rattle.media_rows.specs.Library.{Library}
use Rattle.media_rows.specs.Lists.{in_order}
use Rattle.media_rows.specs.Snapshot.{have_numbers, is_numbers, library_of, rows_of, segment_row_before}
use Rattle.change_codec.specs.Fitting.{snapshot_size}
use Rattle.media_journal.specs.declared.header.Header.{Header}
use Rattle.library_laws.specs.Laws.{GoodIsTested}
use Rattle.library_laws.specs.RowLaws.{RowsGiveTheLibrary}
use Rattle.snapshot_rows.proofs.Damage.{is_one_list}
use Rattle.snapshot_rows.specs.Texts.{SpellsRows}
use Rattle.store_states.specs.States.{IsSnapshot, IsTextOf, blocks_before}

pub one_snapshot : (form : ℕ) (h : Header) (text : List ℕ) (a b : Library) → IsSnapshot form h text a → IsSnapshot form h text b → b ≡ a
one_snapshot form h text a b first second =
    let same = is_one_list form text first.rows second.rows first.spells second.spells in
    second.made ∙ ap (library_of h.id (h.blocks - blocks_before h.half)) same ∙ sym first.made

-- ---- the text of a good library

numbers_last : (front : List Row) (next : ℕ) → have_numbers (front ++ rows.Numbers next ∷ []) ≡ true
numbers_last [] next = refl
numbers_last (row ∷ front) next = or_right (is_numbers row) (have_numbers (front ++ rows.Numbers next ∷ [])) (numbers_last front next)

-- its rows are its text
pub text_of : RowsGiveTheLibrary → GoodIsTested → (library : Library) → Good library → (text : List ℕ) → SpellsRows form_in_use text (rows_of library)
    → IsTextOf form_in_use library.id library.blocks text library
text_of law tested library good text spells = record {
  rows = rows_of library;
  spells = spells;
  numbered = numbers_last
      (map rows.Source library.catalog.sources ++ map rows.Flow library.catalog.flows ++ map rows.Object library.objects
      ++ map rows.Segment (in_order segment_row_before library.segments) ++ map rows.Request library.requests ++ map rows.Hook library.outbox.hooks
      ++ map rows.Event library.outbox.events)
      library.next_serial;
  made = sym (law library good);
  good = (tested library).1 good;
}

-- and of their size
pub size_of : (library : Library) (text : List ℕ) → SpellsRows form_in_use text (rows_of library) → length text ≡ snapshot_size library
size_of library text spells = ap length spells.spelled
