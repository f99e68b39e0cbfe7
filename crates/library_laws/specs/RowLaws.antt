-- Laws of a library's rows, of the tables of numbers and names, and of a few words of commands.
use Rattle.std.specs.Prelude.{◌≡◌, ℕ, true, List, [], ◌∷◌, IsTrue, Some, None, is_some, map}
use Rattle.media_rows.specs.declared.change.Change.TheVariants as changes
use Rattle.media_rows.specs.declared.command.Command.{Command}
use Rattle.media_rows.specs.declared.object.Digest.{Digest}
use Rattle.media_rows.specs.declared.part.Part.{Part}
use Rattle.media_rows.specs.declared.refusal.Refusal.{Refusal}
use Rattle.media_rows.specs.declared.refusal.Refusal.TheVariants as refusals
use Rattle.media_rows.specs.Apply.{applied}
use Rattle.media_rows.specs.Catalog.{is_source_part}
use Rattle.media_rows.specs.Good.{Good}
use Rattle.media_rows.specs.Library.{Library}
use Rattle.media_rows.specs.Lists.{rises, are_distinct_texts}
use Rattle.media_rows.specs.RefusalTable.{refusal_number, refusal_status, refusal_name}
use Rattle.media_rows.specs.Snapshot.{rows_of, row_before, library_of}
use Rattle.media_rows.specs.Views.{id_key, key_id}
use Rattle.library_laws.specs.Laws.{HaveRanges}

-- ---- rows

-- a good library is the library of its rows
abbrev pub RowsGiveTheLibrary : Type 0
RowsGiveTheLibrary =
    (library : Library) → Good library
    → library_of library.id library.blocks (rows_of library) ≡ library

-- and its rows stand in their order, each one before each later one
abbrev pub RowsRise : Type 0
RowsRise = (library : Library) → Good library → HaveRanges library.segments
    → IsTrue (rises row_before (rows_of library))

-- good libraries of one id and of as many media blocks are one where their rows are
abbrev pub EqualRowsAreOneLibrary : Type 0
EqualRowsAreOneLibrary =
    (a b : Library) → Good a → Good b → a.id ≡ b.id → a.blocks ≡ b.blocks
    → rows_of a ≡ rows_of b → a ≡ b

-- ---- keys and parts

-- a key of a page by ids gives its id back
abbrev pub KeysGiveIds : Type 0
KeysGiveIds = (id : ℕ) → key_id (id_key id) ≡ id

-- a change that sets a part of a source applies only where a source may have that part
abbrev pub SourcesHaveTheirParts : Type 0
SourcesHaveTheirParts =
    (library next : Library) (moment source : ℕ) (part : Part)
    → applied (changes.SetSource moment source part) library ≡ Some next
    → IsTrue (is_source_part part)

-- ---- the table of refusals

-- a digest of zeros
abbrev pub no_digest : Digest
no_digest = record { high = 0; low = 0 }

-- each refusal once, in the order of their numbers
abbrev pub all_refusals : List Refusal
all_refusals =
    refusals.BadHead ∷ refusals.BadFraming ∷ refusals.LengthRequired ∷ refusals.TooLarge
    ∷ refusals.Coding ∷ refusals.NoRoute ∷ refusals.NoMethod ∷ refusals.NotJson
    ∷ refusals.Fractional ∷ refusals.Missing [] ∷ refusals.WrongKind [] ∷ refusals.TooLong []
    ∷ refusals.OutOfRange [] ∷ refusals.BadTimerange [] ∷ refusals.BadQuery [] ∷ refusals.NoSource
    ∷ refusals.NoFlow ∷ refusals.UnknownObject ∷ refusals.NoRequest ∷ refusals.NotSet []
    ∷ refusals.Deleting ∷ refusals.ReadOnly ∷ refusals.SourceFormat ∷ refusals.FlowChanged
    ∷ refusals.CollectsItself ∷ refusals.CollectedMissing 0 ∷ refusals.IdTaken []
    ∷ refusals.OtherBytes
    ∷ refusals.NoObject [] ∷ refusals.Overlap None ∷ refusals.JournalFull ∷ refusals.MediaFull
    ∷ refusals.ObjectDamaged no_digest no_digest ∷ []

-- numbers run from 1 to 33, names are distinct, and statuses are these, in the order of the numbers
pub record RefusalsAreTabled : Type 0 where
  pub numbers : map refusal_number all_refusals
      ≡ 1 ∷ 2 ∷ 3 ∷ 4 ∷ 5 ∷ 6 ∷ 7 ∷ 8 ∷ 9 ∷ 10 ∷ 11 ∷ 12 ∷ 13 ∷ 14 ∷ 15 ∷ 16 ∷ 17 ∷ 18 ∷ 19
      ∷ 20 ∷ 21 ∷ 22 ∷ 23 ∷ 24 ∷ 25 ∷ 26 ∷ 27 ∷ 28 ∷ 29 ∷ 30 ∷ 31 ∷ 32 ∷ 33 ∷ []
  pub statuses : map refusal_status all_refusals
      ≡ 400 ∷ 400 ∷ 411 ∷ 413 ∷ 415 ∷ 404 ∷ 405 ∷ 400 ∷ 400 ∷ 400 ∷ 400 ∷ 400 ∷ 400 ∷ 400
      ∷ 400 ∷ 404 ∷ 404 ∷ 404 ∷ 404 ∷ 404 ∷ 409 ∷ 403 ∷ 400 ∷ 400 ∷ 400 ∷ 400 ∷ 409 ∷ 409
      ∷ 400 ∷ 400 ∷ 507 ∷ 507 ∷ 410 ∷ []
  pub names : are_distinct_texts (map refusal_name all_refusals) ≡ true
