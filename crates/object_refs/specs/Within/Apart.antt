-- A row that stands for the one of its serial among the objects, and what holds of it.
use Rattle.std.specs.Prelude.{◌≡◌, ◌==◌, List, Option, Some, None, if◌then◌else◌, map, option_map}
use Rattle.std.specs.List.{AllByRecursion}
use Rattle.media_rows.specs.declared.object.ObjectRow.{ObjectRow}
use Rattle.media_rows.specs.declared.object.ObjectState.{ObjectState}
use Rattle.media_rows.specs.declared.object.ObjectState.TheVariants.{Allocated, Stored}
use Rattle.object_refs.specs.declared.kept.Kept.{Kept}
use Rattle.object_refs.specs.References.{Book}

-- the row that stands for this one
abbrev pub shown_by : ObjectRow → ObjectRow → ObjectRow
shown_by held row = if row.serial == held.serial then held else row

-- the same, where a row is held
abbrev pub shown_row : Option ObjectRow → ObjectRow → ObjectRow
shown_row None row = row
shown_row (Some held) row = shown_by held row

-- the objects, with the row that is held, if one is, in its place
abbrev pub shown_kept : Option ObjectRow → List Kept → List Kept
shown_kept None kept = kept
shown_kept (Some held) kept =
    map (λ k. record { row = shown_by held k.row; flows = k.flows }) kept

-- an object but for its digest
abbrev pub undigested_state : ObjectState → ObjectState
undigested_state Allocated = Allocated
undigested_state (Stored start size digest) = Stored start size None

abbrev pub undigested : ObjectRow → ObjectRow
undigested row = record row { state = undigested_state row.state }

-- a row that is held differs in its digest alone from the one for which it stands
abbrev pub IsHeld : Option ObjectRow → List Kept → Type 0
IsHeld None kept = Unit {0}
IsHeld (Some held) kept =
    AllByRecursion (λ k. undigested (shown_by held k.row) ≡ undigested k.row) kept

-- objects and a row that is held, as a book
abbrev pub book_seen : List Kept → Option ObjectRow → Book
book_seen kept held = record {
  kept = shown_kept held kept;
  apart = option_map (λ row. row.serial) held;
}
