-- The store that `format` makes: its rows, and the state for which it stands.
use Rattle.std.specs.Prelude.{◌+◌, ◌-◌, ◌*◌, ℕ, List, [], ◌∷◌}
use Rattle.disk_trait.specs.Forms.{form_in_use}
use Rattle.media_rows.specs.declared.row.Row.TheVariants.{Numbers}
use Rattle.media_rows.specs.Library.{empty_library}
use Rattle.snapshot_rows.specs.Texts.{text_of_rows}
use Rattle.media_journal.specs.declared.header.Header.{Header}
use Rattle.store_states.specs.States.{StoreState, blocks_before}

-- the rows of the empty library: one row with the next serial, which is 1
unfoldable pub empty_rows : List ℕ
empty_rows = text_of_rows form_in_use (Numbers 1 ∷ [])

-- The state of a store that was formatted with these numbers: the empty library, and the room of a
-- half behind its rows, which have 13 bytes, and 8 of their length.
abbrev pub formatted_state : Header → StoreState
formatted_state h = record {
  archive = record { library = empty_library h.id (h.blocks - blocks_before h.half); held = [] };
  room = 4096 * h.half - (13 + 8);
  half = 4096 * h.half;
}
