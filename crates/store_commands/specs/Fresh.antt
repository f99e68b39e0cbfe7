-- The file of a new store over bytes of 0, and that it stands for the state of one.
use Rattle.std.specs.Prelude.{◌<◌, ◌-◌, ◌*◌, ◌^◌, ℕ, List, [], ◌∷◌, ◌++◌, replicate}
use Rattle.disk_trait.specs.Calls.{overwritten}
use Rattle.disk_trait.specs.Forms.{form_in_use}
use Rattle.media_journal.specs.declared.header.Header.{Header}
use Rattle.media_journal.specs.File.{header_text, rows_text}
use Rattle.media_journal.specs.Formatting.{FitsStore}
use Rattle.store_states.specs.States.{StandsFor}
use Rattle.store_commands.specs.Formatting.{empty_rows, formatted_state}

-- a header with its gate open, and 0 behind it
abbrev pub fresh_front : Header → List ℕ
fresh_front h = header_text h ++ 1 ∷ replicate (4096 * h.blocks - 41) 0

-- and half A of the form in use with the rows of the empty library, and a closed gate behind them
abbrev pub fresh_file : Header → List ℕ
fresh_file h =
    overwritten 8192 (rows_text form_in_use empty_rows ++ 0 ∷ []) (fresh_front h)

-- it stands for the state of a new store, wherever its numbers fit
abbrev pub FreshFilesStand : Type 0
FreshFilesStand =
    (h : Header) → FitsStore h (4096 * h.blocks) empty_rows → h.id < 2 ^ 128
    → StandsFor (fresh_file h) (formatted_state h)
