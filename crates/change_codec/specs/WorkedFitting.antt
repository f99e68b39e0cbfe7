-- What fits a journal whose halves have one block, by hand. Our own examples.
use Rattle.std.specs.Prelude.{◌≡◌, ℕ, List, [], length, Option, Some, None, true, false, ◌+◌}
use Rattle.media_rows.specs.declared.change.Change.{Change}
use Rattle.media_rows.specs.declared.change.Change.TheVariants.{PutFlow}
use Rattle.media_rows.specs.declared.flow.FlowBody.{FlowBody}
use Rattle.media_rows.specs.declared.flow.FormatKind.TheVariants.{Video}
use Rattle.media_rows.specs.Changes.{after}
use Rattle.media_rows.specs.Library.{Library, empty_library}
use Rattle.change_codec.specs.Fitting.{State, change_size, snapshot_size, fits, fits_room, with_record}

-- the flow whose id ends in `f1`, of the source whose id ends in `a1`, with no other member
abbrev pub fitting_flow : FlowBody
fitting_flow = record {
  id = 241;
  source = 161;
  format = Video;
  read_only = false;
  codec = None;
  container = None;
  label = None;
  description = None;
  max_bit_rate = None;
  avg_bit_rate = None;
  tags = [];
  members = [];
  essence = None;
}

-- the put of it with this label
abbrev pub labelled : Option (List ℕ) → Change
labelled text = PutFlow 0 (record fitting_flow { label = text })

-- the library of one flow without a label
abbrev pub one_flow : Library
one_flow = after (labelled None) (empty_library 1 1)

-- that library in a half of so many bytes, of which so many are left
abbrev pub kept_in : ℕ → ℕ → State
kept_in half room = record { library = one_flow; room = room; half = half }

-- After 63 puts a half of 4,096 bytes has a room of 106. A label of 38 bytes fits it, one of 39
-- needs a checkpoint, and doesn't fit a half that is too small for the rows and the record.
pub record FitsAsWorked : Type 0 where
  pub plain : change_size (labelled None) ≡ 58
  pub more : (text : List ℕ) → change_size (labelled (Some text)) ≡ 62 + length text
  pub rows : snapshot_size one_flow ≡ 128
  pub in_room : (text : List ℕ) → length text ≡ 38
      → fits_room (kept_in 4096 106) (labelled (Some text)) ≡ true
  pub room_left : (text : List ℕ) → length text ≡ 38
      → (with_record (kept_in 4096 106) (labelled (Some text))).room ≡ 1
  pub too_long : (text : List ℕ) → length text ≡ 39
      → fits_room (kept_in 4096 106) (labelled (Some text)) ≡ false
  pub behind_rows : (text : List ℕ) → length text ≡ 39
      → fits (kept_in 4096 106) (labelled (Some text)) ≡ true
  pub room_behind : (text : List ℕ) → length text ≡ 39
      → (with_record (kept_in 4096 106) (labelled (Some text))).room ≡ 3854
  pub just_fits : (text : List ℕ) → length text ≡ 39
      → fits (kept_in 243 106) (labelled (Some text)) ≡ true
  pub not_at_all : (text : List ℕ) → length text ≡ 39
      → fits (kept_in 242 106) (labelled (Some text)) ≡ false
