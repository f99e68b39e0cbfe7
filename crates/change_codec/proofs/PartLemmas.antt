-- A part of a source is spelled as a flow's part.
use Rattle.std.proofs.Common.{ℕ, List}
use Rattle.media_rows.specs.declared.part.Part.{Part}
use Rattle.media_rows.specs.declared.part.Part.TheVariants as parts
use Rattle.field_codec.specs.Reading.{WritesValue}
use Rattle.change_codec.specs.Values.{flow_part_spelling, source_part_spelling}

pub source_asks : (p : Part) → source_part_spelling.asks p → flow_part_spelling.asks p
unfolding source_part_spelling flow_part_spelling
source_asks (parts.Tag name tag) h = h
source_asks (parts.Label text) h = h
source_asks (parts.Description text) h = h
source_asks (parts.ReadOnly mark) h = absurd h
source_asks (parts.Collection members) h = absurd h
source_asks (parts.MaxBitRate rate) h = absurd h
source_asks (parts.AvgBitRate rate) h = absurd h

pub source_wrote : (old new : List ℕ) (p : Part) → source_part_spelling.asks p → WritesValue flow_part_spelling old p new
    → WritesValue source_part_spelling old p new
unfolding source_part_spelling flow_part_spelling
source_wrote old new (parts.Tag name tag) h w = record { written = w.written; fits = w.fits }
source_wrote old new (parts.Label text) h w = record { written = w.written; fits = w.fits }
source_wrote old new (parts.Description text) h w = record { written = w.written; fits = w.fits }
source_wrote old new (parts.ReadOnly mark) h w = absurd h
source_wrote old new (parts.Collection members) h w = absurd h
source_wrote old new (parts.MaxBitRate rate) h w = absurd h
source_wrote old new (parts.AvgBitRate rate) h w = absurd h
