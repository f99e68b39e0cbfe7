-- Each change of a row keeps its id, and what a filter leaves of rising rows rises.
use Rattle.std.proofs.Common.{◌≡◌, Bool, true, List, filter, refl, ap, ◌∙◌}
use Rattle.media_rows.specs.declared.part.Part.{Part}
use Rattle.media_rows.specs.declared.part.Part.TheVariants as parts
use Rattle.media_rows.specs.declared.source.SourceRow.{SourceRow}
use Rattle.media_rows.specs.Catalog.{source_with}
use Rattle.media_rows.specs.Lists.{rises}
use Rattle.library_laws.proofs.ListLemmas.{rises-filter}

-- ---- ids stay

pub set_source_stays : (part : Part) (row : SourceRow) → (source_with part row).id ≡ row.id
set_source_stays (parts.Tag name new) row = refl
set_source_stays (parts.Label new) row = refl
set_source_stays (parts.Description new) row = refl
set_source_stays (parts.ReadOnly new) row = refl
set_source_stays (parts.Collection new) row = refl
set_source_stays (parts.MaxBitRate new) row = refl
set_source_stays (parts.AvgBitRate new) row = refl

-- ---- lists

-- what a filter leaves of rising rows rises
pub listed_rise : {X : Type 0} (t : X → X → Bool) (p : X → Bool) (rows list : List X) → list ≡ filter p rows → rises t rows ≡ true → rises t list ≡ true
listed_rise t p rows list same e = ap (rises t) same ∙ rises-filter t p rows e
