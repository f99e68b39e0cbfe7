-- The catalog: sources and flows, each by rising id; what is said of them, and what each change of
-- them refuses and makes. Our own profile of the Time-addressable Media Store.
use Rattle.std.specs.Prelude.{ℕ, ◌==◌, nat_lt, List, [], ◌∷◌, Bool, true, false, not, ◌&&◌, ◌||◌, Option, Some, None, is_none, if◌then◌else◌, filter, map, find, length, bytes_eq, codes}
use Rattle.std.specs.List.{list_any}
use Rattle.media_rows.specs.declared.flow.FormatKind.{FormatKind}
use Rattle.media_rows.specs.declared.flow.FormatKind.TheVariants.{Multi}
use Rattle.media_rows.specs.declared.flow.Tag.{Tag}
use Rattle.media_rows.specs.declared.flow.Member.{Member}
use Rattle.media_rows.specs.declared.flow.FlowBody.{FlowBody}
use Rattle.media_rows.specs.declared.flow.FlowRow.{FlowRow}
use Rattle.media_rows.specs.declared.source.SourceRow.{SourceRow}
use Rattle.media_rows.specs.declared.part.Part.{Part}
use Rattle.media_rows.specs.declared.part.Part.TheVariants as parts
use Rattle.media_rows.specs.declared.refusal.Refusal.{Refusal}
use Rattle.media_rows.specs.declared.refusal.Refusal.TheVariants as refusals
use Rattle.media_rows.specs.Formats.{format_number}
use Rattle.media_rows.specs.Lists.{placed, text_before}
use Rattle.media_rows.specs.Refusals.{when, first_refusal}
use Rattle.media_rows.specs.Collections.{collects_itself, first_missing, without_entries}

-- the sources and the flows, each by rising id
pub record Catalog : Type 0 where
  pub sources : List SourceRow
  pub flows : List FlowRow

-- ---- look-ups

-- the source of an id, if it is kept
abbrev pub source_of : ℕ → List SourceRow → Option SourceRow
source_of id sources = find (λ row. row.id == id) sources

-- the flow of an id, if it is kept
abbrev pub flow_of : ℕ → List FlowRow → Option FlowRow
flow_of id flows = find (λ row. row.body.id == id) flows

-- sources stand by rising id
abbrev pub source_before : SourceRow → SourceRow → Bool
source_before a b = nat_lt a.id b.id

-- flows stand by rising id
abbrev pub flow_before : FlowRow → FlowRow → Bool
flow_before a b = nat_lt a.body.id b.body.id

-- two formats are the same, which their numbers tell
abbrev pub same_format : FormatKind → FormatKind → Bool
same_format a b = format_number a == format_number b

-- whether a source keeps some flow
abbrev pub has_flow : List FlowRow → SourceRow → Bool
has_flow flows source = list_any (λ row. row.body.source == source.id) flows

-- whether a format may stand under a source of another: it is the same, or it is multi
abbrev pub fits_format : FormatKind → FormatKind → Bool
fits_format source flow = same_format flow source || same_format flow Multi

-- ---- a flow that is put

-- whether the flow may stand under the source that it names: one that isn't kept takes the flow's
-- format
abbrev pub fits_source : Option SourceRow → FlowBody → Bool
fits_source None body = true
fits_source (Some source) body = fits_format source.format body.format

-- whether a new body keeps the source and the format of the old one
abbrev pub keeps_flow : FlowBody → FlowBody → Bool
keeps_flow old new = (new.source == old.source) && same_format new.format old.format

-- a collected flow is missing, and the refusal names it
abbrev pub missing_refusal : Option ℕ → Option Refusal
missing_refusal None = None
missing_refusal (Some id) = Some (refusals.CollectedMissing id)

-- the refusals of a collection in order: the first collected flow that is neither kept nor the flow
-- itself, then a flow that would reach itself
abbrev pub collection_refusals : List FlowRow → ℕ → List Member → List (Option Refusal)
collection_refusals flows id members =
    missing_refusal (first_missing flows id members)
    ∷ when (collects_itself flows id members) refusals.CollectsItself ∷ []

-- the refusals of a PUT of a flow in order: of a new flow, another format than its source's; of a
-- kept one, read-only, then another source or format than before; and of both, those of the
-- collection
abbrev pub put_refusals : Option FlowRow → Catalog → FlowBody → List (Option Refusal)
put_refusals None catalog body =
    when (not (fits_source (source_of body.source catalog.sources) body)) refusals.SourceFormat
    ∷ collection_refusals catalog.flows body.id body.members
put_refusals (Some old) catalog body =
    when old.body.read_only refusals.ReadOnly
    ∷ when (not (keeps_flow old.body body)) refusals.FlowChanged
    ∷ collection_refusals catalog.flows body.id body.members

-- the first refusal that stands of a PUT of a flow, be its id kept or new
abbrev pub put_refusal : Catalog → FlowBody → Option Refusal
put_refusal catalog body = first_refusal (put_refusals (flow_of body.id catalog.flows) catalog body)

-- the row of a flow that is put: a kept one keeps the moments of its making and of its segments
abbrev pub put_row : Option FlowRow → FlowBody → ℕ → FlowRow
put_row None body moment =
    record { body = body; created = moment; metadata_updated = moment; segments_updated = None }
put_row (Some old) body moment =
    record old { body = body; metadata_updated = moment }

-- the source that a flow makes: with its format, and nothing said of it
abbrev pub new_source : FlowBody → ℕ → SourceRow
new_source body moment =
    record {
      id = body.source;
      format = body.format;
      label = None;
      description = None;
      tags = [];
      created = moment;
      updated = moment;
    }

-- a source that isn't kept is made by the flow that names it, and a kept one stays as it is
abbrev pub sources_after_put : Option SourceRow → List SourceRow → FlowBody → ℕ → List SourceRow
sources_after_put None sources body moment = placed source_before (new_source body moment) sources
sources_after_put (Some kept) sources body moment = sources

-- the catalog once a flow was put: its source is there, and the flow stands at its place by id
abbrev pub after_put : FlowBody → ℕ → Catalog → Catalog
after_put body moment catalog = record {
  sources = sources_after_put (source_of body.source catalog.sources) catalog.sources body moment;
  flows = placed flow_before (put_row (flow_of body.id catalog.flows) body moment) catalog.flows;
}

-- ---- a part that is set

-- tags stand by rising name in byte order
abbrev pub tag_before : Tag → Tag → Bool
tag_before a b = text_before a.name b.name

-- the tag of a name, if it is set
abbrev pub tag_of : List ℕ → List Tag → Option Tag
tag_of name tags = find (λ tag. bytes_eq tag.name name) tags

-- the tags once the one of a name is set or cleared
abbrev pub tags_with : List ℕ → Option Tag → List Tag → List Tag
tags_with name None tags = filter (λ tag. not (bytes_eq tag.name name)) tags
tags_with name (Some new) tags = placed tag_before new tags

-- a part that is cleared has to be set
abbrev pub clears_nothing : {X Y : Type 0} → Option X → Option Y → Bool
clears_nothing old new = is_none new && is_none old

-- an empty collection is the same as none
abbrev pub collects_nothing : List Member → List Member → Bool
collects_nothing old new = (length new == 0) && (length old == 0)

-- a part that a flow hasn't, and that is to be cleared
abbrev pub flow_part_unset : FlowBody → Part → Option Refusal
flow_part_unset body (parts.Tag name new) =
    when (clears_nothing (tag_of name body.tags) new) (refusals.NotSet (codes "tags"))
flow_part_unset body (parts.Label new) =
    when (clears_nothing body.label new) (refusals.NotSet (codes "label"))
flow_part_unset body (parts.Description new) =
    when (clears_nothing body.description new) (refusals.NotSet (codes "description"))
flow_part_unset body (parts.ReadOnly new) = None
flow_part_unset body (parts.Collection new) =
    when (collects_nothing body.members new) (refusals.NotSet (codes "flow_collection"))
flow_part_unset body (parts.MaxBitRate new) =
    when (clears_nothing body.max_bit_rate new) (refusals.NotSet (codes "max_bit_rate"))
flow_part_unset body (parts.AvgBitRate new) =
    when (clears_nothing body.avg_bit_rate new) (refusals.NotSet (codes "avg_bit_rate"))

-- a read-only flow takes no part but its mark
abbrev pub sets_mark : Part → Bool
sets_mark (parts.Tag name new) = false
sets_mark (parts.Label new) = false
sets_mark (parts.Description new) = false
sets_mark (parts.ReadOnly new) = true
sets_mark (parts.Collection new) = false
sets_mark (parts.MaxBitRate new) = false
sets_mark (parts.AvgBitRate new) = false

-- the refusals of the collection that a part sets
abbrev pub part_refusals : List FlowRow → ℕ → Part → List (Option Refusal)
part_refusals flows id (parts.Tag name new) = []
part_refusals flows id (parts.Label new) = []
part_refusals flows id (parts.Description new) = []
part_refusals flows id (parts.ReadOnly new) = []
part_refusals flows id (parts.Collection new) = collection_refusals flows id new
part_refusals flows id (parts.MaxBitRate new) = []
part_refusals flows id (parts.AvgBitRate new) = []

-- the refusals of a part of a flow in order: no such flow, read-only unless the part is the mark
-- itself, the clearing of what isn't set, and those of a collection
abbrev pub set_refusals : Option FlowRow → List FlowRow → ℕ → Part → List (Option Refusal)
set_refusals None flows id part = Some refusals.NoFlow ∷ []
set_refusals (Some old) flows id part =
    when (old.body.read_only && not (sets_mark part)) refusals.ReadOnly
    ∷ flow_part_unset old.body part ∷ part_refusals flows id part

-- the first refusal that stands of a part of a flow
abbrev pub set_refusal : Catalog → ℕ → Part → Option Refusal
set_refusal catalog id part =
    first_refusal (set_refusals (flow_of id catalog.flows) catalog.flows id part)

-- what is said of a flow, with one part set or cleared; all other parts stay
abbrev pub body_with : Part → FlowBody → FlowBody
body_with (parts.Tag name new) body = record body { tags = tags_with name new body.tags }
body_with (parts.Label new) body = record body { label = new }
body_with (parts.Description new) body = record body { description = new }
body_with (parts.ReadOnly new) body = record body { read_only = new }
body_with (parts.Collection new) body = record body { members = new }
body_with (parts.MaxBitRate new) body = record body { max_bit_rate = new }
body_with (parts.AvgBitRate new) body = record body { avg_bit_rate = new }

-- the flows with one of them changed
abbrev pub with_flow : ℕ → (FlowRow → FlowRow) → List FlowRow → List FlowRow
with_flow id change flows = map (λ row. if row.body.id == id then change row else row) flows

-- a flow of which a part was set at this moment; the moments of its making and of its segments stay
abbrev pub set_row : Part → ℕ → FlowRow → FlowRow
set_row part moment row = record row { body = body_with part row.body; metadata_updated = moment }

-- the catalog once a part of a flow was set; all other flows and the sources stay
abbrev pub after_set : ℕ → Part → ℕ → Catalog → Catalog
after_set id part moment catalog =
    record catalog { flows = with_flow id (set_row part moment) catalog.flows }

-- ---- a part of a source

-- a part that a source may have: a tag, the label or the description
abbrev pub is_source_part : Part → Bool
is_source_part (parts.Tag name new) = true
is_source_part (parts.Label new) = true
is_source_part (parts.Description new) = true
is_source_part (parts.ReadOnly new) = false
is_source_part (parts.Collection new) = false
is_source_part (parts.MaxBitRate new) = false
is_source_part (parts.AvgBitRate new) = false

-- A part that a source hasn't, and that is to be cleared. The parts that no source may have are
-- never set, and so are refused too where they bring a value.
abbrev pub source_part_unset : SourceRow → Part → Option Refusal
source_part_unset row (parts.Tag name new) =
    when (clears_nothing (tag_of name row.tags) new) (refusals.NotSet (codes "tags"))
source_part_unset row (parts.Label new) =
    when (clears_nothing row.label new) (refusals.NotSet (codes "label"))
source_part_unset row (parts.Description new) =
    when (clears_nothing row.description new) (refusals.NotSet (codes "description"))
source_part_unset row (parts.ReadOnly new) = Some (refusals.NotSet (codes "read_only"))
source_part_unset row (parts.Collection new) = Some (refusals.NotSet (codes "flow_collection"))
source_part_unset row (parts.MaxBitRate new) = Some (refusals.NotSet (codes "max_bit_rate"))
source_part_unset row (parts.AvgBitRate new) = Some (refusals.NotSet (codes "avg_bit_rate"))

-- the refusals of a part of a source in order: no such source, then the clearing of what isn't set
abbrev pub source_refusals : Option SourceRow → Part → List (Option Refusal)
source_refusals None part = Some refusals.NoSource ∷ []
source_refusals (Some old) part = source_part_unset old part ∷ []

-- The first refusal that stands of a part of a source. No flow keeps its source from this, be it
-- read-only or being deleted.
abbrev pub set_source_refusal : Catalog → ℕ → Part → Option Refusal
set_source_refusal catalog id part =
    first_refusal (source_refusals (source_of id catalog.sources) part)

-- a source has tags, a label and a description alone
abbrev pub source_with : Part → SourceRow → SourceRow
source_with (parts.Tag name new) row = record row { tags = tags_with name new row.tags }
source_with (parts.Label new) row = record row { label = new }
source_with (parts.Description new) row = record row { description = new }
source_with (parts.ReadOnly new) row = row
source_with (parts.Collection new) row = row
source_with (parts.MaxBitRate new) row = row
source_with (parts.AvgBitRate new) row = row

-- a source of which a part was set at this moment; its format and the moment of its making stay
abbrev pub set_source_row : Part → ℕ → SourceRow → SourceRow
set_source_row part moment row = record (source_with part row) { updated = moment }

-- the sources with one of them changed
abbrev pub with_source : ℕ → (SourceRow → SourceRow) → List SourceRow → List SourceRow
with_source id change sources = map (λ row. if row.id == id then change row else row) sources

-- the catalog once a part of a source was set; all other sources and the flows stay
abbrev pub after_set_source : ℕ → Part → ℕ → Catalog → Catalog
after_set_source id part moment catalog =
    record catalog { sources = with_source id (set_source_row part moment) catalog.sources }

-- ---- segments that came or went, and a flow that goes

-- a flow whose segments changed at this moment; what is said of it, and the moment of that, stay
abbrev pub touched : ℕ → FlowRow → FlowRow
touched moment row = record row { segments_updated = Some moment }

-- the catalog once segments came to a flow or went from it
abbrev pub after_touch : ℕ → ℕ → Catalog → Catalog
after_touch id moment catalog =
    record catalog { flows = with_flow id (touched moment) catalog.flows }

-- no such flow is kept
abbrev pub no_flow_refusal : Catalog → ℕ → Option Refusal
no_flow_refusal catalog id = when (is_none (flow_of id catalog.flows)) refusals.NoFlow

-- no such flow is kept, or it is read-only
abbrev pub flow_refusals : Option FlowRow → List (Option Refusal)
flow_refusals None = Some refusals.NoFlow ∷ []
flow_refusals (Some row) = when row.body.read_only refusals.ReadOnly ∷ []

-- the first refusal of the catalog where a flow is to go, or its segments or objects are to change
abbrev pub flow_refusal : Catalog → ℕ → Option Refusal
flow_refusal catalog id = first_refusal (flow_refusals (flow_of id catalog.flows))

-- the flows without one, and without the entries of it in collections, whose moments stay
abbrev pub flows_after_drop : ℕ → List FlowRow → List FlowRow
flows_after_drop id flows = map (without_entries id) (filter (λ row. not (row.body.id == id)) flows)

-- a source goes with its last flow
abbrev pub after_drop : ℕ → Catalog → Catalog
after_drop id catalog = record {
  sources = filter (has_flow (flows_after_drop id catalog.flows)) catalog.sources;
  flows = flows_after_drop id catalog.flows;
}
