-- Refusals that may stand, and have their texts where they do: so it is for each test, for the first of several, and for those of each command.
use Rattle.std.proofs.Common.{◌≡◌, ℕ, Bool, true, false, List, [], ◌∷◌, ◌++◌, Option, Some, None, refl}
use Rattle.std.specs.Prelude.{codes, ◌||◌}
use Rattle.std.specs.List.{list_all}
use Rattle.std.specs.Str.{is_utf8, chars}
use Rattle.std.proofs.Math.Utf8.{encode}
use Rattle.std.proofs.lemmas.Bool.{and_from, and_parts, cond_both}
use Rattle.json_replies.specs.Texts.{has_failed_texts, has_refusal_texts}
use Rattle.media_rows.specs.declared.flow.FlowBody.{FlowBody}
use Rattle.media_rows.specs.declared.flow.FlowRow.{FlowRow}
use Rattle.media_rows.specs.declared.flow.Member.{Member}
use Rattle.media_rows.specs.declared.part.Part.{Part}
use Rattle.media_rows.specs.declared.part.Part.TheVariants as parts
use Rattle.media_rows.specs.declared.refusal.Refusal.{Refusal}
use Rattle.media_rows.specs.declared.refusal.Refusal.TheVariants as refusals
use Rattle.media_rows.specs.declared.reply.FailedSegment.{FailedSegment}
use Rattle.media_rows.specs.declared.reply.SortedPosts.{SortedPosts}
use Rattle.media_rows.specs.declared.segment.Segment.{Segment}
use Rattle.media_rows.specs.declared.segment.SegmentRow.{SegmentRow}
use Rattle.media_rows.specs.declared.source.SourceRow.{SourceRow}
use Rattle.media_rows.specs.Answer.{deleting_refusal, change_refusal, first_taken, list_refusal, refusal_by, taken_refusal}
use Rattle.media_rows.specs.Posts.{failed_of, overlap_refusal, post_refusal, sorted, sorted_by}
use Rattle.media_rows.specs.Catalog.{Catalog, flow_of, source_of, missing_refusal, collection_refusals, put_refusals, put_refusal, flow_part_unset, part_refusals, set_refusals, set_refusal, source_part_unset, source_refusals, set_source_refusal, flow_refusals}
use Rattle.media_rows.specs.Collections.{first_missing, collects_itself}
use Rattle.media_rows.specs.Good.{if_there}
use Rattle.media_rows.specs.Ids.{is_object_id}
use Rattle.media_rows.specs.Library.{Library}
use Rattle.media_rows.specs.Lists.{has_text, or_else}
use Rattle.media_rows.specs.Refusals.{when, first_refusal}

-- a refusal has its texts, where it stands
pub record Told (refusal : Option Refusal) : Type 0 where
  pub is : if_there has_refusal_texts refusal ≡ true

pub none : Told None
none = record { is = refl }

pub some : (refusal : Refusal) → has_refusal_texts refusal ≡ true → Told (Some refusal)
some refusal e = record { is = e }

pub tested : (test : Bool) (refusal : Refusal) → has_refusal_texts refusal ≡ true → Told (when test refusal)
tested true refusal e = some refusal e
tested false refusal e = none

pub either : (a b : Option Refusal) → Told a → Told b → Told (or_else a b)
either None b h k = k
either (Some why) b h k = h

-- ---- flows

deleting : (library : Library) (flow : ℕ) → Told (deleting_refusal library flow)
deleting library flow = tested _ refusals.Deleting refl

missing : (id : Option ℕ) → Told (missing_refusal id)
missing None = none
missing (Some id) = some (refusals.CollectedMissing id) refl

collected : (flows : List FlowRow) (id : ℕ) (members : List Member) → Told (first_refusal (collection_refusals flows id members))
collected flows id members =
    either _ _ (missing (first_missing flows id members)) (either _ _ (tested (collects_itself flows id members) refusals.CollectsItself refl) none)

put_by : (old : Option FlowRow) (catalog : Catalog) (body : FlowBody) → Told (first_refusal (put_refusals old catalog body))
put_by None catalog body = either _ _ (tested _ refusals.SourceFormat refl) (collected catalog.flows body.id body.members)
put_by (Some old) catalog body =
    either _ _ (tested _ refusals.ReadOnly refl) (either _ _ (tested _ refusals.FlowChanged refl) (collected catalog.flows body.id body.members))

pub of_put : (library : Library) (body : FlowBody) → Told (or_else (deleting_refusal library body.id) (put_refusal library.catalog body))
of_put library body = either _ _ (deleting library body.id) (put_by (flow_of body.id library.catalog.flows) library.catalog body)

unset : (body : FlowBody) (part : Part) → Told (flow_part_unset body part)
unfolding is_utf8 chars encode
unset body (parts.Tag name new) = tested _ (refusals.NotSet (codes "tags")) refl
unset body (parts.Label new) = tested _ (refusals.NotSet (codes "label")) refl
unset body (parts.Description new) = tested _ (refusals.NotSet (codes "description")) refl
unset body (parts.ReadOnly new) = none
unset body (parts.Collection new) = tested _ (refusals.NotSet (codes "flow_collection")) refl
unset body (parts.MaxBitRate new) = tested _ (refusals.NotSet (codes "max_bit_rate")) refl
unset body (parts.AvgBitRate new) = tested _ (refusals.NotSet (codes "avg_bit_rate")) refl

of_part : (flows : List FlowRow) (id : ℕ) (part : Part) → Told (first_refusal (part_refusals flows id part))
of_part flows id (parts.Collection new) = collected flows id new
of_part flows id other = none

set_by : (old : Option FlowRow) (flows : List FlowRow) (id : ℕ) (part : Part) → Told (first_refusal (set_refusals old flows id part))
set_by None flows id part = some refusals.NoFlow refl
set_by (Some old) flows id part = either _ _ (tested _ refusals.ReadOnly refl) (either _ _ (unset old.body part) (of_part flows id part))

pub of_set : (library : Library) (flow : ℕ) (part : Part) → Told (or_else (deleting_refusal library flow) (set_refusal library.catalog flow part))
of_set library flow part = either _ _ (deleting library flow) (set_by (flow_of flow library.catalog.flows) library.catalog.flows flow part)

source_unset : (row : SourceRow) (part : Part) → Told (source_part_unset row part)
unfolding is_utf8 chars encode
source_unset row (parts.Tag name new) = tested _ (refusals.NotSet (codes "tags")) refl
source_unset row (parts.Label new) = tested _ (refusals.NotSet (codes "label")) refl
source_unset row (parts.Description new) = tested _ (refusals.NotSet (codes "description")) refl
source_unset row (parts.ReadOnly new) = some (refusals.NotSet (codes "read_only")) refl
source_unset row (parts.Collection new) = some (refusals.NotSet (codes "flow_collection")) refl
source_unset row (parts.MaxBitRate new) = some (refusals.NotSet (codes "max_bit_rate")) refl
source_unset row (parts.AvgBitRate new) = some (refusals.NotSet (codes "avg_bit_rate")) refl

source_by : (old : Option SourceRow) (part : Part) → Told (first_refusal (source_refusals old part))
source_by None part = some refusals.NoSource refl
source_by (Some old) part = either _ _ (source_unset old part) none

pub of_source : (catalog : Catalog) (source : ℕ) (part : Part) → Told (set_source_refusal catalog source part)
of_source catalog source part = source_by (source_of source catalog.sources) part

flow_by : (row : Option FlowRow) → Told (first_refusal (flow_refusals row))
flow_by None = some refusals.NoFlow refl
flow_by (Some row) = either _ _ (tested _ refusals.ReadOnly refl) none

pub of_change : (library : Library) (flow : ℕ) → Told (change_refusal library flow)
of_change library flow = either _ _ (deleting library flow) (flow_by (flow_of flow library.catalog.flows))

-- ---- objects and segments

pub of_taken : (taken : List ℕ → Bool) (earlier ids : List (List ℕ)) → list_all is_object_id ids ≡ true → Told (taken_refusal (first_taken taken earlier ids))
of_taken taken earlier [] e = none
of_taken taken earlier (id ∷ later) e =
    let both = and_parts (is_object_id id) (list_all is_object_id later) e in
    cond_both (taken id || has_text id earlier) (Some id) (first_taken taken (id ∷ earlier) later) (λ o. Told (taken_refusal o))
    (λ _. some (refusals.IdTaken id) both.0) (λ _. of_taken taken (id ∷ earlier) later both.1)

overlap : (row : Option SegmentRow) → Told (overlap_refusal row)
overlap None = none
overlap (Some row) = some (refusals.Overlap row.segment.range) refl

-- a segment behind a front of its post
of_post : (library : Library) (flow : ℕ) (front : List Segment) (post : Segment) → is_object_id post.object ≡ true → Told (post_refusal library flow front post)
of_post library flow front post e = either _ _ (tested _ (refusals.NoObject post.object) e) (overlap _)

failed_step : (refusal : Option Refusal) (post : Segment) (behind without : SortedPosts) → Told refusal → is_object_id post.object ≡ true
    → list_all has_failed_texts behind.failed ≡ true → list_all has_failed_texts without.failed ≡ true
    → list_all has_failed_texts (sorted_by refusal post behind without).failed ≡ true
failed_step None post behind without told form rest other = rest
failed_step (Some why) post behind without told form rest other =
    and_from (has_failed_texts (failed_of why post)) (list_all has_failed_texts without.failed)
    (and_from (has_refusal_texts why) (is_object_id post.object) told.is form) other

-- those of a list that fail have their texts
pub failed_of_list : (library : Library) (flow : ℕ) (front posts : List Segment) → list_all (λ post. is_object_id post.object) posts ≡ true
    → list_all has_failed_texts (sorted library flow front posts).failed ≡ true
failed_of_list library flow front [] e = refl
failed_of_list library flow front (post ∷ later) e =
    let both = and_parts (is_object_id post.object) _ e in
    failed_step (post_refusal library flow front post) post (sorted library flow (front ++ post ∷ []) later) (sorted library flow front later)
    (of_post library flow front post both.0) both.0 (failed_of_list library flow (front ++ post ∷ []) later both.1) (failed_of_list library flow front later both.1)

list_by : (kept : List Segment) (failed : List FailedSegment) → list_all has_failed_texts failed ≡ true → Told (refusal_by kept failed)
list_by kept [] e = none
list_by [] (first ∷ later) e =
    some first.refusal (and_parts (has_refusal_texts first.refusal) (is_object_id first.object) (and_parts (has_failed_texts first) _ e).0).0
list_by (post ∷ kept) (first ∷ later) e = none

-- so has the refusal of the list
pub of_list : (library : Library) (flow : ℕ) (posts : List Segment) → list_all (λ post. is_object_id post.object) posts ≡ true
    → Told (list_refusal (sorted library flow [] posts))
of_list library flow posts e = list_by (sorted library flow [] posts).kept (sorted library flow [] posts).failed (failed_of_list library flow [] posts e)
