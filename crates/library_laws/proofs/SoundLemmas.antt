-- A change that applies was allowed, and brings good values at a moment.
use Rattle.std.proofs.Common.{◌≡◌, inl, ℕ, ◌+◌, Bool, true, false, cond, List, [], ◌∷◌, ◌++◌, map, filter, Option, Some, None, refl, sym, ap, ◌∙◌}
use Rattle.std.specs.Prelude.{◌==◌, ◌&&◌, ◌||◌, not, nat_lt, nat_le, bytes_eq, is_none}
use Rattle.std.specs.List.{list_all}
use Rattle.std.proofs.lemmas.Bool.{and_parts, and_from, ltb-false, le-ltb, false≢true, not-true}
use Rattle.media_rows.specs.declared.change.Change.{Change}
use Rattle.media_rows.specs.declared.change.Change.TheVariants as changes
use Rattle.media_rows.specs.declared.command.Command.TheVariants as commands
use Rattle.media_rows.specs.declared.hook.HookRow.{HookRow}
use Rattle.media_rows.specs.declared.flow.FlowBody.{FlowBody}
use Rattle.media_rows.specs.declared.flow.FlowRow.{FlowRow}
use Rattle.media_rows.specs.declared.flow.Tag.{Tag}
use Rattle.media_rows.specs.declared.object.ObjectRow.{ObjectRow}
use Rattle.media_rows.specs.declared.object.ObjectState.TheVariants.{Stored}
use Rattle.media_rows.specs.declared.part.Part.{Part}
use Rattle.media_rows.specs.declared.part.Part.TheVariants as parts
use Rattle.media_rows.specs.declared.request.DeleteRow.{DeleteRow}
use Rattle.media_rows.specs.declared.segment.Segment.{Segment}
use Rattle.media_rows.specs.declared.source.SourceRow.{SourceRow}
use Rattle.media_rows.specs.Answer.{keep_refusal, deleting_refusal, refusal_of}
use Rattle.media_rows.specs.Apply.{is_allowed, applies, passes_serials}
use Rattle.media_rows.specs.Catalog.{flow_of, source_of, flow_before, tag_before, put_row, set_row, set_source_row, body_with, with_flow, with_source, tags_with, set_refusal, set_refusals, set_source_refusal, source_refusals, source_part_unset}
use Rattle.media_rows.specs.Changes.{after, moment_of}
use Rattle.media_rows.specs.Good.{Good, is_good, is_body_text, is_flow_text, is_source_text, is_object_text, is_hook_text, is_tag_text, if_there, is_segment_good, are_compatible, is_request_good, is_after_segments, is_extent_good, are_states_apart}
use Rattle.media_rows.specs.Collections.{is_kept}
use Rattle.media_rows.specs.Ids.{is_object_id}
use Rattle.media_rows.specs.Library.{Library, last_serial}
use Rattle.media_rows.specs.Lists.{placed, rises}
use Rattle.media_rows.specs.Moments.{is_moment}
use Rattle.media_rows.specs.Objects.{object_of, is_free, blocks_of, allocated_rows, stored_row}
use Rattle.media_rows.specs.Outbox.{hook_row, has_url}
use Rattle.media_rows.specs.Ranges.{has_both_ends, is_eternity}
use Rattle.media_rows.specs.Refusals.{first_refusal}
use Rattle.media_rows.specs.Requests.{asked_row, done_count, done_kept}
use Rattle.media_rows.specs.Segments.{posted}
use Rattle.media_rows.specs.Sound.{is_part_good, has_good_values, is_sound}
use Rattle.library_laws.specs.ChangeLaws.{AppliedIsSound, AppliesIsTested}
use Rattle.library_laws.specs.Laws.{IsSound}
use Rattle.library_laws.proofs.Neither.{neither}
use Rattle.library_laws.proofs.CatalogKept.{BodyTexts, BodyTexts-from, RowTexts-from, put_body}
use Rattle.library_laws.proofs.ChangesKept.{none_from, good_is_tested, changes_keep_good}
use Rattle.library_laws.proofs.KeptLemmas.{chosen, list_all-parts}
use Rattle.library_laws.proofs.ListLemmas.{In, In-back, map-In, find-In, list_all-In}
use Rattle.library_laws.proofs.OutboxKept.{Names-from, Texts-from}

-- ---- rows that a change puts among others

placed-has : {X : Type 0} (less : X → X → Bool) (x : X) (xs : List X) → In x (placed less x xs)
placed-has less x xs = In-back (filter (λ y. less y x) xs) (x ∷ filter (λ y. less x y) xs) x (inl refl)

-- ---- a part

tag_in : (name : List ℕ) (new : Option Tag) (tags : List Tag) → list_all is_tag_text (tags_with name new tags) ≡ true → if_there is_tag_text new ≡ true
tag_in name None tags e = refl
tag_in name (Some new) tags e = list_all-In is_tag_text (placed tag_before new tags) e new (placed-has tag_before new tags)

part_in : (part : Part) (body : FlowBody) → BodyTexts (body_with part body) → is_part_good part ≡ true
part_in (parts.Tag name new) body t = tag_in name new body.tags t.tags
part_in (parts.Label new) body t = t.label
part_in (parts.Description new) body t = t.description
part_in (parts.ReadOnly new) body t = refl
part_in (parts.Collection new) body t = t.members
part_in (parts.MaxBitRate new) body t = refl
part_in (parts.AvgBitRate new) body t = refl

set_in : (flows : List FlowRow) (flow : ℕ) (part : Part) (moment : ℕ) (o : Option FlowRow) → flow_of flow flows ≡ o
    → first_refusal (set_refusals o flows flow part) ≡ None
    → list_all is_flow_text (with_flow flow (set_row part moment) flows) ≡ true → is_part_good part ≡ true
set_in flows flow part moment None is none e = absurd (cc)
set_in flows flow part moment (Some old) is none e =
    let at = find-In (λ row. row.body.id == flow) flows old is in
    let row = list_all-In is_flow_text (with_flow flow (set_row part moment) flows) e _
    (map-In (λ row. cond (row.body.id == flow) (set_row part moment row) row) flows old at.0) in
    let good : is_flow_text (set_row part moment old) ≡ true = ap is_flow_text (sym (chosen (old.body.id == flow) (set_row part moment old) old at.1)) ∙ row in
    part_in part old.body (BodyTexts-from (body_with part old.body) (RowTexts-from (set_row part moment old) good).body)

source_part_in : (part : Part) (row : SourceRow) (moment : ℕ) → source_part_unset row part ≡ None → is_source_text (set_source_row part moment row) ≡ true
    → is_part_good part ≡ true
source_part_in (parts.Tag name new) row moment none e =
    tag_in name new row.tags (and_parts _ _ (and_parts _ _ (and_parts _ _ e).0).0).1
source_part_in (parts.Label new) row moment none e = (and_parts _ _ (and_parts _ _ (and_parts _ _ (and_parts _ _ e).0).0).0).0
source_part_in (parts.Description new) row moment none e = (and_parts _ _ (and_parts _ _ (and_parts _ _ (and_parts _ _ e).0).0).0).1
source_part_in (parts.ReadOnly new) row moment none e = refl
source_part_in (parts.Collection new) row moment none e = absurd (cc)
source_part_in (parts.MaxBitRate new) row moment none e = refl
source_part_in (parts.AvgBitRate new) row moment none e = refl

set_source_in : (sources : List SourceRow) (source : ℕ) (part : Part) (moment : ℕ) (o : Option SourceRow) → source_of source sources ≡ o
    → first_refusal (source_refusals o part) ≡ None
    → list_all is_source_text (with_source source (set_source_row part moment) sources) ≡ true → is_part_good part ≡ true
set_source_in sources source part moment None is none e = absurd (cc)
set_source_in sources source part moment (Some old) is none e =
    let at = find-In (λ row. row.id == source) sources old is in
    let row = list_all-In is_source_text (with_source source (set_source_row part moment) sources) e _
    (map-In (λ row. cond (row.id == source) (set_source_row part moment row) row) sources old at.0) in
    let good : is_source_text (set_source_row part moment old)
    ≡ true = ap is_source_text (sym (chosen (old.id == source) (set_source_row part moment old) old at.1)) ∙ row in
    source_part_in part old moment (neither (source_part_unset old part) None none).0 good

-- ---- other rows

ids_in : (serial moment : ℕ) (ids : List (List ℕ)) → list_all is_object_text (allocated_rows serial moment ids) ≡ true → list_all is_object_id ids ≡ true
ids_in serial moment [] e = refl
ids_in serial moment (id ∷ later) e =
    let parts = and_parts _ _ e in and_from _ _ (and_parts (is_object_id id) (is_moment moment) parts.0).0 (ids_in (serial + 1) moment later parts.1)

ranges_in : (flows : List FlowRow) (flow serial : ℕ) (posts : List Segment) → list_all (is_segment_good flows) (posted flow serial posts) ≡ true
    → list_all (λ post. has_both_ends post.range) posts ≡ true
ranges_in flows flow serial [] e = refl
ranges_in flows flow serial (post ∷ later) e =
    let parts = and_parts _ _ e in and_from _ _ (and_parts (has_both_ends post.range) (is_kept flows flow) parts.0).0
    (ranges_in flows flow (serial + 1) later parts.1)

whole_in : (delete_flow whole late : Bool) → (not delete_flow || (whole && late)) ≡ true → (not delete_flow || whole) ≡ true
whole_in false whole late e = refl
whole_in true whole late e = (and_parts whole late e).0

-- the row of an object that is stored
stored_in : (o : Option ObjectRow) → is_none (keep_refusal o) ≡ true → (row : ObjectRow) × (o ≡ Some row)
stored_in None e = absurd (false≢true e)
stored_in (Some row) e = (row, refl)

-- ---- the values of each change

values : (library : Library) (change : Change) → is_allowed library change ≡ true → Good (after change library) → has_good_values change ≡ true
values library (changes.PutFlow moment body) allowed good =
    let o : Option FlowRow = flow_of body.id library.catalog.flows in
    let row = list_all-In is_flow_text (placed flow_before (put_row o body moment) library.catalog.flows)
    (Texts-from (after (changes.PutFlow moment body) library) good.texts).flows (put_row o body moment)
    (placed-has flow_before (put_row o body moment) library.catalog.flows) in
    ap is_body_text (sym (put_body o body moment)) ∙ (RowTexts-from (put_row o body moment) row).body
values library (changes.SetFlow moment flow part) allowed good =
    let none = neither (deleting_refusal library flow) (set_refusal library.catalog flow part)
    (none_from (refusal_of library (commands.SetFlow flow part)) allowed) in
    set_in library.catalog.flows flow part moment (flow_of flow library.catalog.flows) refl none.1
    (Texts-from (after (changes.SetFlow moment flow part) library) good.texts).flows
values library (changes.SetSource moment source part) allowed good =
    set_source_in library.catalog.sources source part moment (source_of source library.catalog.sources) refl
    (none_from (set_source_refusal library.catalog source part) allowed)
    (Texts-from (after (changes.SetSource moment source part) library) good.texts).sources
values library (changes.DropFlow moment flow) allowed good = refl
values library (changes.Allocate moment flow ids) allowed good =
    ids_in library.next_serial moment ids (list_all-parts is_object_text library.objects (allocated_rows library.next_serial moment ids)
    (Texts-from (after (changes.Allocate moment flow ids) library) good.texts).objects).1
values library (changes.Store moment object start size digest) allowed good =
    let parts = and_parts (is_none (keep_refusal (object_of object library.objects))) (is_free library.objects library.blocks (blocks_of size) start) allowed in
    let one = stored_in (object_of object library.objects) parts.0 in
    let at = find-In (λ r. bytes_eq r.id object) library.objects one.0 one.1 in
    let change : ObjectRow → ObjectRow = λ r. cond (bytes_eq r.id object) (stored_row start size digest moment r) r in
    let extents = and_parts (rises (λ a b. are_states_apart a.state b.state) (map change library.objects))
    (list_all (λ row. is_extent_good library.blocks row.state) (map change library.objects)) good.extents in
    let row = list_all-In (λ row. is_extent_good library.blocks row.state) (map change library.objects) extents.1 (change one.0)
    (map-In change library.objects one.0 at.0) in
    let fine : is_extent_good library.blocks (Stored start size digest) ≡ true =
    ap (λ (r : ObjectRow). is_extent_good library.blocks r.state) (sym (chosen (bytes_eq one.0.id object) (stored_row start size digest moment one.0) one.0 at.1))
    ∙ row in
    (and_parts (nat_le (start + blocks_of size) library.blocks) (nat_lt 0 size || (start == 0)) fine).1
values library (changes.AddSegments moment flow posts) allowed good =
    let next : Library = after (changes.AddSegments moment flow posts) library in
    let segments = and_parts (rises are_compatible next.segments) (list_all (is_segment_good next.catalog.flows) next.segments) good.segments in
    ranges_in next.catalog.flows flow library.next_serial posts.segments
    (list_all-parts (is_segment_good next.catalog.flows) library.segments (posted flow library.next_serial posts.segments) segments.1).1
values library (changes.CutSegments moment flow range) allowed good = refl
values library (changes.AskDelete moment flow range delete_flow) allowed good =
    let row : DeleteRow = asked_row (record { flow = flow; range = range; delete_flow = delete_flow }) library.next_serial moment in
    let test : DeleteRow → Bool = is_request_good library.catalog.flows library.segments in
    let requests = and_parts (list_all test (library.requests ++ row ∷ [])) (nat_le (done_count (library.requests ++ row ∷ [])) done_kept) good.requests in
    let one = and_parts (test row) true (list_all-parts test library.requests (row ∷ []) requests.0).1 in
    whole_in delete_flow (is_eternity range) (is_after_segments library.segments row)
    (and_parts (is_kept library.catalog.flows flow) (not delete_flow || (is_eternity range && is_after_segments library.segments row)) one.0).1
values library (changes.DeleteStep moment) allowed good = refl
values library (changes.SweepStep moment) allowed good = refl
values library (changes.PutHook moment hook) allowed good =
    let row : HookRow = hook_row hook library.next_serial in
    let hooks = (Texts-from (after (changes.PutHook moment hook) library) good.texts).hooks in
    (and_parts (is_hook_text row) true (list_all-parts is_hook_text (filter (λ r. not (has_url hook.url r)) library.outbox.hooks) (row ∷ []) hooks).1).0
values library (changes.DropHook moment url) allowed good = refl
values library (changes.Delivered moment event) allowed good = refl

-- ---- the laws

applied_by : (b : Bool) (made next : Library) → cond b (Some made) None ≡ Some next → (b ≡ true) × (next ≡ made)
applied_by true made next e = (refl, sym (cc))
applied_by false made next e = absurd (cc)

sound_by : (library : Library) (change : Change) → applies library change ≡ true → (is_allowed library change ≡ true) × IsSound library change
sound_by library change e =
    let parts = and_parts (is_moment (moment_of change) && is_allowed library change) (is_good (after change library)) e in
    let first = and_parts (is_moment (moment_of change)) (is_allowed library change) parts.0 in
    let good = (good_is_tested (after change library)).0 parts.1 in
    (first.1, record { at = first.0; values = values library change first.1 good; serials = (Names-from (after change library) good.names).most })

pub applied_is_sound : AppliedIsSound
applied_is_sound library change next e =
    let by = applied_by (applies library change) (after change library) next e in
    let is = sound_by library change by.0 in
    record { allowed = is.0; sound = is.1; gives = by.1 }

-- two tests that follow from one another are one
pub same_test : (a b : Bool) → (a ≡ true → b ≡ true) → (b ≡ true → a ≡ true) → a ≡ b
same_test true b f g = sym (f refl)
same_test false true f g = absurd (false≢true (g refl))
same_test false false f g = refl

sound_test : (library : Library) (change : Change) → IsSound library change → is_sound library change ≡ true
sound_test library change is =
    and_from _ _ (and_from _ _ is.at is.values) (ap not (le-ltb last_serial (after change library).next_serial is.serials))

sound_from : (library : Library) (change : Change) → is_sound library change ≡ true → IsSound library change
sound_from library change e =
    let parts = and_parts _ _ e in
    let first = and_parts (is_moment (moment_of change)) (has_good_values change) parts.0 in
    record {
      at = first.0;
      values = first.1;
      serials = ltb-false last_serial (after change library).next_serial
          (not-true (passes_serials change library) parts.1);
    }

pub applies_is_tested : AppliesIsTested
applies_is_tested library change good =
    same_test (applies library change) (is_allowed library change && is_sound library change)
    (λ e. let is = sound_by library change e in and_from _ _ is.0 (sound_test library change is.1))
    (λ e. let parts = and_parts (is_allowed library change) (is_sound library change) e in
    let is = sound_from library change parts.1 in
    and_from _ _ (and_from _ _ is.at parts.0) ((good_is_tested (after change library)).1 (changes_keep_good library change good parts.0 is)))
