-- What is answered to a command, to the bytes of an object and to a question of them has its texts.
use Rattle.std.proofs.Common.{◌≡◌, ℕ, Bool, true, false, List, [], ◌∷◌, map, length, Option, Some, None, Result, Ok, Err, refl}
use Rattle.std.specs.Prelude.{◌==◌, ◌&&◌, nat_le, is_some}
use Rattle.std.specs.List.{list_all}
use Rattle.std.proofs.lemmas.Bool.{and_from, and_parts, cond_both}
use Rattle.time_range.specs.declared.ranges.Span.{Span}
use Rattle.json_bodies.specs.Segments.{is_post_good}
use Rattle.json_replies.specs.Texts.{has_failed_texts, has_reply_texts}
use Rattle.media_rows.specs.declared.command.Command.TheVariants as commands
use Rattle.media_rows.specs.declared.command.FlowFilter.{FlowFilter}
use Rattle.media_rows.specs.declared.command.Page.{Page}
use Rattle.media_rows.specs.declared.command.Query.{Query}
use Rattle.media_rows.specs.declared.command.Query.TheVariants as queries
use Rattle.media_rows.specs.declared.command.SourceFilter.{SourceFilter}
use Rattle.media_rows.specs.declared.flow.FlowRow.{FlowRow}
use Rattle.media_rows.specs.declared.object.ObjectRow.{ObjectRow}
use Rattle.media_rows.specs.declared.object.ObjectState.{ObjectState}
use Rattle.media_rows.specs.declared.object.ObjectState.TheVariants.{Allocated, Stored}
use Rattle.media_rows.specs.declared.refusal.Refusal.{Refusal}
use Rattle.media_rows.specs.declared.refusal.Refusal.TheVariants as refusals
use Rattle.media_rows.specs.declared.reply.FailedSegment.{FailedSegment}
use Rattle.media_rows.specs.declared.reply.View.{View}
use Rattle.media_rows.specs.declared.reply.View.TheVariants as views
use Rattle.media_rows.specs.declared.request.Deletion.{Deletion}
use Rattle.media_rows.specs.declared.segment.Segment.{Segment}
use Rattle.media_rows.specs.Answer.{Outcome, created_unless, list_reply, answer_by, unchanged, shown_refusal, shown_reply, accepted_request, accepted_drop, accepted_cut, accepted_drop_hook, wanted_ids, is_taken, first_taken, taken_refusal, change_refusal, keep_refusal, keep_state}
use Rattle.media_rows.specs.Catalog.{flow_of, source_of}
use Rattle.media_rows.specs.Good.{Good, is_body_text, is_flow_text, is_source_text, is_object_text, is_request_text, is_hook_text}
use Rattle.media_rows.specs.Ids.{is_object_id}
use Rattle.media_rows.specs.Library.{Library}
use Rattle.media_rows.specs.Lists.{or_else, page_items}
use Rattle.media_rows.specs.Moments.{is_moment}
use Rattle.media_rows.specs.Objects.{object_of}
use Rattle.media_rows.specs.Outbox.{hook_of}
use Rattle.media_rows.specs.Posts.{sorted}
use Rattle.media_rows.specs.Ranges.{eternity}
use Rattle.media_rows.specs.Requests.{request_of}
use Rattle.media_rows.specs.Segments.{segments_of, covered, overlapping}
use Rattle.media_rows.specs.Views.{asked, flow_key, source_key, listed_flows, listed_sources, passes_flow, passes_range, passes_source, shown_flow, shown_hook, shown_flows, shown_sources, shown_segments, flow_part, source_part, shown_object}
use Rattle.library_laws.proofs.ChangeFacts.{serials_end}
use Rattle.library_laws.proofs.KeptLemmas.{list_all-mapped}
use Rattle.library_laws.proofs.ListLemmas.{list_all-In, list_all-from_In, list_all-filter}
use Rattle.library_laws.proofs.OutboxKept.{Texts, Texts-from}
use Rattle.reply_laws.specs.Replies.{AnswersHaveTexts}
use Rattle.reply_laws.proofs.Lists.{list_all-page}
use Rattle.reply_laws.proofs.MadeIds.{wanted_are_ids}
use Rattle.reply_laws.proofs.Refused as refused
use Rattle.reply_laws.proofs.Refused.{Told}
use Rattle.reply_laws.proofs.Shown as shown
use Rattle.reply_laws.proofs.Shown.{Fine}

-- a refusal is answered with its texts, and what isn't refused with those of its reply
by_refusal : (refusal : Option Refusal) (outcome : Outcome) → Told refusal → has_reply_texts outcome.reply ≡ true
    → has_reply_texts (answer_by refusal outcome).reply ≡ true
by_refusal None outcome h e = e
by_refusal (Some why) outcome h e = h.is

created : (there : Bool) → has_reply_texts (created_unless there) ≡ true
created true = refl
created false = refl

-- ---- what goes

requested : (library : Library) (asked : Deletion) (moment : ℕ) → is_moment moment ≡ true
    → has_reply_texts (accepted_request library asked moment).reply ≡ true
requested library asked moment at = and_from (is_moment moment) (is_moment moment) at at

dropped : (library : Library) (flow moment : ℕ) → is_moment moment ≡ true → has_reply_texts (accepted_drop library flow moment).reply ≡ true
dropped library flow moment at =
    cond_both (nat_le (length (segments_of flow library.segments)) 32) _ _ (λ (o : Outcome). has_reply_texts o.reply ≡ true) (λ e. refl)
    (λ e. requested library (record { flow = flow; range = eternity; delete_flow = true }) moment at)

cut : (library : Library) (flow : ℕ) (range : Option Span) (moment : ℕ) → is_moment moment ≡ true
    → has_reply_texts (accepted_cut library flow range moment).reply ≡ true
cut library flow range moment at =
    cond_both (length (covered library.segments flow range) == 0) _ _ (λ (o : Outcome). has_reply_texts o.reply ≡ true) (λ e. refl)
    (λ e. cond_both (nat_le (length (covered library.segments flow range)) 32) _ _ (λ (o : Outcome). has_reply_texts o.reply ≡ true) (λ e. refl)
    (λ e. requested library (record { flow = flow; range = range; delete_flow = false }) moment at))

unhooked : (library : Library) (url : List ℕ) (moment : ℕ) → has_reply_texts (accepted_drop_hook library url moment).reply ≡ true
unhooked library url moment =
    cond_both (is_some (hook_of url library.outbox.hooks)) _ _ (λ (o : Outcome). has_reply_texts o.reply ≡ true) (λ e. refl) (λ e. refl)

-- ---- objects and segments that come

allocated : (library : Library) (flow : ℕ) (ids : List (List ℕ)) (taken : List ℕ → Bool) (outcome : Outcome) → list_all is_object_id ids ≡ true
    → has_reply_texts outcome.reply ≡ true
    → has_reply_texts (answer_by (or_else (change_refusal library flow) (taken_refusal (first_taken taken [] ids))) outcome).reply ≡ true
allocated library flow ids taken outcome forms e =
    by_refusal _ outcome (refused.either _ _ (refused.of_change library flow) (refused.of_taken taken [] ids forms)) e

keep_state_by : (state : ObjectState) → Told (keep_state state)
keep_state_by Allocated = refused.none
keep_state_by (Stored start size digest) = refused.some refusals.OtherBytes refl

keep_by : (row : Option ObjectRow) → Told (keep_refusal row)
keep_by None = refused.some refusals.UnknownObject refl
keep_by (Some row) = keep_state_by row.state

posted_ids : (posts : List Segment) → list_all is_post_good posts ≡ true → list_all (λ post. is_object_id post.object) posts ≡ true
posted_ids posts e = list_all-from_In (λ post. is_object_id post.object) posts
    (λ post here. (and_parts (is_object_id post.object) _ (list_all-In is_post_good posts e post here)).0)

listed : (failed : List FailedSegment) → list_all has_failed_texts failed ≡ true → has_reply_texts (list_reply failed) ≡ true
listed [] e = refl
listed (first ∷ later) e = e

-- ---- what is shown

body_of : (row : FlowRow) → is_flow_text row ≡ true → is_body_text row.body ≡ true
body_of row e = (and_parts (is_body_text row.body) _ (and_parts _ _ (and_parts _ _ e).0).0).0

flows_shown : (library : Library) (filter : FlowFilter) (range : Option (Option Span)) (page : Page) → Texts library
    → Fine (Ok (shown_flows library page (listed_flows library filter range)))
flows_shown library wanted range page texts =
    let rows = list_all-page is_flow_text flow_key page (listed_flows library wanted range)
    (list_all-filter is_flow_text (λ row. passes_flow wanted row && passes_range library.segments range row) library.catalog.flows texts.flows) in
    record {
      is = list_all-mapped (λ flow. is_flow_text flow.row) (shown_flow library.segments) (page_items flow_key page (listed_flows library wanted range))
          (λ row here. list_all-In is_flow_text _ rows row here);
    }

sources_shown : (library : Library) (wanted : SourceFilter) (page : Page) → Texts library
    → Fine (Ok (shown_sources page (listed_sources library wanted)))
sources_shown library wanted page texts = record {
  is = list_all-page is_source_text source_key page (listed_sources library wanted)
      (list_all-filter is_source_text (passes_source wanted) library.catalog.sources texts.sources);
}

hooks_shown : (library : Library) → Texts library → Fine (Ok (views.Hooks (map (shown_hook library) library.outbox.hooks)))
hooks_shown library texts = record {
  is = list_all-mapped (λ hook. is_hook_text hook.row) (shown_hook library) library.outbox.hooks
      (λ row here. list_all-In is_hook_text library.outbox.hooks texts.hooks row here);
}

asked_is_fine : (library : Library) (query : Query) → Good library → Fine (asked library query)
asked_is_fine library queries.Root good = record { is = refl }
asked_is_fine library queries.Service good = record { is = refl }
asked_is_fine library queries.Hooks good = hooks_shown library (Texts-from library good.texts)
asked_is_fine library (queries.Sources wanted page) good = sources_shown library wanted page (Texts-from library good.texts)
asked_is_fine library (queries.Source id) good =
    shown.kept refusals.NoSource (λ row. Ok (views.Source row)) (source_of id library.catalog.sources) refl
    (λ row at. record { is = shown.found is_source_text _ library.catalog.sources row (Texts-from library good.texts).sources at })
asked_is_fine library (queries.SourcePart id name) good =
    shown.kept refusals.NoSource (λ row. source_part row name) (source_of id library.catalog.sources) refl
    (λ row at. shown.of_source row name (shown.found is_source_text _ library.catalog.sources row (Texts-from library good.texts).sources at))
asked_is_fine library (queries.Flows wanted range page) good = flows_shown library wanted range page (Texts-from library good.texts)
asked_is_fine library (queries.Flow id) good =
    shown.kept refusals.NoFlow (λ row. Ok (views.Flow (shown_flow library.segments row))) (flow_of id library.catalog.flows) refl
    (λ row at. record { is = shown.found is_flow_text _ library.catalog.flows row (Texts-from library good.texts).flows at })
asked_is_fine library (queries.FlowPart id name) good =
    shown.kept refusals.NoFlow (λ row. flow_part row.body name) (flow_of id library.catalog.flows) refl
    (λ row at. shown.of_flow row.body name (body_of row (shown.found is_flow_text _ library.catalog.flows row (Texts-from library good.texts).flows at)))
asked_is_fine library (queries.Segments id wanted page) good =
    shown.kept refusals.NoFlow (λ row. Ok (shown_segments page (overlapping library.segments id wanted.range wanted.object)))
    (flow_of id library.catalog.flows) refl (λ row at. record {
      is = shown.of_segments library.objects library.segments id wanted.range wanted.object page (Texts-from library good.texts).objects good.references;
    })
asked_is_fine library (queries.Object id) good =
    shown.kept refusals.UnknownObject (λ row. Ok (shown_object library row)) (object_of id library.objects) refl
    (λ row at. record { is = shown.found is_object_text _ library.objects row (Texts-from library good.texts).objects at })
asked_is_fine library queries.Requests good = record { is = (Texts-from library good.texts).requests }
asked_is_fine library (queries.Request serial) good =
    shown.kept refusals.NoRequest (λ row. Ok (views.Request row)) (request_of serial library.requests) refl
    (λ row at. record { is = shown.found is_request_text _ library.requests row (Texts-from library good.texts).requests at })

-- so is the reply
shown_fine : (shown : Result View Refusal) → Fine shown → has_reply_texts (answer_by (shown_refusal shown) (unchanged (shown_reply shown))).reply ≡ true
shown_fine (Ok view) fine = fine.is
shown_fine (Err why) fine = fine.is

-- ---- commands

pub answers_have_texts : AnswersHaveTexts
answers_have_texts library (commands.PutFlow body) moment good at fine few =
    by_refusal _ _ (refused.of_put library body) (created (is_some (flow_of body.id library.catalog.flows)))
answers_have_texts library (commands.SetFlow flow part) moment good at fine few = by_refusal _ _ (refused.of_set library flow part) refl
answers_have_texts library (commands.SetSource source part) moment good at fine few = by_refusal _ _ (refused.of_source library.catalog source part) refl
answers_have_texts library (commands.DropFlow flow) moment good at fine few = by_refusal _ _ (refused.of_change library flow) (dropped library flow moment at)
answers_have_texts library (commands.Allocate flow want) moment good at fine few =
    let forms = wanted_are_ids library want (serials_end library good) fine few in
    allocated library flow (wanted_ids library want) (is_taken library want) _ forms forms
answers_have_texts library (commands.Keep object start size digest) moment good at fine few = by_refusal _ _ (keep_by (object_of object library.objects)) refl
answers_have_texts library (commands.AddSegments flow posts) moment good at fine few =
    let forms = posted_ids posts.segments fine in
    by_refusal _ _ (refused.either _ _ (refused.of_change library flow) (refused.of_list library flow posts.segments forms))
    (listed (sorted library flow [] posts.segments).failed (refused.failed_of_list library flow [] posts.segments forms))
answers_have_texts library (commands.CutSegments flow range) moment good at fine few =
    by_refusal _ _ (refused.of_change library flow) (cut library flow range moment at)
answers_have_texts library (commands.PutHook hook) moment good at fine few = created (is_some (hook_of hook.url library.outbox.hooks))
answers_have_texts library (commands.DropHook url) moment good at fine few = unhooked library url moment
answers_have_texts library (commands.Ask query) moment good at fine few = shown_fine (asked library query) (asked_is_fine library query good)
