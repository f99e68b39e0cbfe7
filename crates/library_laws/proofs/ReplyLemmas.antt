-- The delete request or the objects that a reply names are what its change adds.
use Rattle.std.proofs.Common.{◌≡◌, ℕ, Bool, true, false, List, [], ◌∷◌, ◌++◌, map, length, Option, Some, None, refl, sym, ap, ◌∙◌}
use Rattle.std.specs.Prelude.{◌==◌, nat_le, is_some, Result, Ok, Err}
use Rattle.std.proofs.lemmas.Bool.{cond_both, false≢true}
use Rattle.std.proofs.lemmas.List.{map-append}
use Rattle.time_range.specs.declared.ranges.Span.{Span}
use Rattle.media_rows.specs.declared.change.Change.{Change}
use Rattle.media_rows.specs.declared.change.Change.TheVariants as changes
use Rattle.media_rows.specs.declared.command.Command.TheVariants as commands
use Rattle.media_rows.specs.declared.object.ObjectRow.{ObjectRow}
use Rattle.media_rows.specs.declared.request.DeleteRow.{DeleteRow}
use Rattle.media_rows.specs.declared.refusal.Refusal.{Refusal}
use Rattle.media_rows.specs.Ranges.{eternity}
use Rattle.media_rows.specs.declared.reply.FailedSegment.{FailedSegment}
use Rattle.media_rows.specs.declared.reply.Reply.{Reply}
use Rattle.media_rows.specs.declared.reply.Reply.TheVariants as replies
use Rattle.media_rows.specs.declared.reply.View.{View}
use Rattle.media_rows.specs.Answer.{Outcome, changed, unchanged, created_unless, refusal_of, answer_by, accepted_request, accepted_drop, accepted_cut, accepted_drop_hook, list_reply, wanted_ids, shown_reply}
use Rattle.media_rows.specs.Posts.{sorted}
use Rattle.media_rows.specs.Views.{asked}
use Rattle.media_rows.specs.Library.{Library}
use Rattle.media_rows.specs.Objects.{allocated_rows, kept_digest}
use Rattle.media_rows.specs.Outbox.{hook_of}
use Rattle.media_rows.specs.Segments.{covered, segments_of, list_post}
use Rattle.media_rows.specs.Catalog.{flow_of}
use Rattle.library_laws.specs.ChangeLaws.{TellsRows, RepliesTell}
use Rattle.library_laws.proofs.NewObjectsKept.{ids-allocated}

-- a reply that names no row
abbrev pub is_plain : Reply → Bool
is_plain (replies.Accepted row) = false
is_plain (replies.CreatedObjects ids) = false
is_plain other = true

plain : (library : Library) (outcome : Outcome) → is_plain outcome.reply ≡ true → TellsRows library outcome
plain library outcome e = record {
  request = λ row is. absurd (false≢true (sym (ap is_plain is) ∙ e));
  objects = λ ids is. absurd (false≢true (sym (ap is_plain is) ∙ e));
}

-- the rows that two equal replies name are equal
row_of : {a b : DeleteRow} → replies.Accepted a ≡ replies.Accepted b → a ≡ b
row_of e = cc

ids_of : {a b : List (List ℕ)} → replies.CreatedObjects a ≡ replies.CreatedObjects b → a ≡ b
ids_of e = cc

-- a delete request is made, and is the reply
asked_for : (library : Library) (flow : ℕ) (range : Option Span) (delete_flow : Bool) (moment : ℕ)
    → TellsRows library (accepted_request library (record { flow = flow; range = range; delete_flow = delete_flow }) moment)
asked_for library flow range delete_flow moment = record {
  request = λ row is. record {
    change = changes.AskDelete moment flow range delete_flow;
    has = refl;
    adds = ap (λ r. library.requests ++ r ∷ []) (row_of is);
  };
  objects = λ ids is. absurd (cc);
}

-- objects are made, and their ids are the reply
made : (library : Library) (moment flow : ℕ) (wanted : List (List ℕ))
    → TellsRows library (changed (replies.CreatedObjects wanted) (changes.Allocate moment flow wanted))
made library moment flow wanted = record {
  request = λ row is. absurd (cc);
  objects = λ ids is. record {
    change = changes.Allocate moment flow wanted;
    has = refl;
    adds = map-append (λ (row : ObjectRow). row.id) library.objects (allocated_rows library.next_serial moment wanted)
        ∙ ap (λ l. map (λ row. row.id) library.objects ++ l) (ids-allocated library.next_serial moment wanted ∙ ids_of is);
  };
}

created_plain : (library : Library) (there : Bool) (change : Change) → TellsRows library (changed (created_unless there) change)
created_plain library true change = plain library (changed replies.Done change) refl
created_plain library false change = plain library (changed replies.Created change) refl

list_plain : (library : Library) (failed : List FailedSegment) (change : Change) → TellsRows library (changed (list_reply failed) change)
list_plain library [] change = plain library (changed replies.Created change) refl
list_plain library (first ∷ later) change = plain library (changed (replies.Partly (first ∷ later)) change) refl

shown_plain : (library : Library) (shown : Result View Refusal) → TellsRows library (unchanged (shown_reply shown))
shown_plain library (Ok view) = plain library (unchanged (replies.Shown view)) refl
shown_plain library (Err refusal) = plain library (unchanged (replies.Refused refusal)) refl

by_refusal : (library : Library) (refusal : Option Refusal) (outcome : Outcome) → TellsRows library outcome
    → TellsRows library (answer_by refusal outcome)
by_refusal library None outcome h = h
by_refusal library (Some why) outcome h = plain library (unchanged (replies.Refused why)) refl

drop_tells : (library : Library) (flow moment : ℕ) → TellsRows library (accepted_drop library flow moment)
drop_tells library flow moment =
    cond_both (nat_le (length (segments_of flow library.segments)) 32) _ _ (TellsRows library)
    (λ few. plain library (changed replies.Done (changes.DropFlow moment flow)) refl)
    (λ many. asked_for library flow eternity true moment)

cut_tells : (library : Library) (flow : ℕ) (range : Option Span) (moment : ℕ) → TellsRows library (accepted_cut library flow range moment)
cut_tells library flow range moment =
    cond_both (length (covered library.segments flow range) == 0) _ _ (TellsRows library) (λ none. plain library (unchanged replies.Done) refl)
    (λ some. cond_both (nat_le (length (covered library.segments flow range)) 32) _ _ (TellsRows library)
    (λ few. plain library (changed replies.Done (changes.CutSegments moment flow range)) refl) (λ many. asked_for library flow range false moment))

drop_hook_tells : (library : Library) (url : List ℕ) (moment : ℕ) → TellsRows library (accepted_drop_hook library url moment)
drop_hook_tells library url moment =
    cond_both (is_some (hook_of url library.outbox.hooks)) _ _ (TellsRows library)
    (λ there. plain library (changed replies.Done (changes.DropHook moment url)) refl)
    (λ gone. plain library (unchanged replies.Done) refl)

pub replies_tell : RepliesTell
replies_tell library (commands.PutFlow body) moment =
    by_refusal library (refusal_of library (commands.PutFlow body)) _
    (created_plain library (is_some (flow_of body.id library.catalog.flows)) (changes.PutFlow moment body))
replies_tell library (commands.SetFlow flow part) moment = by_refusal library (refusal_of library (commands.SetFlow flow part)) _
    (plain library (changed replies.Done (changes.SetFlow moment flow part)) refl)
replies_tell library (commands.SetSource source part) moment =
    by_refusal library (refusal_of library (commands.SetSource source part)) _
    (plain library (changed replies.Done (changes.SetSource moment source part)) refl)
replies_tell library (commands.DropFlow flow) moment = by_refusal library (refusal_of library (commands.DropFlow flow)) _ (drop_tells library flow moment)
replies_tell library (commands.Allocate flow want) moment = by_refusal library (refusal_of library (commands.Allocate flow want)) _
    (made library moment flow (wanted_ids library want))
replies_tell library (commands.Keep object start size digest) moment =
    by_refusal library (refusal_of library (commands.Keep object start size digest)) _
    (plain library (changed replies.Created (changes.Store moment object start size (kept_digest digest))) refl)
replies_tell library (commands.AddSegments flow posts) moment =
    by_refusal library (refusal_of library (commands.AddSegments flow posts)) _
    (list_plain library (sorted library flow [] posts.segments).failed
    (changes.AddSegments moment flow (list_post (sorted library flow [] posts.segments).kept)))
replies_tell library (commands.CutSegments flow range) moment = by_refusal library (refusal_of library (commands.CutSegments flow range)) _
    (cut_tells library flow range moment)
replies_tell library (commands.PutHook hook) moment = created_plain library (is_some (hook_of hook.url library.outbox.hooks)) (changes.PutHook moment hook)
replies_tell library (commands.DropHook url) moment = drop_hook_tells library url moment
replies_tell library (commands.Ask query) moment =
    by_refusal library (refusal_of library (commands.Ask query)) (unchanged (shown_reply (asked library query))) (shown_plain library (asked library query))
