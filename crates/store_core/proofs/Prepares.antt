-- What is prepared of a library, from what was made of it.
use Rattle.std.proofs.Common.{◌≡◌, ℕ, Bool, true, false, cond, List, [], ◌∷◌, Option, Some, None, length, refl, sym, subst, ap, ◌∙◌}
use Rattle.std.specs.Prelude.{IfErr, IfSome, Result, Ok, Err, ◌==◌, ◌&&◌, nat_lt, nat_le, is_some, option_map}
use Rattle.std.proofs.lemmas.Bool.{and_parts, cond_both, le-leb, lt-leb, ltb-false, ltb-true}
use Rattle.time_range.specs.declared.ranges.Span.{Span}
use Rattle.media_rows.specs.declared.change.Change.{Change}
use Rattle.media_rows.specs.declared.change.Change.TheVariants as changes
use Rattle.media_rows.specs.declared.command.Command.{Command}
use Rattle.media_rows.specs.declared.command.Command.TheVariants as commands
use Rattle.media_rows.specs.declared.refusal.Refusal.{Refusal}
use Rattle.media_rows.specs.declared.reply.FailedSegment.{FailedSegment}
use Rattle.media_rows.specs.declared.reply.Reply.{Reply}
use Rattle.media_rows.specs.declared.reply.Reply.TheVariants as replies
use Rattle.media_rows.specs.declared.reply.View.{View}
use Rattle.media_rows.specs.Answer.{Outcome, accepted, accepted_cut, accepted_drop, answer, answer_by, changed, created_unless, list_reply, refusal_of, shown_refusal, shown_reply, unchanged}
use Rattle.media_rows.specs.Apply.{applied, applies, is_allowed, passes_serials}
use Rattle.media_rows.specs.Catalog.{flow_of}
use Rattle.media_rows.specs.Changes.{after, moment_of}
use Rattle.media_rows.specs.Good.{Good, is_good}
use Rattle.media_rows.specs.Library.{Library, last_serial}
use Rattle.media_rows.specs.Moments.{is_moment}
use Rattle.media_rows.specs.Outbox.{hook_of}
use Rattle.media_rows.specs.Posts.{sorted}
use Rattle.media_rows.specs.Segments.{covered, segments_of}
use Rattle.media_rows.specs.Sound.{is_good_command}
use Rattle.media_rows.specs.Views.{asked}
use Rattle.library_laws.specs.Laws.{AnswersApply, AppliesWithin, GoodIsTested}
use Rattle.core_parts.specs.Parts.{within_serials}
use Rattle.core_queries.specs.Replies.{replied}
use Rattle.store_core.specs.Prepared.{AppliesTo, Preparation, prepared_by, prepared_of, unless_refused}
use Rattle.store_core.specs.Within.{Making, made_by, prepared_step, step_by}

-- ---- serials

-- there is no next library where its serials end
pub within_past : (next : Library) → nat_lt last_serial next.next_serial ≡ true → within_serials next ≡ None
within_past next past = ap (λ t. cond t (Some next) None) (lt-leb next.next_serial last_serial (ltb-true last_serial next.next_serial past))

-- and otherwise there is
pub within_room : (next : Library) → nat_lt last_serial next.next_serial ≡ false → within_serials next ≡ Some next
within_room next room = ap (λ t. cond t (Some next) None) (le-leb next.next_serial last_serial (ltb-false last_serial next.next_serial room))

-- ---- what is prepared

abbrev prepared_with : Library → Reply → Change → Bool → Preparation
prepared_with library reply change past = record { core = cond past library (after change library); change = Some change; reply = reply; past = past }

abbrev stepped_with : Library → Reply → Change → Option Library → Preparation
stepped_with library reply change next = prepared_step library reply (Some (record { change = change; next = next }))

-- a change is prepared as it was made
pub step_prepared : (library : Library) (reply : Reply) (change : Change)
    → prepared_by library (changed reply change) ≡ prepared_step library reply (Some (step_by library change))
step_prepared library reply change = by (passes_serials change library) refl
  where
    by : (t : Bool) → passes_serials change library ≡ t
        → prepared_by library (changed reply change) ≡ prepared_step library reply (Some (step_by library change))
    by true past = ap (prepared_with library reply change) past ∙ sym (ap (stepped_with library reply change) (within_past (after change library) past))
    by false room = ap (prepared_with library reply change) room ∙ sym (ap (stepped_with library reply change) (within_room (after change library) room))

-- so is an outcome
pub outcome_prepared : (library : Library) (reply : Reply) (change : Option Change)
    → prepared_by library (record { reply = reply; change = change }) ≡ prepared_step library reply (option_map (step_by library) change)
outcome_prepared library reply None = refl
outcome_prepared library reply (Some change) = step_prepared library reply change

-- ---- replies that aren't refusals

abbrev Passes : Outcome → Type 0
Passes outcome = (p : Preparation) → unless_refused outcome.reply p ≡ Ok p

created_passes : (there : Bool) (p : Preparation) → unless_refused (created_unless there) p ≡ Ok p
created_passes true p = refl
created_passes false p = refl

list_passes : (failed : List FailedSegment) (p : Preparation) → unless_refused (list_reply failed) p ≡ Ok p
list_passes [] p = refl
list_passes (first ∷ later) p = refl

drop_passes : (library : Library) (flow moment : ℕ) → Passes (accepted_drop library flow moment)
drop_passes library flow moment =
    cond_both (nat_le (length (segments_of flow library.segments)) 32) _ _ (λ (o : Outcome). (p : Preparation) → unless_refused o.reply p ≡ Ok p)
    (λ e p. refl) (λ e p. refl)

cut_passes : (library : Library) (flow : ℕ) (range : Option Span) (moment : ℕ) → Passes (accepted_cut library flow range moment)
cut_passes library flow range moment =
    cond_both (length (covered library.segments flow range) == 0) _ _ (λ (o : Outcome). (p : Preparation) → unless_refused o.reply p ≡ Ok p) (λ e p. refl)
    (λ some. cond_both (nat_le (length (covered library.segments flow range)) 32) _ _
    (λ (o : Outcome). (p : Preparation) → unless_refused o.reply p ≡ Ok p) (λ e p. refl) (λ e p. refl))

hook_passes : (url : List ℕ) (moment : ℕ) (kept : Bool)
    → Passes (cond kept (changed replies.Done (changes.DropHook moment url)) (unchanged replies.Done))
hook_passes url moment true p = refl
hook_passes url moment false p = refl

-- what a question shows
shown_passes : (shown : Result View Refusal) → shown_refusal shown ≡ None → Passes (unchanged (shown_reply shown))
shown_passes (Ok view) free p = refl
shown_passes (Err why) free p = absurd (cc)

-- what a command makes that isn't refused is no refusal
made_passes : (library : Library) (command : Command) (moment : ℕ) → refusal_of library command ≡ None → Passes (accepted library command moment)
made_passes library (commands.PutFlow body) moment free = created_passes (is_some (flow_of body.id library.catalog.flows))
made_passes library (commands.SetFlow flow part) moment free = λ p. refl
made_passes library (commands.SetSource source part) moment free = λ p. refl
made_passes library (commands.DropFlow flow) moment free = drop_passes library flow moment
made_passes library (commands.Allocate flow want) moment free = λ p. refl
made_passes library (commands.Keep object start size digest) moment free = λ p. refl
made_passes library (commands.AddSegments flow posts) moment free = list_passes (sorted library flow [] posts.segments).failed
made_passes library (commands.CutSegments flow range) moment free = cut_passes library flow range moment
made_passes library (commands.PutHook hook) moment free = created_passes (is_some (hook_of hook.url library.outbox.hooks))
made_passes library (commands.DropHook url) moment free = hook_passes url moment (is_some (hook_of url library.outbox.hooks))
made_passes library (commands.Ask query) moment free = shown_passes (asked library query) free

-- ---- a question

-- what is shown is replied
pub reply_made : (shown : Result View Refusal) (reply : Reply) → replied shown ≡ Ok reply → (shown_refusal shown ≡ None) × (reply ≡ shown_reply shown)
reply_made (Ok view) reply e = (refl, cc)
reply_made (Err why) reply e = absurd (cc)

-- and a refusal is one
pub reply_refused : (shown : Result View Refusal) (why : Refusal) → replied shown ≡ Err why → shown_refusal shown ≡ Some why
reply_refused (Ok view) why e = absurd (cc)
reply_refused (Err other) why e = cc

-- ---- a command

-- a command is answered by its refusal or by what it makes
answered : (library : Library) (command : Command) (moment : ℕ) (refusal : Option Refusal) → refusal_of library command ≡ refusal
    → answer library command moment ≡ answer_by refusal (accepted library command moment)
answered library command moment refusal is = ap (λ why. answer_by why (accepted library command moment)) is

-- what was made is prepared
pub given : (library : Library) (command : Command) (moment : ℕ) → refusal_of library command ≡ None
    → (made : Making) → made ≡ made_by library (accepted library command moment)
    → (p : Preparation) → p ≡ prepared_step library made.reply made.step → prepared_of library (answer library command moment) ≡ Ok p
given library command moment free made made_is p p_is =
    let outcome = accepted library command moment in
    ap (prepared_of library) (answered library command moment None free)
    ∙ made_passes library command moment free (prepared_by library outcome)
    ∙ ap Ok (outcome_prepared library outcome.reply outcome.change ∙ ap (λ (m : Making). prepared_step library m.reply m.step) (sym made_is) ∙ sym p_is)

-- a refusal is answered
pub refused : (library : Library) (command : Command) (moment : ℕ) (why : Refusal) → refusal_of library command ≡ Some why
    → prepared_of library (answer library command moment) ≡ Err why
refused library command moment why is = ap (prepared_of library) (answered library command moment (Some why) is)

-- what was made of a library under one name was made of it under another
pub made_at : (inside library : Library) → inside ≡ library → (command : Command) (moment : ℕ) (made : Making)
    → (refusal_of inside command ≡ None) × (made ≡ made_by inside (accepted inside command moment))
    → (refusal_of library command ≡ None) × (made ≡ made_by library (accepted library command moment))
made_at inside library same command moment made =
    subst (λ (l : Library). (refusal_of l command ≡ None) × (made ≡ made_by l (accepted l command moment))) same

-- ---- good libraries

if_some : (t : Bool) (x y : Library) → cond t (Some x) None ≡ Some y → t ≡ true
if_some true x y e = refl
if_some false x y e = absurd (cc)

-- a change that applies leaves a good library
pub applied_good : GoodIsTested → (library : Library) (change : Change) (next : Library) → applied change library ≡ Some next
    → Good (after change library)
applied_good tested library change next e =
    let applies_is = if_some (applies library change) (after change library) next e in
    (tested (after change library)).0
    (and_parts (is_moment (moment_of change) && is_allowed library change) (is_good (after change library)) applies_is).1

-- so what is made of a change is good, where it is there
pub step_good : GoodIsTested → (library : Library) (change : Option Change) → IfSome change (AppliesWithin library)
    → IfSome (option_map (step_by library) change) (λ step. IfSome step.next Good)
step_good tested library None applies_then = tt
step_good tested library (Some change) applies_then = by (passes_serials change library) refl
  where
    by : (t : Bool) → passes_serials change library ≡ t → IfSome (within_serials (after change library)) Good
    by true past = subst (λ next. IfSome next Good) (sym (within_past (after change library) past)) tt
    by false room = subst (λ next. IfSome next Good) (sym (within_room (after change library) room))
        (applied_good tested library change (after change library) (applies_then room))

-- what a command makes is good
pub made_good : AnswersApply → GoodIsTested → (library : Library) (command : Command) (moment : ℕ) → Good library → refusal_of library command ≡ None → is_good_command library command ≡ true → is_moment moment ≡ true
    → (made : Making) → made ≡ made_by library (accepted library command moment)
    → IfSome made.step (λ step. IfSome step.next Good)
made_good apply tested library command moment good free brings at made made_is =
    let outcome = accepted library command moment in
    let then : IfSome outcome.change (AppliesWithin library) = subst (λ (o : Outcome). IfSome o.change (AppliesWithin library))
    (answered library command moment None free) (apply library command moment good brings at) in
    subst (λ (m : Making). IfSome m.step (λ step. IfSome step.next Good)) (sym made_is) (step_good tested library outcome.change then)

-- ---- what is prepared applies

-- by its change
pub applies_by : (library : Library) (reply : Reply) (change : Option Change) → IfSome change (AppliesWithin library)
    → AppliesTo library (prepared_by library (record { reply = reply; change = change }))
applies_by library reply None applies_then = λ change e past. absurd (cc)
applies_by library reply (Some made) applies_then = λ change e past.
    let same : made ≡ change = cc in
    ap (λ c. applied c library) (sym same) ∙ applies_then past ∙ ap (λ t. Some (cond t library (after made library))) (sym past)

-- nothing but what was given comes of a reply that isn't a refusal
pub passed : (reply : Reply) (q p : Preparation) → unless_refused reply q ≡ Ok p → q ≡ p
passed (replies.Refused why) q p e = absurd (cc)
passed replies.Created q p e = cc
passed replies.Done q p e = cc
passed (replies.CreatedObjects ids) q p e = cc
passed (replies.Accepted row) q p e = cc
passed (replies.Shown view) q p e = cc
passed (replies.Media size) q p e = cc
passed (replies.Partly failed) q p e = cc

-- what is prepared of a command
pub command_applies : AnswersApply → (library : Library) (command : Command) (moment : ℕ) → Good library → is_good_command library command ≡ true
    → is_moment moment ≡ true → (p : Preparation) → prepared_of library (answer library command moment) ≡ Ok p → AppliesTo library p
command_applies apply library command moment good brings at p is =
    let outcome = answer library command moment in
    subst (AppliesTo library) (passed outcome.reply (prepared_by library outcome) p is)
    (applies_by library outcome.reply outcome.change (apply library command moment good brings at))

-- a fact that holds of any result
pub of_any : {T E : Type 0} (result : Result T E) (Fact : Type 0) → Fact → IfErr result (λ x. Fact)
of_any (Ok value) Fact fact = tt
of_any (Err fault) Fact fact = fact
