-- No command but that of a put stores an object, and neither does a turn: their changes need no bytes.
use Rattle.std.proofs.Common.{◌≡◌, ℕ, Bool, true, false, cond, List, [], length, Option, Some, None, refl, ap, ◌∙◌}
use Rattle.std.specs.Prelude.{is_some, nat_le, ◌==◌}
use Rattle.time_range.specs.declared.ranges.Span.{Span}
use Rattle.media_rows.specs.declared.change.Change.{Change}
use Rattle.media_rows.specs.declared.change.Change.TheVariants as changes
use Rattle.media_rows.specs.declared.command.Command.{Command}
use Rattle.media_rows.specs.declared.command.Command.TheVariants as commands
use Rattle.media_rows.specs.declared.refusal.Refusal.{Refusal}
use Rattle.media_rows.specs.declared.refusal.Refusal.TheVariants.{JournalFull}
use Rattle.media_rows.specs.declared.reply.Reply.TheVariants as replies
use Rattle.media_rows.specs.Answer.{Outcome, accepted, accepted_cut, accepted_drop, accepted_drop_hook, accepted_request, answer, answer_by, changed, refusal_of, unchanged}
use Rattle.media_rows.specs.Library.{Library}
use Rattle.media_rows.specs.Media.{fits_bytes}
use Rattle.media_rows.specs.Outbox.{hook_of}
use Rattle.media_rows.specs.Ranges.{eternity}
use Rattle.media_rows.specs.Requests.{step_size}
use Rattle.media_rows.specs.Segments.{covered, segments_of}
use Rattle.change_codec.specs.Fitting.{State, fits}
use Rattle.store_states.specs.Fitting.{fitted, fitted_by}
use Rattle.store_states.specs.Held.{StandsThere}
use Rattle.media_store.specs.Changes.{brings_bytes, stores}

either : (b : Bool) (x y : Outcome) → stores x.change ≡ false → stores y.change ≡ false → stores (cond b x y).change ≡ false
either true x y one other = one
either false x y one other = other

answered : (refusal : Option Refusal) (made : Outcome) → stores made.change ≡ false → stores (answer_by refusal made).change ≡ false
answered None made none = none
answered (Some why) made none = refl

-- ---- commands

none_dropped : (library : Library) (flow moment : ℕ) → stores (accepted_drop library flow moment).change ≡ false
none_dropped library flow moment =
    either (nat_le (length (segments_of flow library.segments)) step_size) (changed replies.Done (changes.DropFlow moment flow))
    (accepted_request library (record { flow = flow; range = eternity; delete_flow = true }) moment) refl refl

none_cut : (library : Library) (flow : ℕ) (range : Option Span) (moment : ℕ) → stores (accepted_cut library flow range moment).change ≡ false
none_cut library flow range moment =
    let few = nat_le (length (covered library.segments flow range)) step_size in
    let cut = changed replies.Done (changes.CutSegments moment flow range) in
    let asked = accepted_request library (record { flow = flow; range = range; delete_flow = false }) moment in
    either (length (covered library.segments flow range) == 0) (unchanged replies.Done) (cond few cut asked) refl (either few cut asked refl refl)

none_unhooked : (library : Library) (url : List ℕ) (moment : ℕ) → stores (accepted_drop_hook library url moment).change ≡ false
none_unhooked library url moment =
    either (is_some (hook_of url library.outbox.hooks)) (changed replies.Done (changes.DropHook moment url)) (unchanged replies.Done) refl refl

pub none_stored : (library : Library) (command : Command) (moment : ℕ) → brings_bytes command ≡ false
    → stores (answer library command moment).change ≡ false
none_stored library (commands.PutFlow body) moment is =
    answered (refusal_of library (commands.PutFlow body)) (accepted library (commands.PutFlow body) moment) refl
none_stored library (commands.SetFlow flow part) moment is =
    answered (refusal_of library (commands.SetFlow flow part)) (accepted library (commands.SetFlow flow part) moment) refl
none_stored library (commands.SetSource source part) moment is =
    answered (refusal_of library (commands.SetSource source part)) (accepted library (commands.SetSource source part) moment) refl
none_stored library (commands.DropFlow flow) moment is =
    answered (refusal_of library (commands.DropFlow flow)) (accepted library (commands.DropFlow flow) moment) (none_dropped library flow moment)
none_stored library (commands.Allocate flow want) moment is =
    answered (refusal_of library (commands.Allocate flow want)) (accepted library (commands.Allocate flow want) moment) refl
none_stored library (commands.AddSegments flow posts) moment is =
    answered (refusal_of library (commands.AddSegments flow posts)) (accepted library (commands.AddSegments flow posts) moment) refl
none_stored library (commands.CutSegments flow range) moment is =
    answered (refusal_of library (commands.CutSegments flow range)) (accepted library (commands.CutSegments flow range) moment)
    (none_cut library flow range moment)
none_stored library (commands.PutHook hook) moment is =
    answered (refusal_of library (commands.PutHook hook)) (accepted library (commands.PutHook hook) moment) refl
none_stored library (commands.DropHook url) moment is =
    answered (refusal_of library (commands.DropHook url)) (accepted library (commands.DropHook url) moment) (none_unhooked library url moment)
none_stored library (commands.Keep object start size digest) moment is = absurd cc
none_stored library (commands.Ask query) moment is =
    answered (refusal_of library (commands.Ask query)) (accepted library (commands.Ask query) moment) refl

-- nor where the change may not fit
by_change : (journal : State) (outcome : Outcome) (change : Option Change) → stores change ≡ false → outcome.change ≡ change
    → stores (fitted_by journal outcome change).change ≡ false
by_change journal outcome None none is = ap stores is
by_change journal outcome (Some change) none is = either (fits journal change) outcome (unchanged (replies.Refused JournalFull)) (ap stores is ∙ none) refl

pub none_fitted : (journal : State) (outcome : Outcome) → stores outcome.change ≡ false → stores (fitted journal outcome).change ≡ false
none_fitted journal outcome none = by_change journal outcome outcome.change none refl

-- ---- such changes need no bytes

pub none_came : (change : Change) → stores (Some change) ≡ false → fits_bytes change [] ≡ true
none_came (changes.PutFlow moment flow) is = refl
none_came (changes.SetFlow moment flow part) is = refl
none_came (changes.SetSource moment source part) is = refl
none_came (changes.DropFlow moment flow) is = refl
none_came (changes.Allocate moment flow ids) is = refl
none_came (changes.Store moment object start size digest) is = absurd cc
none_came (changes.AddSegments moment flow posts) is = refl
none_came (changes.CutSegments moment flow range) is = refl
none_came (changes.AskDelete moment flow range delete_flow) is = refl
none_came (changes.DeleteStep moment) is = refl
none_came (changes.SweepStep moment) is = refl
none_came (changes.PutHook moment hook) is = refl
none_came (changes.DropHook moment url) is = refl
none_came (changes.Delivered moment event) is = refl

pub none_stand : (image : List ℕ) (area : ℕ) (change : Change) → stores (Some change) ≡ false → StandsThere image area change []
none_stand image area (changes.PutFlow moment flow) is = tt
none_stand image area (changes.SetFlow moment flow part) is = tt
none_stand image area (changes.SetSource moment source part) is = tt
none_stand image area (changes.DropFlow moment flow) is = tt
none_stand image area (changes.Allocate moment flow ids) is = tt
none_stand image area (changes.Store moment object start size digest) is = absurd cc
none_stand image area (changes.AddSegments moment flow posts) is = tt
none_stand image area (changes.CutSegments moment flow range) is = tt
none_stand image area (changes.AskDelete moment flow range delete_flow) is = tt
none_stand image area (changes.DeleteStep moment) is = tt
none_stand image area (changes.SweepStep moment) is = tt
none_stand image area (changes.PutHook moment hook) is = tt
none_stand image area (changes.DropHook moment url) is = tt
none_stand image area (changes.Delivered moment event) is = tt
