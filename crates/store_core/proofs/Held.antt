-- The library after a change that stores an object holds that object's row apart.
use Rattle.std.proofs.Common.{◌≡◌, ℕ, true, List, Option, Some, None, refl, sym, subst, ap, ◌∙◌}
use Rattle.std.specs.Prelude.{Ok, IfSome, ◌==◌, nat_le, is_some, length, option_map}
use Rattle.std.proofs.lemmas.Bool.{cond_both}
use Rattle.time_range.specs.declared.ranges.Span.{Span}
use Rattle.media_rows.specs.declared.change.Change.{Change}
use Rattle.media_rows.specs.declared.change.Change.TheVariants as changes
use Rattle.media_rows.specs.declared.command.Command.{Command}
use Rattle.media_rows.specs.declared.command.Command.TheVariants as commands
use Rattle.media_rows.specs.declared.object.ObjectRow.{ObjectRow}
use Rattle.media_rows.specs.declared.reply.Reply.{Reply}
use Rattle.media_rows.specs.Answer.{Outcome, accepted, accepted_cut, accepted_drop, keep_refusal, refusal_of}
use Rattle.media_rows.specs.Library.{Library}
use Rattle.media_rows.specs.Objects.{object_of}
use Rattle.media_rows.specs.Outbox.{hook_of}
use Rattle.media_rows.specs.Segments.{covered, segments_of}
use Rattle.media_book.specs.Media.{media_of, serial_in}
use Rattle.store_core.specs.declared.made.Made.{Made}
use Rattle.store_core.specs.declared.prepare.Prepared.{Prepared}
use Rattle.store_core.specs.Prepared.{HoldsStored, preparation}
use Rattle.store_core.specs.Within.{KeepsApart, Making, made_by, making, next_apart, prepared_step, step_by}

-- the object that a change stores
abbrev stored_by : Option Change → Option (List ℕ)
stored_by None = None
stored_by (Some (changes.Store moment object start size digest)) = Some object
stored_by (Some _) = None

-- the object that a command keeps
abbrev kept_by : Command → Option (List ℕ)
kept_by (commands.Keep object start size digest) = Some object
kept_by _ = None

-- no other command than one that keeps an object makes a change that stores one
abbrev Stores : Option (List ℕ) → Outcome → Type 0
Stores object outcome = stored_by outcome.change ≡ object

drop_stores : (library : Library) (flow moment : ℕ) → Stores None (accepted_drop library flow moment)
drop_stores library flow moment =
    cond_both (nat_le (length (segments_of flow library.segments)) 32) _ _ (Stores None) (λ e. refl) (λ e. refl)

cut_stores : (library : Library) (flow : ℕ) (range : Option Span) (moment : ℕ) → Stores None (accepted_cut library flow range moment)
cut_stores library flow range moment =
    cond_both (length (covered library.segments flow range) == 0) _ _ (Stores None) (λ e. refl)
    (λ some. cond_both (nat_le (length (covered library.segments flow range)) 32) _ _ (Stores None) (λ e. refl) (λ e. refl))

accepted_stores : (library : Library) (command : Command) (moment : ℕ) → Stores (kept_by command) (accepted library command moment)
accepted_stores library (commands.PutFlow body) moment = refl
accepted_stores library (commands.SetFlow flow part) moment = refl
accepted_stores library (commands.SetSource source part) moment = refl
accepted_stores library (commands.DropFlow flow) moment = drop_stores library flow moment
accepted_stores library (commands.Allocate flow want) moment = refl
accepted_stores library (commands.Keep object start size digest) moment = refl
accepted_stores library (commands.AddSegments flow posts) moment = refl
accepted_stores library (commands.CutSegments flow range) moment = cut_stores library flow range moment
accepted_stores library (commands.PutHook hook) moment = refl
accepted_stores library (commands.DropHook url) moment =
    cond_both (is_some (hook_of url library.outbox.hooks)) _ _ (Stores None) (λ e. refl) (λ e. refl)
accepted_stores library (commands.Ask query) moment = refl

-- the change is prepared as it is
change_prepared : (library : Library) (reply : Reply) (change : Option Change)
    → (prepared_step library reply (option_map (step_by library) change)).change ≡ change
change_prepared library reply None = refl
change_prepared library reply (Some change) = refl

-- an object that isn't refused its bytes has a serial
serial_there : (o : Option ObjectRow) → keep_refusal o ≡ None → is_some (option_map (λ (row : ObjectRow). row.serial) o) ≡ true
serial_there None e = absurd (cc)
serial_there (Some row) e = refl

-- what is held beside what was made is held beside what is prepared
abbrev Holds : Library → List ℕ → Prepared → Type 0
Holds library object p = (is_some p.core.apart ≡ true) × (p.core.apart ≡ serial_in object (media_of library))

holds_by : (library : Library) (object : List ℕ) (p : Prepared) (apart serial : Option ℕ) → is_some serial ≡ true → apart ≡ serial
    → IfSome apart (λ s. p.core.apart ≡ Some s) → (is_some p.core.apart ≡ true) × (p.core.apart ≡ serial)
holds_by library object p apart None there same held = absurd (cc)
holds_by library object p apart (Some s) there same held =
    let is : p.core.apart ≡ Some s = subst (λ a. IfSome a (λ n. p.core.apart ≡ Some n)) same held in (ap is_some is, is)

by_kept : (library : Library) (command : Command) (object : List ℕ) → kept_by command ≡ Some object → refusal_of library command ≡ None
    → (made : Made) → KeepsApart library command (Ok made) → (p : Prepared) → IfSome (next_apart made) (λ serial. p.core.apart ≡ Some serial)
    → Holds library object p
by_kept library (commands.PutFlow body) object e free made keeps p held = absurd (cc)
by_kept library (commands.SetFlow flow part) object e free made keeps p held = absurd (cc)
by_kept library (commands.SetSource source part) object e free made keeps p held = absurd (cc)
by_kept library (commands.DropFlow flow) object e free made keeps p held = absurd (cc)
by_kept library (commands.Allocate flow want) object e free made keeps p held = absurd (cc)
by_kept library (commands.Keep own start size digest) object e free made keeps p held =
    let same : own ≡ object = cc in
    subst (λ o. Holds library o p) same
    (holds_by library own p (next_apart made) (serial_in own (media_of library)) (serial_there (object_of own library.objects) free) keeps held)
by_kept library (commands.AddSegments flow posts) object e free made keeps p held = absurd (cc)
by_kept library (commands.CutSegments flow range) object e free made keeps p held = absurd (cc)
by_kept library (commands.PutHook hook) object e free made keeps p held = absurd (cc)
by_kept library (commands.DropHook url) object e free made keeps p held = absurd (cc)
by_kept library (commands.Ask query) object e free made keeps p held = absurd (cc)

pub holds_stored : (library : Library) (command : Command) (moment : ℕ) → refusal_of library command ≡ None → (made : Made)
    → making made ≡ made_by library (accepted library command moment) → KeepsApart library command (Ok made) → (p : Prepared)
    → preparation p ≡ prepared_step library (making made).reply (making made).step
    → IfSome (next_apart made) (λ serial. p.core.apart ≡ Some serial) → HoldsStored library p
holds_stored library command moment free made made_is keeps p p_is held at object start size digest is =
    let outcome = accepted library command moment in
    let change : p.change ≡ outcome.change =
    ap (λ q. q.change) p_is ∙ ap (λ (m : Making). (prepared_step library m.reply m.step).change) made_is
    ∙ change_prepared library outcome.reply outcome.change in
    by_kept library command object (sym (accepted_stores library command moment) ∙ sym (ap stored_by change) ∙ ap stored_by is) free made keeps p held
