-- Each change that an answer or a turn makes leaves a good state, in which what was stored has the bytes and the digest that it had, and digests are true that
-- were.
use Rattle.std.proofs.Common.{◌≡◌, ℕ, Bool, true, false, List, [], Option, Some, None, Result, Ok, Err, length, nat_le, refl, ap, arith}
use Rattle.std.specs.Prelude.{IsTrue, IfOk, IfSome, ◌||◌, ◌==◌, option_map, is_some, if◌then◌else◌}
use Rattle.std.proofs.lemmas.Bool.{and_parts, false≢true}
use Rattle.std.proofs.lemmas.Bool.Decides.{nat_tests}
use Rattle.change_codec.specs.Fitting as journals
use Rattle.library_laws.specs.Laws.{AppliesWithin, FirstBytesStay}
use Rattle.library_laws.specs.MediaLaws.{IsGoodArchive, TakesPlace}
use Rattle.library_laws.specs.ChangeLaws.{WasSound}
use Rattle.library_laws.proofs.ChangesKept.{changes_keep_good}
use Rattle.library_laws.proofs.MediaKept.{bytes_fit, bytes_stay, digests_stay, puts_apply, questions_apply}
use Rattle.library_laws.proofs.SoundLemmas.{applied_is_sound}
use Rattle.media_rows.specs.declared.change.Change.{Change}
use Rattle.media_rows.specs.declared.change.Change.TheVariants as changes
use Rattle.media_rows.specs.declared.command.Command.{Command}
use Rattle.media_rows.specs.declared.command.Command.TheVariants as commands
use Rattle.media_rows.specs.declared.refusal.Refusal.{Refusal}
use Rattle.media_rows.specs.declared.refusal.Refusal.TheVariants.{JournalFull}
use Rattle.media_rows.specs.declared.reply.Reply.{Reply}
use Rattle.media_rows.specs.declared.reply.Reply.TheVariants as replies
use Rattle.media_rows.specs.Answer.{Outcome, accepted, accepted_request, answer, answer_by, changed, refusal_of, unchanged}
use Rattle.media_rows.specs.Apply.{passes_serials, turn}
use Rattle.media_rows.specs.Changes.{after}
use Rattle.media_rows.specs.Library.{Library, last_serial}
use Rattle.media_rows.specs.Media.{NamesDigest, answer_to, fits_bytes, is_good_question}
use Rattle.media_rows.specs.Moments.{is_moment}
use Rattle.media_rows.specs.Objects.{digest_in_state}
use Rattle.media_rows.specs.Outbox.{hook_of}
use Rattle.media_rows.specs.Ranges.{eternity}
use Rattle.media_rows.specs.Requests.{step_size}
use Rattle.media_rows.specs.Segments.{covered, segments_of}
use Rattle.store_states.specs.Fitting.{fitted_by}
use Rattle.store_states.specs.States.{StoreState}
use Rattle.tams_http.specs.declared.ask.Ask.{Ask}
use Rattle.tams_http.specs.declared.ask.Ask.TheVariants.{GetMedia, PutMedia, Run}
use Rattle.tams_machine.specs.Answers.{journal_of_state, outcome_by, question_of, state_with_change, turned_by}
use Rattle.tams_machine.specs.Laws.{KeepsBytes, KeepsDigests, is_sent}

-- ---- one change

-- what a change leaves of a state
pub record Kept (s next : StoreState) : Type 0 where
  pub good : IsGoodArchive next.archive
  pub bytes : KeepsBytes s next
  pub digests : KeepsDigests s next

-- bytes that came are those that a change takes: they have its length and its digest
pub record Comes (change : Change) (came : List ℕ) : Type 0 where
  pub size : fits_bytes change came ≡ true
  pub digest : NamesDigest change came

-- what fits the journal doesn't end the serials
pub within : (s : StoreState) (change : Change) → journals.fits (journal_of_state s) change ≡ true → passes_serials change s.archive.library ≡ false
within s change fit =
    let low = (and_parts (nat_le (after change s.archive.library).next_serial last_serial)
    (journals.fits_room (journal_of_state s) change || journals.fits_behind_rows (journal_of_state s) change) fit).0 in
    grind (arith, nat_tests, low)

-- a change that applies and fits keeps a good state
kept : FirstBytesStay → (s : StoreState) (change : Change) (came : List ℕ) → IsGoodArchive s.archive → AppliesWithin s.archive.library change
    → journals.fits (journal_of_state s) change ≡ true → Comes change came → Kept s (state_with_change s change came)
kept stay s change came good applies fit comes =
    let was : WasSound s.archive.library change (after change s.archive.library) =
    applied_is_sound s.archive.library change _ (applies (within s change fit)) in
    record {
      good = record {
        good = changes_keep_good s.archive.library change good.good was.allowed was.sound;
        held = bytes_fit s.archive change came good was.allowed comes.size;
      };
      bytes = λ old new here there serial stored. record {
        bytes = bytes_stay s.archive change came good was.allowed old new here there serial stored;
        digest = ap digest_in_state (stay s.archive.library change good.good was.allowed old new here there serial stored).1;
      };
      digests = digests_stay s.archive change came good was.allowed comes.digest;
    }

-- ---- bytes that come

-- the change of an outcome, where there is one, takes the bytes that came
abbrev pub Takes : List ℕ → Outcome → Type 0
Takes came outcome = IfSome outcome.change (λ change. Comes change came)

-- a change that stores no object takes any
none_come : (change : Change) (came : List ℕ) → fits_bytes change came ≡ true → NamesDigest change came → Comes change came
none_come change came size digest = record { size = size; digest = digest }

refused_or : (came : List ℕ) (refusal : Option Refusal) (made : Outcome) → Takes came made → Takes came (answer_by refusal made)
refused_or came (Some refusal) made takes = tt
refused_or came None made takes = takes

either : (came : List ℕ) (test : Bool) (one two : Outcome) → Takes came one → Takes came two → Takes came (if test then one else two)
either came true one two h k = h
either came false one two h k = k

-- no command but the storing of an object takes bytes
pub commands_take : (library : Library) (command : Command) (moment : ℕ) (came : List ℕ) → is_sent (Run command) ≡ true
    → Takes came (answer library command moment)
commands_take library (commands.PutFlow body) moment came sent =
    refused_or came (refusal_of library (commands.PutFlow body)) (accepted library (commands.PutFlow body) moment) (none_come _ came refl tt)
commands_take library (commands.SetFlow flow part) moment came sent =
    refused_or came (refusal_of library (commands.SetFlow flow part)) (accepted library (commands.SetFlow flow part) moment) (none_come _ came refl tt)
commands_take library (commands.SetSource source part) moment came sent =
    refused_or came (refusal_of library (commands.SetSource source part)) (accepted library (commands.SetSource source part) moment) (none_come _ came refl tt)
commands_take library (commands.DropFlow flow) moment came sent =
    refused_or came (refusal_of library (commands.DropFlow flow)) (accepted library (commands.DropFlow flow) moment)
    (either came (nat_le (length (segments_of flow library.segments)) step_size) (changed replies.Done (changes.DropFlow moment flow))
    (accepted_request library (record { flow = flow; range = eternity; delete_flow = true }) moment) (none_come _ came refl tt) (none_come _ came refl tt))
commands_take library (commands.Allocate flow want) moment came sent =
    refused_or came (refusal_of library (commands.Allocate flow want)) (accepted library (commands.Allocate flow want) moment) (none_come _ came refl tt)
commands_take library (commands.Keep object start size digest) moment came sent = absurd (false≢true sent)
commands_take library (commands.AddSegments flow posts) moment came sent =
    refused_or came (refusal_of library (commands.AddSegments flow posts)) (accepted library (commands.AddSegments flow posts) moment) (none_come _ came refl tt)
commands_take library (commands.CutSegments flow range) moment came sent =
    let many = accepted_request library (record { flow = flow; range = range; delete_flow = false }) moment in
    let cut = changed replies.Done (changes.CutSegments moment flow range) in
    let few = nat_le (length (covered library.segments flow range)) step_size in
    refused_or came (refusal_of library (commands.CutSegments flow range)) (accepted library (commands.CutSegments flow range) moment)
    (either came (length (covered library.segments flow range) == 0) (unchanged replies.Done) (if few then cut else many) tt
    (either came few cut many (none_come _ came refl tt) (none_come _ came refl tt)))
commands_take library (commands.PutHook hook) moment came sent =
    refused_or came None (accepted library (commands.PutHook hook) moment) (none_come _ came refl tt)
commands_take library (commands.DropHook url) moment came sent =
    refused_or came None (accepted library (commands.DropHook url) moment)
    (either came (is_some (hook_of url library.outbox.hooks)) (changed replies.Done (changes.DropHook moment url)) (unchanged replies.Done) (none_come _ came refl tt) tt)
commands_take library (commands.Ask query) moment came sent =
    refused_or came (refusal_of library (commands.Ask query)) (accepted library (commands.Ask query) moment) tt

pub placed_take : (library : Library) (object bytes : List ℕ) (moment : ℕ) (change : Change) → TakesPlace library object bytes moment change → Comes change bytes
placed_take library object bytes moment change takes = record { size = rw takes.is grind (arith, nat_tests); digest = rw takes.is refl }

places_take : (library : Library) (object bytes : List ℕ) (moment : ℕ) (o : Option Change) → IfSome o (TakesPlace library object bytes moment)
    → IfSome o (λ change. Comes change bytes)
places_take library object bytes moment None takes = tt
places_take library object bytes moment (Some change) takes = placed_take library object bytes moment change takes

-- and a media PUT takes those of its body
questions_take : (s : StoreState) (ask : Ask) (body : List ℕ) (moment : ℕ) → IsGoodArchive s.archive → is_moment moment ≡ true → is_sent ask ≡ true
    → Takes body (answer_to s.archive (question_of ask body) moment)
questions_take s (Run command) body moment good at sent = commands_take s.archive.library command moment body sent
questions_take s (PutMedia object) body moment good at sent =
    places_take s.archive.library object body moment _ (puts_apply s.archive object body moment good.good at)
questions_take s (GetMedia object) body moment good at sent = tt

-- ---- answers

-- the change of an outcome leaves what is kept
abbrev Leaves : StoreState → List ℕ → Outcome → Type 0
Leaves s came outcome = IfSome outcome.change (λ change. Kept s (state_with_change s change came))

if_fits : FirstBytesStay → (s : StoreState) (came : List ℕ) (reply : Reply) (change : Change) (fit : Bool) → IsGoodArchive s.archive
    → AppliesWithin s.archive.library change → Comes change came → journals.fits (journal_of_state s) change ≡ fit
    → Leaves s came (if fit then record { reply = reply; change = Some change } else unchanged (replies.Refused JournalFull))
if_fits stay s came reply change true good applies size is = kept stay s change came good applies is size
if_fits stay s came reply change false good applies size is = tt

fitted_leaves : FirstBytesStay → (s : StoreState) (came : List ℕ) (reply : Reply) (change : Option Change) → IsGoodArchive s.archive
    → IfSome change (AppliesWithin s.archive.library) → IfSome change (λ c. Comes c came)
    → Leaves s came (fitted_by (journal_of_state s) (record { reply = reply; change = change }) change)
fitted_leaves stay s came reply None good applies size = tt
fitted_leaves stay s came reply (Some change) good applies size = if_fits stay s came reply change _ good applies size refl

pub asked_keeps : FirstBytesStay → (s : StoreState) (body : List ℕ) (moment : ℕ) (asked : Result Ask Refusal) → IsGoodArchive s.archive → is_moment moment ≡ true
    → IfOk asked (λ ask. IsTrue (is_good_question s.archive.library (question_of ask body))) → IfOk asked (λ ask. IsTrue (is_sent ask))
    → Leaves s body (outcome_by s body moment asked)
asked_keeps stay s body moment (Err refusal) good at fine sent = tt
asked_keeps stay s body moment (Ok ask) good at fine sent =
    let outcome = answer_to s.archive (question_of ask body) moment in
    fitted_leaves stay s body outcome.reply outcome.change good (questions_apply s.archive (question_of ask body) moment good.good fine at)
    (questions_take s ask body moment good at sent)

-- what holds of the state after each change holds of the next state
pub next_is : (P : StoreState → Type 0) (s : StoreState) (came : List ℕ) (change : Option Change) → IfSome change (λ c. P (state_with_change s c came))
    → IfSome (option_map (λ c. state_with_change s c came) change) P
next_is P s came None h = tt
next_is P s came (Some change) h = h

pub and_so : {X : Type 0} {P Q : X → Type 0} (o : Option X) → ((x : X) → P x → Q x) → IfSome o P → IfSome o Q
and_so None f h = tt
and_so (Some x) f h = f x h

-- ---- turns

-- a turn takes no bytes
pub steps_take : (unfinished due : Bool) (moment : ℕ)
    → IfSome (if unfinished then Some (changes.DeleteStep moment) else if due then Some (changes.SweepStep moment) else None)
    (λ change. Comes change [])
steps_take true due moment = none_come _ [] refl tt
steps_take false true moment = none_come _ [] refl tt
steps_take false false moment = tt

turn_if : FirstBytesStay → (s : StoreState) (change : Change) (fit : Bool) → IsGoodArchive s.archive → AppliesWithin s.archive.library change
    → Comes change [] → journals.fits (journal_of_state s) change ≡ fit
    → IfSome (if fit then Some (state_with_change s change []) else None) (Kept s)
turn_if stay s change true good applies size is = kept stay s change [] good applies is size
turn_if stay s change false good applies size is = tt

turned_keeps : FirstBytesStay → (s : StoreState) (change : Option Change) → IsGoodArchive s.archive → IfSome change (AppliesWithin s.archive.library)
    → IfSome change (λ c. Comes c []) → IfSome (turned_by s change) (Kept s)
turned_keeps stay s None good applies size = tt
turned_keeps stay s (Some change) good applies size = turn_if stay s change _ good applies size refl

pub turn_keeps : FirstBytesStay → (s : StoreState) (moment : ℕ) → IsGoodArchive s.archive → IfSome (turn s.archive.library moment) (AppliesWithin s.archive.library)
    → IfSome (turned_by s (turn s.archive.library moment)) (Kept s)
turn_keeps stay s moment good applies = turned_keeps stay s (turn s.archive.library moment) good applies (steps_take _ _ moment)
