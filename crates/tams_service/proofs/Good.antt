-- The states of a run are good.
use Rattle.std.proofs.Common.{◌≡◌, ℕ, Bool, true, false, List, ◌∷◌, [], All, Option, Some, subst}
use Rattle.std.specs.Prelude.{IfSome}
use Rattle.std.proofs.lemmas.List.Elements.{All-head, All-tail}
use Rattle.disk_trait.specs.Device.{Device}
use Rattle.library_laws.specs.MediaLaws.{IsGoodArchive}
use Rattle.library_laws.proofs.ChangesKept.{changes_keep_good}
use Rattle.library_laws.proofs.MediaKept.{bytes_fit}
use Rattle.library_laws.proofs.SoundLemmas.{applied_is_sound}
use Rattle.media_rows.specs.declared.change.Change.{Change}
use Rattle.media_rows.specs.Apply.{applied}
use Rattle.media_rows.specs.Library.{Library}
use Rattle.media_rows.specs.Media.{Archive, archive_after, fits_bytes}
use Rattle.media_rows.specs.Moments.{is_moment}
use Rattle.store_states.specs.States.{StoreState}
use Rattle.run_history.specs.Runs.{Beginning}
use Rattle.run_history.specs.Serving.{RunCounts, Held}
use Rattle.run_history.specs.Sessions.{Session}
use Rattle.run_history.specs.Steps.{Step, last_or}
use Rattle.run_history.specs.Traces.{state_now}
use Rattle.tams_machine.specs.Answers.{turn_in}
use Rattle.tams_machine.specs.Machine.{tams_machine}
use Rattle.tams_machine.specs.Requests.{TamsRequest}
use Rattle.tams_machine.specs.Laws.{TurnsKeepGood}
use Rattle.request_hearing.specs.Asking.{Open, asked_trace}
use Rattle.request_hearing.proofs.Asking.{state_now-open}

-- the archive of a state is good
abbrev pub is_good : StoreState → Type 0
is_good s = IsGoodArchive s.archive

-- the last of good states is
pub last_good : (s : StoreState) (states : List StoreState) → is_good s → All is_good states → is_good (last_or s states)
last_good s [] good all = good
last_good s (next ∷ states) good all = last_good next states (All-head is_good next states all) (All-tail is_good next states all)

-- the state of a connection on which a request has begun
pub good_now : {base : List ℕ} {b : Beginning StoreState} {d : Device} {given : List ℕ} {held : Held StoreState} {said : Bool}
    {finished : List (Session TamsRequest)} {steps : List (Step TamsRequest)} {n : RunCounts}
    → Open (tams_machine base) b d given held said finished steps n → is_good held.state
good_now {base} {b} {d} {given} {held} {said} {finished} {steps} {n} o = subst is_good (state_now-open o) (by_said said)
  where
    by_said : (k : Bool) → is_good (state_now (asked_trace (tams_machine base) b k finished steps))
    by_said true = last_good _ _ (All-head is_good _ _ o.so_far.good) (All-tail is_good _ _ o.so_far.good)
    by_said false = last_good _ _ (All-head is_good _ _ o.so_far.good) (All-tail is_good _ _ o.so_far.good)

-- the state behind a turn
pub turn_good : TurnsKeepGood → (s after : StoreState) (moment : ℕ) → is_good s → is_moment moment ≡ true → turn_in moment s ≡ Some after → is_good after
turn_good keep s after moment good at is = by_some (turn_in moment s) is (keep moment s good at)
  where
    by_some : (o : Option StoreState) → o ≡ Some after → IfSome o is_good → is_good after
    by_some o same h = subst (λ x. IfSome x is_good) same h

-- the archive behind a change that applied
pub made_good : (archive : Archive) (change : Change) (came : List ℕ) (next : Library) → IsGoodArchive archive
    → applied change archive.library ≡ Some next → fits_bytes change came ≡ true → IsGoodArchive (archive_after change came archive)
made_good archive change came next good made fits =
    let sound = applied_is_sound archive.library change next made in
    record {
      good = changes_keep_good archive.library change good.good sound.allowed sound.sound;
      held = bytes_fit archive change came good sound.allowed fits;
    }
