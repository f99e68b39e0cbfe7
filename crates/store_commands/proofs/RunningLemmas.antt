-- The ends of a run that serves: the store couldn't be opened, or connections were served.
use Rattle.std.proofs.Common.{◌≡◌, ◌≢◌, ℕ, Bool, true, List, Err, refl, ap, ◌∙◌, inl, inr, arith}
use Rattle.std.proofs.lemmas.List.Elements.{All-nil}
use Rattle.disk_trait.specs.Device.{Device, IsDevice, Link}
use Rattle.disk_trait.specs.Calls.{DiskReads, Rose}
use Rattle.site_edge.specs.Clocks.{IsMoment}
use Rattle.media_journal.specs.declared.fault.JournalFault.{JournalFault}
use Rattle.media_journal.specs.declared.fault.JournalFault.TheVariants as opening
use Rattle.run_history.specs.Serving.{RunCounts}
use Rattle.connection_loop.specs.declared.run.RunEnd.{RunEnd}
use Rattle.connection_loop.specs.declared.run.RunEnd.TheVariants.{Complete, NoMore, Unlinked, Stopped}
use Rattle.connection_loop.specs.Loops.{RunCalls, run_disk_held, run_peers_held}
use Rattle.connection_loop.proofs.Turning.{counted_none}
use Rattle.disk_trait.specs.Forms.{form_in_use}
use Rattle.store_opening.specs.Laws.{RefusedStandForNone}
use Rattle.store_states.specs.States.{StoreState}
use Rattle.tams_outcomes.specs.declared.outcome.RunOutcome.{RunOutcome}
use Rattle.tams_outcomes.specs.declared.outcome.RunOutcome.TheVariants.{Cut, DiskFault, LinkFault, NoMemory}
use Rattle.store_commands.specs.Beginning.{BeginsFrom, beginning}
use Rattle.store_commands.specs.Histories.{EndsWithoutPeer, NoPeer, serve_outcome}
use Rattle.store_commands.specs.ServeEnds.{LinkFaults, no_peer_fault}
use Rattle.store_commands.specs.Opening.{OpenedCause, StandsForOne, opening_outcome}
use Rattle.store_commands.specs.Running.{ReplayRun, ServeRun}
use Rattle.tams_outcomes.specs.Touching.{Untouched}
use Rattle.tams_outcomes.specs.Statuses.{no_disk_fault, exit_of}
use Rattle.store_commands.proofs.BeginningLemmas.{begun_served}
use Rattle.store_commands.proofs.OpeningLemmas.{Answers, no_store, refused_cause, untouched_by}

-- nothing was served, and nothing changed
pub no_peer : (base : List ℕ) (old new : Device) (clock : Bool) (begun : List ℕ) (o : RunOutcome) → IsDevice old → Untouched old new
    → EndsWithoutPeer old.link.closed new o → (from : StoreState) → BeginsFrom from old clock begun → NoPeer base (beginning from old begun) new begun o
no_peer base old new clock begun o sound untouched ends from start =
    let begins =
    begun_served base old new from begun sound start.tells.honest start.tells.tells start.settled start.stands untouched.time untouched.link untouched.handed in
    record {
      runs = record {
        connections = begins.connections;
        connections_are = begins.connections_are;
        given_is = begins.given_is;
        answers = begins.served;
        moments = begins.reached.right;
        exit = rw untouched.seen (record { room = from.room; stands = start.stands });
        good = begins.good;
        bytes = (tt, tt);
        digests = λ has. tt;
        times = All-nil IsMoment;
        handed = begins.handed;
      };
      ends = ends;
    }

-- ---- opening failed

refused_history : (base : List ℕ) (old new : Device) (clock : Bool) (begun : List ℕ) (fault : JournalFault) → RefusedStandForNone → IsDevice old
    → Untouched old new → Answers old fault → (from : StoreState) → BeginsFrom from old clock begun
    → NoPeer base (beginning from old begun) new begun (opening_outcome fault)
refused_history base old new clock begun opening.NotStore none sound untouched answer from start =
    absurd (no_store old.seen (answer start.tells.shows) from start.stands)
refused_history base old new clock begun (opening.Damaged at) none sound untouched answer from start =
    absurd (none.damaged old.seen at form_in_use from (answer start.tells.shows).1 start.stands)
refused_history base old new clock begun opening.OldForm none sound untouched answer from start =
    absurd (none.other old.seen from (answer start.tells.shows) start.stands)
refused_history base old new clock begun opening.Disk none sound untouched answer from start =
    no_peer base old new clock begun DiskFault sound untouched tt from start
refused_history base old new clock begun opening.Memory none sound untouched answer from start =
    no_peer base old new clock begun NoMemory sound untouched tt from start

refused_link : (fault : JournalFault) (before now : ℕ) → now ≡ before → LinkFaults (opening_outcome fault) before now
refused_link opening.NotStore before now same = same
refused_link (opening.Damaged at) before now same = same
refused_link opening.OldForm before now same = same
refused_link opening.Disk before now same = omega (arith, same)
refused_link opening.Memory before now same = omega (arith, same)

refused_peers : (fault : JournalFault) → no_peer_fault (opening_outcome fault) ≡ true
refused_peers opening.NotStore = refl
refused_peers (opening.Damaged at) = refl
refused_peers opening.OldForm = refl
refused_peers opening.Disk = refl
refused_peers opening.Memory = refl

refused_unlinked : (fault : JournalFault) → opening_outcome fault ≢ LinkFault
refused_unlinked opening.NotStore e = absurd cc
refused_unlinked (opening.Damaged at) e = absurd cc
refused_unlinked opening.OldForm e = absurd cc
refused_unlinked opening.Disk e = absurd cc
refused_unlinked opening.Memory e = absurd cc

refused_uncut : (fault : JournalFault) → opening_outcome fault ≢ Cut
refused_uncut opening.NotStore e = absurd cc
refused_uncut (opening.Damaged at) e = absurd cc
refused_uncut opening.OldForm e = absurd cc
refused_uncut opening.Disk e = absurd cc
refused_uncut opening.Memory e = absurd cc

module _ (base : List ℕ) (old new : Device) (clock : Bool) (begun : List ℕ) (fault : JournalFault) (ok : Bool)
    (none : RefusedStandForNone)
    (sound : IsDevice old)
    (reads : DiskReads ok old new)
    (answer : Answers old fault) where
  untouched : Untouched old new
  untouched = untouched_by ok old new reads

  pub replay_refused : ReplayRun base old new clock begun begun (opening_outcome fault)
  replay_refused = record {
    cause = refused_cause old new fault untouched answer;
    link = refused_link fault old.link.faults new.link.faults (ap (λ (l : Link). l.faults) reads.calls.link);
    history = λ from start. inr (refused_history base old new clock begun fault none sound untouched answer from start);
    starved = λ e. inl (record { link = reads.calls.link; given_is = refl });
    closed = λ idle. ap (λ (l : Link). l.under_way) reads.calls.link ∙ idle;
    dials = ap (λ (l : Link). l.dials) reads.calls.link;
    unread = λ _. refl;
  }

  pub serve_refused : (connections : ℕ) → ServeRun base old new clock begun begun connections (opening_outcome fault)
  serve_refused connections = record {
    cause = refused_cause old new fault untouched answer;
    peers = rw (refused_peers fault) (counted_none old.link.peer_faults new.link.peer_faults (ap (λ (l : Link). l.peer_faults) reads.calls.link));
    link = λ e. absurd (refused_unlinked fault e);
    history = λ from start. inr (refused_history base old new clock begun fault none sound untouched answer from start);
    starved = λ e. record { link = reads.calls.link; given_is = refl };
    uncut = refused_uncut fault;
    closed = λ idle. ap (λ (l : Link). l.under_way) reads.calls.link ∙ idle;
    dials = ap (λ (l : Link). l.dials) reads.calls.link;
    unread = λ _. refl;
  }

-- ---- connections were served

pub serve_disk : (end : RunEnd) (n : RunCounts) → no_disk_fault (serve_outcome end n) ≡ run_disk_held end
serve_disk Complete n = refl
serve_disk NoMore n = refl
serve_disk Unlinked n = refl
serve_disk Stopped n = refl

pub serve_peers : (end : RunEnd) (n : RunCounts) → no_peer_fault (serve_outcome end n) ≡ run_peers_held end
serve_peers Complete n = refl
serve_peers NoMore n = refl
serve_peers Unlinked n = refl
serve_peers Stopped n = refl

pub serve_cause : (old new : Device) (end : RunEnd) (n : RunCounts) → (old.shows ≡ true → StandsForOne old.seen) → OpenedCause old new (serve_outcome end n)
serve_cause old new Complete n stood = stood
serve_cause old new NoMore n stood = stood
serve_cause old new Unlinked n stood = stood
serve_cause old new Stopped n stood = tt

pub serve_link : (end : RunEnd) (n : RunCounts) (old opened new : Device) → old.link.faults ≡ opened.link.faults → RunCalls end opened new
    → serve_outcome end n ≡ LinkFault → Rose old.link.faults new.link.faults
serve_link Complete n old opened new same calls e = absurd cc
serve_link NoMore n old opened new same calls e = absurd cc
serve_link Unlinked n old opened new same calls e = rw same (calls.unlinked refl)
serve_link Stopped n old opened new same calls e = absurd cc

pub serve_fed : (end : RunEnd) (n : RunCounts) → serve_outcome end n ≢ NoMemory
serve_fed Complete n e = absurd cc
serve_fed NoMore n e = absurd cc
serve_fed Unlinked n e = absurd cc
serve_fed Stopped n e = absurd cc

-- a run that served wasn't refused
pub serve_unrefused : (end : RunEnd) (n : RunCounts) → exit_of (serve_outcome end n) ≢ 2
serve_unrefused Complete n s = omega (arith, s)
serve_unrefused NoMore n s = omega (arith, s)
serve_unrefused Unlinked n s = omega (arith, s)
serve_unrefused Stopped n s = omega (arith, s)

pub serve_uncut : (end : RunEnd) (n : RunCounts) → serve_outcome end n ≢ Cut
serve_uncut Complete n e = absurd cc
serve_uncut NoMore n e = absurd cc
serve_uncut Unlinked n e = absurd cc
serve_uncut Stopped n e = absurd cc
