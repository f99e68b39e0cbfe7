-- What was served is a run by one history.
use Rattle.std.proofs.Common.{◌≡◌, ◌≢◌, ◌≤◌, ℕ, Bool, true, false, List, [], ◌∷◌, ◌++◌, All, if◌then◌else◌, nat_lt, refl, sym, ap, ap₂, ◌∙◌, subst, inl, inr, arith}
use Rattle.std.proofs.lemmas.List.{append_cancel_left}
use Rattle.std.specs.Prelude.{IsTrue}
use Rattle.std.proofs.lemmas.Bool.Decides.{nat_tests}
use Rattle.disk_trait.specs.Device.{Device, IsDevice, Link}
use Rattle.disk_trait.specs.Calls.{DiskReads, Rose, SameDevice}
use Rattle.site_edge.specs.Clocks.{IsMoment}
use Rattle.media_rows.specs.Moments.{is_moment}
use Rattle.run_history.specs.Runs.{Beginning}
use Rattle.run_history.specs.Sessions.{Session}
use Rattle.run_history.specs.Serving.{HasServed, RunCounts}
use Rattle.run_history.specs.Traces.{start_of}
use Rattle.run_history.specs.Parts.{all_moments}
use Rattle.run_history.proofs.Going.{has_run}
use Rattle.connection_loop.specs.declared.connection.Next.{Next}
use Rattle.connection_loop.specs.declared.connection.Next.TheVariants.{NoMore, Unlinked, Ended}
use Rattle.connection_loop.specs.declared.ending.ConnectionEnd.{ConnectionEnd}
use Rattle.connection_loop.specs.declared.ending.ConnectionEnd.TheVariants as endings
use Rattle.connection_loop.specs.declared.run.RunEnd.{RunEnd}
use Rattle.connection_loop.specs.Loops.{HasEnded, NextCalls, NextLeads, NextLinkCount, RunCalls, next_disk_held}
use Rattle.connection_loop.specs.Tallies.{nothing_counted}
use Rattle.connection_loop.proofs.Turning.{tells_later}
use Rattle.connection_loop.specs.Turns.{ClockCalls, GivesMore, IsBetween}
use Rattle.connection_loop.specs.Endings.{AreCounted, RunEnds, TellsAll}
use Rattle.store_opening.specs.Opening.{IsKept, bytes_in_image}
use Rattle.store_opening.proofs.Kept.{kept_stands}
use Rattle.store_states.specs.Kept.{StoreView, kept_state}
use Rattle.store_states.specs.States.{StoreState}
use Rattle.tams_histories.specs.Along.{RunsKeepObjects}
use Rattle.tams_machine.specs.Machine.{tams_machine}
use Rattle.tams_machine.specs.Requests.{TamsRequest}
use Rattle.tams_outcomes.specs.declared.outcome.RunOutcome.{RunOutcome}
use Rattle.tams_outcomes.specs.declared.outcome.RunOutcome.TheVariants.{Cut, LinkFault, NoMemory}
use Rattle.store_commands.specs.Beginning.{BeginsFrom, beginning, most_given}
use Rattle.store_commands.specs.Histories.{OnePeer, Replayed, RunsAs, ServedAll, replay_outcome, serve_outcome, served_with}
use Rattle.store_commands.specs.ServeEnds.{LinkFaults}
use Rattle.store_commands.specs.Opening.{OpenedCause, StandsForOne}
use Rattle.store_commands.specs.Running.{ReplayRun, ServeRun}
use Rattle.tams_outcomes.specs.Statuses.{no_disk_fault, exit_of}
use Rattle.store_commands.proofs.BeginningLemmas.{begun_served}
use Rattle.store_commands.proofs.RunningLemmas.{serve_cause, serve_fed, serve_link, serve_peers, serve_uncut, serve_unrefused}

times : (moments : List ℕ) → All IsMoment moments → All (λ (moment : ℕ). IsTrue (is_moment moment)) moments
times moments all k d few = let time = all k d few in grind (arith, nat_tests, time)

-- the moments of a history are those that the clock gave
pub runs_as : RunsKeepObjects → (base : List ℕ) (b : Beginning StoreState) (d : Device) (begun given : List ℕ) (sessions : List (Session TamsRequest))
    (n : RunCounts)
    → HasServed (tams_machine base) b d given sessions n → IsDevice d → d.honest ≡ true → d.shows ≡ true → d.tells ≡ true → b.given ≡ begun
    → GivesMore begun given → RunsAs base b sessions d given
runs_as law base b d begun given sessions n h sound honest shows tells first more =
    let moments = all_moments (tams_machine base) (start_of b.state) sessions in
    let same : b.given ++ more.more ≡ b.given ++ moments = ap (λ l. l ++ more.more) first ∙ sym more.given_is ∙ h.given_is in
    let ran = has_run (tams_machine base) b d given sessions n h sound honest shows tells in
    let given_are : All IsMoment moments = subst (All IsMoment) (append_cancel_left b.given more.more moments same) more.moments in
    record {
      connections = ran.connections;
      connections_are = ran.connections_are;
      given_is = ran.given_is;
      answers = ran.served;
      moments = ran.right;
      exit = ran.stands;
      good = ran.good;
      bytes = law.bytes base b.state sessions ran.good (times moments given_are);
      digests = law.digests base b.state sessions ran.good (times moments given_are);
      times = given_are;
      handed = h.handed;
    }

-- ---- one connection

-- the outcome of what came of waiting for a connection
abbrev pub next_outcome : Next → RunCounts → RunOutcome
next_outcome NoMore n = served_with n
next_outcome Unlinked n = LinkFault
next_outcome (Ended ending) n = replay_outcome ending n

unless_link : (skipped : Bool) (o : RunOutcome) (before now : ℕ) → before ≤ now → LinkFaults o before now
    → LinkFaults (if skipped then NoMemory else o) before now
unless_link true o before now least faults = least
unless_link false o before now least faults = faults

-- the count of link faults by the outcome
pub next_link : (next : Next) (n : RunCounts) (before now : ℕ) → NextLinkCount next before now → LinkFaults (next_outcome next n) before now
next_link NoMore n before now count = count
next_link Unlinked n before now count = count
next_link (Ended endings.Complete) n before now count = unless_link (nat_lt 0 n.skipped) _ before now (omega (arith, count)) count
next_link (Ended endings.Cut) n before now count = unless_link (nat_lt 0 n.skipped) _ before now (omega (arith, count)) count
next_link (Ended endings.Unlinked) n before now count = unless_link (nat_lt 0 n.skipped) _ before now count.0 count
next_link (Ended endings.Starved) n before now count = count
next_link (Ended endings.Stopped) n before now count = count

unless_disk : (skipped : Bool) (o : RunOutcome) → no_disk_fault o ≡ true → no_disk_fault (if skipped then NoMemory else o) ≡ true
unless_disk true o held = refl
unless_disk false o held = held

-- that of disk faults
pub next_disk : (next : Next) (n : RunCounts) → no_disk_fault (next_outcome next n) ≡ next_disk_held next
next_disk NoMore n = refl
next_disk Unlinked n = refl
next_disk (Ended endings.Complete) n = unless_disk (nat_lt 0 n.skipped) _ refl
next_disk (Ended endings.Cut) n = unless_disk (nat_lt 0 n.skipped) _ refl
next_disk (Ended endings.Unlinked) n = unless_disk (nat_lt 0 n.skipped) _ refl
next_disk (Ended endings.Starved) n = refl
next_disk (Ended endings.Stopped) n = refl

unless_cause : (old new : Device) (skipped : Bool) (o : RunOutcome) → OpenedCause old new o → OpenedCause old new (if skipped then NoMemory else o)
unless_cause old new true o cause = tt
unless_cause old new false o cause = cause

-- the file stood for a state
pub next_cause : (old new : Device) (next : Next) (n : RunCounts) → (old.shows ≡ true → StandsForOne old.seen) → OpenedCause old new (next_outcome next n)
next_cause old new NoMore n stood = stood
next_cause old new Unlinked n stood = stood
next_cause old new (Ended endings.Complete) n stood = unless_cause old new (nat_lt 0 n.skipped) _ stood
next_cause old new (Ended endings.Cut) n stood = unless_cause old new (nat_lt 0 n.skipped) _ stood
next_cause old new (Ended endings.Unlinked) n stood = unless_cause old new (nat_lt 0 n.skipped) _ stood
next_cause old new (Ended endings.Starved) n stood = tt
next_cause old new (Ended endings.Stopped) n stood = tt

unless_unrefused : (skipped : Bool) (o : RunOutcome) → exit_of o ≢ 2 → exit_of (if skipped then NoMemory else o) ≢ 2
unless_unrefused true o other s = omega (arith, s)
unless_unrefused false o other s = other s

-- it wasn't refused
next_unrefused : (next : Next) (n : RunCounts) → exit_of (next_outcome next n) ≢ 2
next_unrefused NoMore n s = omega (arith, s)
next_unrefused Unlinked n s = omega (arith, s)
next_unrefused (Ended endings.Complete) n s = unless_unrefused (nat_lt 0 n.skipped) (served_with n) (λ e. omega (arith, e)) s
next_unrefused (Ended endings.Cut) n s = unless_unrefused (nat_lt 0 n.skipped) Cut (λ e. omega (arith, e)) s
next_unrefused (Ended endings.Unlinked) n s = unless_unrefused (nat_lt 0 n.skipped) LinkFault (λ e. omega (arith, e)) s
next_unrefused (Ended endings.Starved) n s = omega (arith, s)
next_unrefused (Ended endings.Stopped) n s = omega (arith, s)

-- The file stood for what is kept.
pub stood_for : (old : Device) (kept : StoreView) → (old.shows ≡ true → IsKept old.seen kept) → old.shows ≡ true → StandsForOne old.seen
stood_for old kept answer shows = (kept_state kept (bytes_in_image old.seen kept), kept_stands old.seen kept (answer shows))

module _ (base : List ℕ) (old opened new : Device) (clock clock_new : Bool) (begun given : List ℕ) (kept : StoreView) (keeps_first : StoreState → Type 0)
    (n : RunCounts)
    (law : RunsKeepObjects)
    (sound_old : IsDevice old)
    (sound : IsDevice new)
    (reads : DiskReads true old opened)
    (same : SameDevice opened new)
    (answer : old.shows ≡ true → IsKept old.seen kept)
    (keeps : (from : StoreState) → BeginsFrom from old clock begun → keeps_first from)
    (most : ℕ)
    (fits : most ≤ most_given)
    (reading : ClockCalls most clock clock_new begun given) where
  -- a run begins with what was opened
  between : (from : StoreState) → BeginsFrom from old clock begun
      → IsBetween (tams_machine base) (beginning from old begun) opened begun keeps_first [] nothing_counted
  between from start = record {
    served = begun_served base old opened from begun sound_old start.tells.honest start.tells.tells start.settled start.stands reads.time reads.calls.link
        reads.handed;
    unstopped = refl;
    kept = keeps from start;
  }

  -- and the clock tells at its end
  tells_opened : (from : StoreState) → BeginsFrom from old clock begun → TellsAll opened clock_new
  tells_opened from start =
      let all = tells_later old opened clock reads.calls.same start.tells in
      let few = start.few in
      record {
        honest = all.honest;
        shows = all.shows;
        tells = all.tells;
        clock_tells = (reading.lasts start.tells.clock_tells (omega (arith, few, fits))).0;
      }

  -- the history of connections that were served
  as_run : (from : StoreState) → BeginsFrom from old clock begun → (sessions : List (Session TamsRequest)) (m : RunCounts)
      → HasServed (tams_machine base) (beginning from old begun) new given sessions m → RunsAs base (beginning from old begun) sessions new given
  as_run from start sessions m served =
      let all = tells_later opened new clock_new same (tells_opened from start) in
      runs_as law base (beginning from old begun) new begun given sessions m served sound all.honest all.shows all.tells refl (reading.moments all.clock_tells)

  faults-opened : old.link.faults ≡ opened.link.faults
  faults-opened = ap (λ (l : Link). l.faults) (sym reads.calls.link)

  closed-opened : old.link.closed ≡ opened.link.closed
  closed-opened = ap (λ (l : Link). l.closed) (sym reads.calls.link)

  idle_opened : old.link.under_way ≡ false → opened.link.under_way ≡ false
  idle_opened idle = ap (λ (l : Link). l.under_way) reads.calls.link ∙ idle

  dials-opened : opened.link.dials ≡ old.link.dials
  dials-opened = ap (λ (l : Link). l.dials) reads.calls.link

  -- ---- `replay`

  module _ (keeps_last : StoreState → Type 0) where
    -- what the service leads to
    abbrev pub Leads : Next → Type 0
    Leads next = TellsAll opened clock_new → (b : Beginning StoreState) → (sessions : List (Session TamsRequest))
        → IsBetween (tams_machine base) b opened begun keeps_first sessions nothing_counted
        → NextLeads (tams_machine base) b opened.link.closed new given keeps_last sessions n next

    -- one that came
    one_peer : (ending : ConnectionEnd) → Leads (Ended ending) → (from : StoreState) → BeginsFrom from old clock begun
        → OnePeer base (beginning from old begun) new given (replay_outcome ending n)
    one_peer ending leads from start =
        let ended = leads (tells_opened from start) (beginning from old begun) [] (between from start) in
        record {
          session = ended.session;
          runs = as_run from start (ended.session ∷ []) n ended.served;
          line = ap₂ replay_outcome ended.ending_is ended.served.counts;
        }

    -- its history
    replayed : (next : Next) → Leads next → (from : StoreState) → BeginsFrom from old clock begun
        → Replayed base (beginning from old begun) new given (next_outcome next n)
    replayed (Ended ending) leads from start = inl (one_peer ending leads from start)
    replayed NoMore leads from start =
        let none = leads (tells_opened from start) (beginning from old begun) [] (between from start) in
        let counts = none.0.served.counts in
        inr record {
          runs = as_run from start [] n none.0.served;
          ends = (
            ap (λ (k : RunCounts). k.answers) counts,
            ap (λ (k : RunCounts). k.changes) counts,
            ap (λ (k : RunCounts). k.skipped) counts,
            subst (λ (x : ℕ). Rose x new.link.closed) (sym closed-opened) none.1,
          );
        }
    replayed Unlinked leads from start =
        let none = leads (tells_opened from start) (beginning from old begun) [] (between from start) in
        inr record { runs = as_run from start [] n none.served; ends = tt }

    -- which ends for want of memory only with a request of its connection, or the turn behind it
    starved_peer : (next : Next) → Leads next → next_outcome next n ≡ NoMemory → (from : StoreState) → BeginsFrom from old clock begun
        → OnePeer base (beginning from old begun) new given (next_outcome next n)
    starved_peer (Ended ending) leads is from start = one_peer ending leads from start
    starved_peer NoMore leads is from start = absurd cc
    starved_peer Unlinked leads is from start = absurd cc

    pub replay_ends : (next : Next) → NextCalls next opened new → Leads next → ReplayRun base old new clock begun given (next_outcome next n)
    replay_ends next calls leads = record {
      cause = next_cause old new next n (stood_for old kept answer);
      link = rw faults-opened (next_link next n opened.link.faults new.link.faults calls.link_faults);
      history = replayed next leads;
      starved = λ e. inr (starved_peer next leads e);
      closed = λ idle. calls.closed (idle_opened idle);
      dials = calls.dials ∙ dials-opened;
      unread = λ s. absurd (next_unrefused next n s);
    }

  -- ---- `serve`

  module _ (end : RunEnd) (connections : ℕ)
      (calls : RunCalls end opened new)
      (leads : TellsAll opened clock_new → (b : Beginning StoreState) → IsBetween (tams_machine base) b opened begun keeps_first [] nothing_counted
      → HasEnded (tams_machine base) b opened new given n connections end) where
    served_all : (from : StoreState) → BeginsFrom from old clock begun
        → ServedAll base (beginning from old begun) old new given connections (serve_outcome end n)
    served_all from start =
        let ended = leads (tells_opened from start) (beginning from old begun) (between from start) in
        inl record {
          sessions = ended.sessions;
          end = end;
          runs = as_run from start ended.sessions n ended.served;
          ends = subst (λ (x : ℕ). RunEnds x new ended.sessions connections end) (sym closed-opened) ended.ends;
          line = ap (serve_outcome end) ended.served.counts;
          counted = subst (λ (x : ℕ). AreCounted x new.link.faults ended.sessions) (sym faults-opened) ended.counted;
        }

    pub serve_ends : ServeRun base old new clock begun given connections (serve_outcome end n)
    serve_ends =
        let peers : old.link.peer_faults ≡ opened.link.peer_faults = ap (λ (l : Link). l.peer_faults) (sym reads.calls.link) in
        record {
          cause = serve_cause old new end n (stood_for old kept answer);
          peers = rw (serve_peers end n, peers) calls.peer_faults;
          link = serve_link end n old opened new faults-opened calls;
          history = served_all;
          starved = λ e. absurd (serve_fed end n e);
          uncut = serve_uncut end n;
          closed = λ idle. calls.closed (idle_opened idle);
          dials = calls.dials ∙ dials-opened;
          unread = λ s. absurd (serve_unrefused end n s);
        }
