-- What a run that serves has done where nothing failed, by its history.
use Rattle.std.proofs.Common.{◌≡◌, ◌≢◌, ◌⊎◌, ◌++◌, ◌∷◌, ℕ, zero, suc, Bool, true, false, List, [], length, Option, None, Some, if◌then◌else◌, nat_lt, refl, sym, ap, ◌∙◌, subst, inl, inr, arith}
use Rattle.std.specs.Prelude.{is_some}
use Rattle.std.proofs.lemmas.Bool.{false≢true, lt-ltb}
use Rattle.std.proofs.lemmas.List.{append-nil}
use Rattle.std.specs.List.{AllByRecursion}
use Rattle.disk_trait.specs.Device.{Connection, Device}
use Rattle.disk_trait.specs.Calls.{IsCounted, Rose}
use Rattle.run_history.specs.Sessions.{AreServed, Hearing, IsServed, IsTold, LinkEnd, Saying, Session, Whole, failure_of, last_step, steps_effect, stop_of}
use Rattle.run_history.specs.Serving.{RunCounts}
use Rattle.run_history.specs.Steps.{Answered, Cut, Refused, Starved, Step, Stopped}
use Rattle.run_history.specs.Traces.{counts_of_run, start_of}
use Rattle.run_history.specs.Parts.{run_stops, stops}
use Rattle.run_history.proofs.Ends.{or_left, or_right, unstopped}
use Rattle.run_history.specs.Machine.{Failure}
use Rattle.connection_loop.specs.declared.ending.ConnectionEnd.{ConnectionEnd}
use Rattle.connection_loop.specs.declared.ending.ConnectionEnd.TheVariants as endings
use Rattle.connection_loop.specs.declared.run.RunEnd.{RunEnd}
use Rattle.connection_loop.specs.declared.run.RunEnd.TheVariants as run_ends
use Rattle.connection_loop.specs.Endings.{AreCounted, RunEnds, ending_by, ending_of}
use Rattle.store_states.specs.States.{StoreState}
use Rattle.tams_machine.specs.Machine.{tams_machine}
use Rattle.tams_machine.specs.Requests.{TamsRequest}
use Rattle.tams_outcomes.specs.declared.outcome.RunOutcome.{RunOutcome}
use Rattle.tams_outcomes.specs.declared.outcome.RunOutcome.TheVariants.{Served, DiskFault, NoMemory, LinkFault}
use Rattle.store_commands.specs.Completeness.{AreServedWhole, EndsWell, IsAnswered, IsServedWhole, OneAnswered}
use Rattle.tams_outcomes.specs.Touching.{NoneRose}
use Rattle.store_commands.specs.Histories.{EndsWithoutPeer, OnePeer, Replayed, ServedAll, replay_outcome, serve_outcome}
use Rattle.store_commands.specs.Beginning.{beginning}
use Rattle.tams_outcomes.proofs.TouchingLemmas.{no_disk}
use Rattle.tams_outcomes.specs.Statuses.{no_disk_fault, exit_of}

-- ---- how a connection ended where nothing failed

-- by how it ended, with no turn skipped
pub record EndedWell (end : ConnectionEnd) (skipped status : ℕ) : Type 0 where
  pub made : skipped ≡ 0
  pub ends : EndsWell end status

abbrev pub FailsBy : RunOutcome → Type 0
FailsBy o = (o ≡ DiskFault) ⊎ ((o ≡ LinkFault) ⊎ (exit_of o ≡ 4))

-- no turn was skipped
none_skipped : (skipped : ℕ) → nat_lt 0 skipped ≡ false → skipped ≡ 0
none_skipped zero e = refl
none_skipped (suc n) e = absurd (false≢true (sym e ∙ lt-ltb 0 (suc n) (omega arith)))

some_skipped : (some : Bool) (o : RunOutcome) → some ≡ true → FailsBy (if some then NoMemory else o)
some_skipped true o e = inr (inr refl)
some_skipped false o e = absurd (false≢true e)

-- it ended well, or the outcome says what failed
well_by : (end : ConnectionEnd) (answers changes skipped : ℕ) (some : Bool) → nat_lt 0 skipped ≡ some
    → EndedWell end skipped (exit_of (replay_outcome end (record { answers = answers; changes = changes; skipped = skipped })))
    ⊎ FailsBy (replay_outcome end (record { answers = answers; changes = changes; skipped = skipped }))
well_by endings.Stopped answers changes skipped some e = inr (inl refl)
well_by endings.Starved answers changes skipped some e = inr (inr (inr refl))
well_by endings.Unlinked answers changes skipped true e = inr (some_skipped (nat_lt 0 skipped) _ e)
well_by endings.Unlinked answers changes skipped false e = inr (rw e (inr (inl refl)))
well_by endings.Cut answers changes skipped true e = inr (some_skipped (nat_lt 0 skipped) _ e)
well_by endings.Cut answers changes skipped false e = inl record { made = none_skipped skipped e; ends = rw e refl }
well_by endings.Complete answers changes skipped true e = inr (some_skipped (nat_lt 0 skipped) _ e)
well_by endings.Complete answers changes skipped false e = inl record { made = none_skipped skipped e; ends = rw e refl }

-- then no call of its link failed, nor did the disk
well_link : (last : Option (Step TamsRequest)) (link : LinkEnd) (status : ℕ) → EndsWell (ending_by last link) status → link ≡ Whole
well_link last Whole status well = refl
well_link None Hearing status well = absurd well
well_link None Saying status well = absurd well
well_link (Some (Answered a t)) Hearing status well = absurd well
well_link (Some (Answered a t)) Saying status well = absurd well
well_link (Some (Refused a t)) Hearing status well = absurd well
well_link (Some (Refused a t)) Saying status well = absurd well
well_link (Some (Starved a)) Hearing status well = absurd well
well_link (Some (Starved a)) Saying status well = absurd well
well_link (Some (Stopped a t)) Hearing status well = absurd well
well_link (Some (Stopped a t)) Saying status well = absurd well
well_link (Some (Cut a i t)) Hearing status well = absurd well
well_link (Some (Cut a i t)) Saying status well = absurd well

well_disk : (last : Option (Step TamsRequest)) (link : LinkEnd) (status : ℕ) → EndsWell (ending_by last link) status → stop_of last ≡ None
well_disk None link status well = refl
well_disk (Some (Answered a t)) link status well = refl
well_disk (Some (Refused a t)) link status well = refl
well_disk (Some (Starved a)) link status well = refl
well_disk (Some (Stopped a t)) link status well = absurd well
well_disk (Some (Cut a i t)) link status well = refl

pub well_unstopped : (session : Session TamsRequest) (status : ℕ) → EndsWell (ending_of session) status → stop_of (last_step session.steps) ≡ None
well_unstopped session status well = well_disk (last_step session.steps) session.link status well

-- the one connection of a run
one_served : (base : List ℕ) (from : StoreState) (cs : List Connection) (session : Session TamsRequest)
    → AreServed (tams_machine base) (start_of from) cs (session ∷ [])
    → (c : Connection) × (cs ≡ c ∷ []) × IsServed (tams_machine base) (start_of from) c session
one_served base from [] session served = absurd served
one_served base from (c ∷ []) session served = (c, refl, served.0)
one_served base from (c ∷ d ∷ cs) session served = absurd (served.2)

pub none_served : (base : List ℕ) (from : StoreState) (cs : List Connection) → AreServed (tams_machine base) (start_of from) cs [] → cs ≡ []
none_served base from [] served = refl
none_served base from (c ∷ cs) served = absurd served

answered : (base : List ℕ) (from : StoreState) (c : Connection) (session : Session TamsRequest) (status : ℕ)
    → IsServed (tams_machine base) (start_of from) c session
    → EndedWell (ending_of session) (steps_effect (tams_machine base) (start_of from) session.steps).skipped status
    → IsAnswered base from c session status
answered base from c session status served well =
    let pieces = (steps_effect (tams_machine base) (start_of from) session.steps).pieces in
    let whole = well_link (last_step session.steps) session.link status well.ends in
    record {
      served = served;
      whole = whole;
      made = well.made;
      told = subst (λ (link : LinkEnd). IsTold None link c.told pieces) whole
          (subst (λ (failure : Option Failure). IsTold failure session.link c.told pieces) (well_unstopped session status well.ends) served.told);
      ends = well.ends;
    }

module _ (base : List ℕ) (from : StoreState) (old new : Device) (begun given : List ℕ) (o : RunOutcome)
    (disk : IsCounted (no_disk_fault o) old.faults new.faults)
    (none : NoneRose old new)
    (unlinked : o ≡ LinkFault → Rose old.link.faults new.link.faults)
    (fed : exit_of o ≢ 4) where
  -- nothing failed
  never : FailsBy o → ⊥
  never (inl is) = no_disk old new o disk none is
  never (inr (inl is)) = none.link (unlinked is)
  never (inr (inr is)) = fed is

  -- no connection began: no peer came
  no_peer_came : (p : RunOutcome) → o ≡ p → EndsWithoutPeer old.link.closed new p → Rose old.link.closed new.link.closed × (exit_of p ≡ 0)
  no_peer_came (Served requests changes skipped) is ends = (ends.3, refl)
  no_peer_came LinkFault is ends = absurd (never (inr (inl is)))
  no_peer_came DiskFault is ends = absurd (never (inl is))
  no_peer_came NoMemory is ends = absurd (never (inr (inr (ap exit_of is))))
  no_peer_came _ is ends = absurd ends

  -- the one connection was answered whole
  pub peer_answered : (p : OnePeer base (beginning from old begun) new given o)
      → (c : Connection) × (p.runs.connections ≡ c ∷ []) × IsAnswered base from c p.session (exit_of o)
  peer_answered p =
      let ran = p.runs in
      let session = p.session in
      let one = one_served base from ran.connections session ran.answers in
      let n = counts_of_run (tams_machine base) from (session ∷ []) in
      let well = well_by (ending_of session) n.answers n.changes n.skipped (nat_lt 0 n.skipped) refl in
      elim well [
        | inl good ↦
            let skips : (steps_effect (tams_machine base) (start_of from) session.steps).skipped ≡ 0 = let made = good.made in omega (arith, made) in (
              one.0,
              one.1,
              answered base from one.0 session (exit_of o) one.2
                  (record { made = skips; ends = subst (EndsWell (ending_of session)) (sym (ap exit_of p.line)) good.ends }),
            )
        | inr failed ↦ absurd (never (subst FailsBy (sym p.line) failed))
      ]

  one_answered : OnePeer base (beginning from old begun) new given o → OneAnswered base from old new begun given (exit_of o)
  one_answered p =
      let ran = p.runs in
      let one = peer_answered p in
      record {
        session = p.session;
        connection = one.0;
        connections = ran.connections_are ∙ ap (λ (cs : List Connection). old.link.connections ++ cs) one.1;
        given_is = ran.given_is;
        answered = one.2;
      }

  -- `replay` by its history
  pub served_whole : Replayed base (beginning from old begun) new given o → IsServedWhole base from old new begun given (exit_of o)
  served_whole (inl p) = inl (one_answered p)
  served_whole (inr p) =
      let ran = p.runs in
      let came = no_peer_came o refl p.ends in
      inr record {
        connections = ran.connections_are ∙ ap (λ (cs : List Connection). old.link.connections ++ cs) (none_served base from ran.connections ran.answers)
            ∙ append-nil old.link.connections;
        given_is = ran.given_is ∙ append-nil begun;
        closed = came.0;
        status_is = came.1;
      }

  -- ---- `serve`

  whole-by : (last : Option (Step TamsRequest)) (link : LinkEnd) → is_some (stop_of last) ≡ false → ending_by last link ≢ endings.Starved
      → (ending_by last link ≡ endings.Unlinked → Rose old.link.faults new.link.faults) → link ≡ Whole
  whole-by last Whole on fed rose = refl
  whole-by None Hearing on fed rose = absurd (none.link (rose refl))
  whole-by None Saying on fed rose = absurd (none.link (rose refl))
  whole-by (Some (Answered a t)) Hearing on fed rose = absurd (none.link (rose refl))
  whole-by (Some (Answered a t)) Saying on fed rose = absurd (none.link (rose refl))
  whole-by (Some (Refused a t)) Hearing on fed rose = absurd (none.link (rose refl))
  whole-by (Some (Refused a t)) Saying on fed rose = absurd (none.link (rose refl))
  whole-by (Some (Starved a)) Hearing on fed rose = absurd (fed refl)
  whole-by (Some (Starved a)) Saying on fed rose = absurd (fed refl)
  whole-by (Some (Stopped a t)) Hearing on fed rose = absurd (false≢true (sym on))
  whole-by (Some (Stopped a t)) Saying on fed rose = absurd (false≢true (sym on))
  whole-by (Some (Cut a i t)) Hearing on fed rose = absurd (none.link (rose refl))
  whole-by (Some (Cut a i t)) Saying on fed rose = absurd (none.link (rose refl))

  all-whole : (sessions : List (Session TamsRequest)) → run_stops sessions ≡ false → AreCounted old.link.faults new.link.faults sessions
      → AllByRecursion (λ (session : Session TamsRequest). ending_of session ≢ endings.Starved → session.link ≡ Whole) sessions
  all-whole [] e counted = tt
  all-whole (session ∷ sessions) e counted = (
    (λ fed. whole-by (last_step session.steps) session.link (or_left (stops session.steps) (run_stops sessions) e) fed counted.0),
    all-whole sessions (or_right (stops session.steps) (run_stops sessions) e) counted.1,
  )

  by_end : (end : RunEnd) (n : RunCounts) (sessions : List (Session TamsRequest)) (connections : ℕ) → o ≡ serve_outcome end n
      → RunEnds old.link.closed new sessions connections end
      → (failure_of sessions ≡ None) × (((length sessions ≡ connections) ⊎ Rose old.link.closed new.link.closed) × (exit_of o ≡ 0))
  by_end run_ends.Complete n sessions connections is ends = (ends.1, (inl ends.0, ap exit_of is))
  by_end run_ends.NoMore n sessions connections is ends = (ends.1, (inr ends.2, ap exit_of is))
  by_end run_ends.Unlinked n sessions connections is ends = absurd (never (inr (inl is)))
  by_end run_ends.Stopped n sessions connections is ends = absurd (never (inl is))

  -- `serve` by its history
  pub all_served_whole : (connections : ℕ) → ServedAll base (beginning from old begun) old new given connections o
      → AreServedWhole base from old new begun given connections (exit_of o)
  all_served_whole connections (inl p) =
      let ended = by_end p.end _ p.sessions connections p.line p.ends in
      record {
        sessions = p.sessions;
        runs = p.runs;
        unstopped = ended.0;
        whole = all-whole p.sessions (unstopped (tams_machine base) (start_of from) p.runs.connections p.sessions p.runs.answers ended.0) p.counted;
        number = ended.1.0;
        status_is = ended.1.1;
      }
  all_served_whole connections (inr p) =
      let came = no_peer_came o refl p.ends in
      record { sessions = []; runs = p.runs; unstopped = refl; whole = tt; number = inr came.0; status_is = came.1 }
