-- How a run goes on: a connection begins, hears, is answered and ends.
use Rattle.std.proofs.Common.{◌≡◌, ◌≢◌, ◌+◌, ◌-◌, ℕ, Bool, true, false, List, [], ◌∷◌, ◌++◌, length, All, None, refl, sym, ap, ◌∙◌, subst, arith}
use Rattle.std.proofs.lemmas.List.{append-nil, append_assoc, length-append}
use Rattle.std.proofs.lemmas.List.Elements.{All-cons, All-nil}
use Rattle.disk_trait.specs.Device.{Connection, Device, HearCall, IsDevice, Left, may_leave, read_with}
use Rattle.disk_trait.specs.Calls.{Elapses, Unchanged}
use Rattle.site_edge.specs.Links.{AddsConnection, change_last, fresh}
use Rattle.site_edge.proofs.Theorems.{change_last_push}
use Rattle.run_history.specs.Machine.{Machine}
use Rattle.run_history.specs.Steps.{Piece, Stage, Step}
use Rattle.run_history.specs.Sessions.{AreServed, Hearing, IsServed, IsTold, LinkEnd, Saying, Session, Whole, after_steps, bytes_of_pieces, is_writing, last_step, stop_of, texts_of}
use Rattle.run_history.specs.Traces.{counts_of_run, start_of, states_of, trace_of}
use Rattle.run_history.specs.Runs.{Beginning, HasHanded, Ran}
use Rattle.run_history.specs.Laws.{under_way}
use Rattle.run_history.specs.Serving.{Going, HasServed, Held, RunCounts, connection_with}
use Rattle.run_history.specs.Parts.{after_sessions, all_answers, all_changes, all_moments, changes_of, has_hearing_failed, has_saying_failed, pieces_of, run_stops, run_stops_writing, stops_writing}
use Rattle.run_history.specs.Growing.{with_connection}
use Rattle.run_history.specs.Reaching.{Reached}
use Rattle.run_history.proofs.Hearings.{EndsOnTime}
use Rattle.run_history.proofs.Growth.{all_changes-push, all_moments-push, scripts-push, stages_count, trace-opened, trace-same}
use Rattle.run_history.proofs.Handed.{handed_link, handed_opened}
use Rattle.run_history.proofs.Invariant.{parts_suffice, peers_come, quiet_calls, runs_begin}
use Rattle.run_history.proofs.Ends.{all_answers-push, all_skips-push, counts-parts, open-going, ends-open, failure-push, heard-marks, said-marks, served-push, unfailed, writing-push}

-- ---- counts and traces

pub counts-same : (x y : RunCounts) → x.answers ≡ y.answers → x.changes ≡ y.changes → x.skipped ≡ y.skipped → x ≡ y
counts-same x y a c s = rw (a, c, s) refl

-- a connection counts as its steps do, whatever ended it
counts-link : {State Request : Type 0} (m : Machine State Request) (from : State) (finished : List (Session Request)) (steps : List (Step Request))
    (link link_after : LinkEnd)
    → counts_of_run m from (finished ++ under_way steps link ∷ []) ≡ counts_of_run m from (finished ++ under_way steps link_after ∷ [])
counts-link m from finished steps link link_after =
    counts-parts m from (finished ++ under_way steps link ∷ [])
    ∙ counts-same _ _
    (ap all_answers (scripts-push m (start_of from) finished (under_way steps link) ∙ sym (scripts-push m (start_of from) finished
    (under_way steps link_after))))
    (ap length (all_changes-push m (start_of from) finished (under_way steps link) ∙ sym (all_changes-push m (start_of from) finished
    (under_way steps link_after))))
    (all_skips-push finished (under_way steps link) ∙ sym (all_skips-push finished (under_way steps link_after)))
    ∙ sym (counts-parts m from (finished ++ under_way steps link_after ∷ []))

pub trace-link : {State Request : Type 0} (m : Machine State Request) (from : State) (finished : List (Session Request)) (steps : List (Step Request))
    (link link_after : LinkEnd)
    → trace_of m from (finished ++ under_way steps link ∷ []) ≡ trace_of m from (finished ++ under_way steps link_after ∷ [])
trace-link m from finished steps link link_after =
    trace-same from _ _ _ _
    (scripts-push m (start_of from) finished (under_way steps link) ∙ sym (scripts-push m (start_of from) finished (under_way steps link_after)))
    (all_changes-push m (start_of from) finished (under_way steps link) ∙ sym (all_changes-push m (start_of from) finished (under_way steps link_after)))

pub moments-link : {State Request : Type 0} (m : Machine State Request) (from : State) (finished : List (Session Request)) (steps : List (Step Request))
    (link link_after : LinkEnd)
    → all_moments m (start_of from) (finished ++ under_way steps link ∷ []) ≡ all_moments m (start_of from) (finished ++ under_way steps link_after ∷ [])
moments-link m from finished steps link link_after =
    all_moments-push m (start_of from) finished (under_way steps link) ∙ sym (all_moments-push m (start_of from) finished (under_way steps link_after))

-- so many changes were made so far
made-sessions : {State Request : Type 0} (m : Machine State Request) (at : Stage State) (sessions : List (Session Request))
    → (after_sessions m at sessions).made ≡ at.made + length (all_changes m at sessions)
made-sessions m at [] = omega arith
made-sessions m at (x ∷ sessions) =
    let here = (stages_count _ _ m at x.steps).0 in
    omega (
      arith,
      made-sessions m (after_steps m at x.steps) sessions,
      here,
      length-append (changes_of m at x.steps) (all_changes m (after_steps m at x.steps) sessions),
    )

pub made-now : {State Request : Type 0} (m : Machine State Request) (from : State) (finished : List (Session Request)) (steps : List (Step Request))
    → (after_steps m (after_sessions m (start_of from) finished) steps).made
    ≡ length (trace_of m from (finished ++ under_way steps Whole ∷ [])).changes
made-now m from finished steps =
    let at = after_sessions m (start_of from) finished in
    let here = (stages_count _ _ m at steps).0 in
    omega (
      arith,
      here,
      made-sessions m (start_of from) finished,
      length-append (all_changes m (start_of from) finished) (changes_of m at steps),
      ap length (all_changes-push m (start_of from) finished (under_way steps Whole)),
    )

-- ---- a connection begins

pub goes_first : {State Request : Type 0} (m : Machine State Request) (b : Beginning State) (old new : Device) (given : List ℕ)
    (sessions : List (Session Request)) (n : RunCounts) → HasServed m b old given sessions n → run_stops sessions ≡ false
    → Elapses AddsConnection AddsConnection old new → new.link.connections ≡ old.link.connections ++ fresh ∷ [] → new.handed ≡ old.handed
    → Going m b new given (record { state = (after_sessions m (start_of b.state) sessions).state; unread = []; taken = 0 }) sessions [] n
goes_first {State} {Request} m b old new given sessions n h run time connections handed =
    let opened = trace-opened m b.state sessions Whole in
    let none = unfailed sessions run in
    let writing = ap is_writing none in
    record {
      connections = h.connections;
      hearings = [];
      on_time = tt;
      connections_are =
          connections ∙ ap (λ cs. cs ++ fresh ∷ []) h.connections_are ∙ append_assoc b.before h.connections (fresh ∷ []);
      served = h.served;
      unstopped = run;
      given_is =
          h.given_is ∙ ap (λ l. b.given ++ l) (sym (all_moments-push m (start_of b.state) sessions (under_way [] Whole)
          ∙ append-nil (all_moments m (start_of b.state) sessions)));
      steps_are = tt;
      stay = tt;
      taken = refl;
      answers = refl;
      few = omega arith;
      state = refl;
      counts = h.counts ∙ counts-parts m b.state sessions ∙ counts-same _ _
          (sym (ap all_answers (scripts-push m (start_of b.state) sessions (under_way [] Whole)) ∙ all_answers-push _ [] ∙ plus_none _))
          (sym (ap length (all_changes-push m (start_of b.state) sessions (under_way [] Whole) ∙ append-nil (all_changes m (start_of b.state) sessions))))
          (sym (all_skips-push sessions (under_way [] Whole) ∙ plus_none _))
          ∙ sym (counts-parts m b.state (sessions ++ under_way [] Whole ∷ []));
      reached = subst (λ t. Reached m b t true false new) (sym opened)
          (subst (λ w. Reached m b (with_connection (trace_of m b.state sessions)) true w new) writing
          (peers_come State Request m b (trace_of m b.state sessions) false (run_stops_writing sessions) old new h.reached time));
      good = subst (λ t. All m.good (states_of t)) (sym opened) h.good;
      handed = subst (HasHanded m b (sessions ++ under_way [] Whole ∷ [])) (sym handed) (handed_opened sessions Whole (h.handed none));
    }
  where
    plus_none : (k : ℕ) → k + 0 ≡ k
    plus_none k = omega arith

-- ---- a connection has ended

-- the connections with one more, which has ended
pub ends_with : {State Request : Type 0} (m : Machine State Request) (b : Beginning State) (d : Device) (given : List ℕ)
    (finished : List (Session Request)) (session : Session Request) (n : RunCounts) (connections : List Connection) (c : Connection)
    → d.link.connections ≡ b.before ++ (connections ++ c ∷ []) → AreServed m (start_of b.state) connections finished → run_stops finished ≡ false
    → IsServed m (after_sessions m (start_of b.state) finished) c session → given ≡ b.given ++ all_moments m (start_of b.state) (finished ++ session ∷ [])
    → n ≡ counts_of_run m b.state (finished ++ session ∷ []) → Reached m b (trace_of m b.state (finished ++ session ∷ [])) false (stops_writing session.steps) d
    → All m.good (states_of (trace_of m b.state (finished ++ session ∷ [])))
    → (stop_of (last_step session.steps) ≡ None → HasHanded m b (finished ++ session ∷ []) d.handed)
    → HasServed m b d given (finished ++ session ∷ []) n
ends_with m b d given finished session n connections c are served run is given_is counts reached good handed = record {
  connections = connections ++ c ∷ [];
  connections_are = are;
  served = served-push m (start_of b.state) connections finished c session served run is;
  given_is = given_is;
  counts = counts;
  reached = subst (λ w. Reached m b (trace_of m b.state (finished ++ session ∷ [])) false w d) (sym (writing-push finished session)) reached;
  good = good;
  handed = λ on. handed (sym (failure-push finished session) ∙ on);
}

-- the connection under way is the last one, behind those before the run and those that ended
pub last_changed : (f : Connection → Connection) (before connections : List Connection) (c : Connection) (now then : List Connection)
    → then ≡ before ++ (connections ++ c ∷ []) → now ≡ change_last f then → now ≡ before ++ (connections ++ f c ∷ [])
last_changed f before connections c now then then_is now_is =
    now_is ∙ ap (change_last f) (then_is ∙ sym (append_assoc before connections (c ∷ [])))
    ∙ change_last_push f (before ++ connections) c
    ∙ append_assoc before connections (f c ∷ [])

-- ---- what hearing leaves of a connection that is under way

-- a connection that heard its peer's end, or on which hearing failed, with these hearings
abbrev pub after_end : LinkEnd → Bool → List HearCall → Connection → Connection
after_end link ended calls c = record c { ended = ended; unheard = has_hearing_failed link; hearings = calls }

unsaid-none : (link : LinkEnd) → link ≢ Saying → false ≡ has_saying_failed link
unsaid-none Whole not_saying = refl
unsaid-none Hearing not_saying = refl
unsaid-none Saying not_saying = absurd (not_saying refl)

told-whole : (link : LinkEnd) (pieces : List Piece) → link ≢ Saying → IsTold None link (bytes_of_pieces pieces) pieces
told-whole Whole pieces not_saying = refl
told-whole Hearing pieces not_saying = refl
told-whole Saying pieces not_saying = absurd (not_saying refl)

-- the end of a connection of which no byte is unread
pub ends_heard : {State Request : Type 0} (m : Machine State Request) (b : Beginning State) (old new : Device) (given : List ℕ) (held : Held State)
    (finished : List (Session Request)) (steps : List (Step Request)) (n : RunCounts) (link : LinkEnd) (ended : Bool) (calls : List HearCall)
    → Going m b old given held finished steps n → Elapses Unchanged Unchanged old new
    → new.link.connections ≡ change_last (after_end link ended calls) old.link.connections → held.unread ≡ [] → link ≢ Saying → (link ≡ Whole → ended ≡ true)
    → EndsOnTime m (after_sessions m (start_of b.state) finished) steps (after_end link ended calls (connection_with (texts_of steps ++ held.unread)
    (bytes_of_pieces (pieces_of m (after_sessions m (start_of b.state) finished) steps)) []))
    → new.handed ≡ old.handed → HasServed m b new given (finished ++ under_way steps link ∷ []) n
ends_heard {State} {Request} m b old new given held finished steps n link ended calls g time connections none not_saying whole on_time handed =
    let going = open-going m steps g.stay in
    let pieces = pieces_of m (after_sessions m (start_of b.state) finished) steps in
    let quiet = quiet_calls State Request m b _ true false old new g.reached time in
    let traces = trace-link m b.state finished steps Whole link in
    ends_with m b new given finished (under_way steps link) n g.connections _
    (last_changed (after_end link ended calls) b.before g.connections _ _ _ g.connections_are connections)
    g.served g.unstopped
    (record {
      rest = [];
      steps = g.steps_are;
      few = omega (arith, g.few, g.answers);
      heard = ap (λ u. texts_of steps ++ u) none;
      told = subst (λ s. IsTold s link (bytes_of_pieces pieces) pieces) (sym going.failure) (told-whole link pieces not_saying);
      ends = ends-open m (length steps - 1) steps link ended [] g.stay (record { none_left = λ _. refl; to_the_end = whole });
      unheard = heard-marks link (has_hearing_failed link) refl;
      unsaid = said-marks link false (unsaid-none link not_saying);
      owes = on_time.owes;
      last = on_time.last;
    })
    (g.given_is ∙ ap (λ l. b.given ++ l) (moments-link m b.state finished steps Whole link))
    (g.counts ∙ counts-link m b.state finished steps Whole link)
    (subst (λ w. Reached m b (trace_of m b.state (finished ++ under_way steps link ∷ [])) false w new) (sym going.writing)
    (parts_suffice State Request m b _ true false new (subst (λ t. Reached m b t true false new) traces quiet)))
    (subst (λ t. All m.good (states_of t)) traces g.good)
    (λ on. subst (HasHanded m b (finished ++ under_way steps link ∷ [])) (sym handed) (handed_link finished steps Whole link g.handed))

-- ---- between two connections

-- a call that changes nothing of what a crash leaves, nor of the connections
pub served_quiet : {State Request : Type 0} (m : Machine State Request) (b : Beginning State) (old new : Device) (given : List ℕ)
    (sessions : List (Session Request)) (n : RunCounts) → HasServed m b old given sessions n → Elapses Unchanged Unchanged old new
    → new.link.connections ≡ old.link.connections → new.handed ≡ old.handed → HasServed m b new given sessions n
served_quiet {State} {Request} m b old new given sessions n h time same handed = record {
  connections = h.connections;
  connections_are = same ∙ h.connections_are;
  served = h.served;
  given_is = h.given_is;
  counts = h.counts;
  reached = quiet_calls State Request m b _ false (run_stops_writing sessions) old new h.reached time;
  good = h.good;
  handed = λ on. subst (HasHanded m b sessions) (sym handed) (h.handed on);
}

-- a run begins
pub served_none : {State Request : Type 0} (m : Machine State Request) (b : Beginning State) (d : Device) → IsDevice d → d.honest ≡ true → d.tells ≡ true
    → d.link.connections ≡ b.before → d.moment ≡ b.moment → ((p : Left) → may_leave d p → m.stands p.image b.state) → m.good b.state
    → d.handed ≡ b.handed → HasServed m b d b.given [] (record { answers = 0; changes = 0; skipped = 0 })
served_none {State} {Request} m b d sound honest tells connections moment stands good handed = record {
  connections = [];
  connections_are = connections ∙ sym (append-nil b.before);
  served = tt;
  given_is = sym (append-nil b.given);
  counts = refl;
  reached = runs_begin State Request m b d sound honest tells connections moment stands;
  good = All-cons m.good b.state [] good (All-nil m.good);
  handed = λ on. record { least = omega (arith, handed); most = omega (arith, handed) };
}

-- What was served is a run that has ended.
pub has_run : {State Request : Type 0} (m : Machine State Request) (b : Beginning State) (d : Device) (given : List ℕ) (sessions : List (Session Request))
    (n : RunCounts) → HasServed m b d given sessions n → IsDevice d → d.honest ≡ true → d.shows ≡ true → d.tells ≡ true → Ran m b sessions d given
has_run m b d given sessions n h sound honest shows tells = record {
  connections = h.connections;
  connections_are = h.connections_are;
  given_is = h.given_is;
  served = h.served;
  right = h.reached.right;
  stands = (h.reached.now (read_with d (sound.itself shows).0) (sound.itself shows).1).stands;
  good = h.good;
}
