-- A request begins on a connection: what is known of it while it is heard, and while the disk is read and written for it.
use Rattle.std.proofs.Common.{◌≡◌, ◌-◌, ℕ, Bool, true, false, List, [], ◌∷◌, ◌++◌, length, map, refl, sym, ap, ◌∙◌, subst, arith, length-append}
use Rattle.std.proofs.lemmas.List.{append-nil, append_assoc}
use Rattle.disk_trait.specs.Device.{Device, Left, Link}
use Rattle.disk_trait.specs.Calls.{Elapses, Unchanged}
use Rattle.site_edge.specs.Links.{change_last}
use Rattle.site_edge.specs.Saying.{ArePrefixes}
use Rattle.run_history.specs.Machine.{Machine}
use Rattle.run_history.specs.Steps.{Stage, Step, last_or}
use Rattle.run_history.specs.Sessions.{Session, Whole, after_steps, bytes_of_pieces, texts_of}
use Rattle.run_history.specs.Traces.{Trace, start_of, state_after, state_now, trace_of}
use Rattle.run_history.specs.Runs.{Beginning, IsRight}
use Rattle.run_history.specs.Laws.{Wrote, under_way}
use Rattle.run_history.specs.Serving.{Going, Held, RunCounts, connection_with}
use Rattle.run_history.specs.Parts.{after_sessions, all_changes, changes_of, pieces_of}
use Rattle.run_history.specs.Growing.{CountAtMost, then_change}
use Rattle.run_history.specs.Reaching.{Reached, told_first}
use Rattle.run_history.proofs.Pieces.{begun-most}
use Rattle.run_history.proofs.Pairs.{calls_add_up, state_after-change}
use Rattle.run_history.proofs.Growth.{last_or-append, stages_count}
use Rattle.run_history.proofs.Ends.{stage-sessions}
use Rattle.run_history.proofs.Going.{last_changed}
use Rattle.run_history.proofs.Invariant.{quiet_calls, state_now-after}
use Rattle.std.specs.List.{AllByRecursion}
use Rattle.request_hearing.specs.Hearing.{HearPart, HearsAndSays, IsPartOf, after_hearing, interim_bytes, place_call, with_interim}
use Rattle.request_hearing.specs.Asking.{Asking, IsUnderWay, Open, WaitsFor, asked_trace, with_states}
use Rattle.request_hearing.proofs.AskingHearings.{goes_parts}
use Rattle.request_hearing.proofs.SiteLemmas.{sends_none}
use Rattle.request_hearing.proofs.Theorems.{reached_heard}

-- ---- the states of a trace

-- changes more are the last ones
pub state_now-states : {State : Type 0} (t : Trace State) (states : List State) → state_now (with_states states t) ≡ last_or (state_now t) states
state_now-states t states = sym (last_or-append t.first t.changes states)

-- and the one before a change is the last one so far
pub state_before-change : {State : Type 0} (t : Trace State) (s : State) → state_after (length (t.changes ++ s ∷ []) - 1) (then_change s t) ≡ state_now t
state_before-change t s =
    let count : length (t.changes ++ s ∷ []) - 1 ≡ length t.changes = omega (arith, length-append t.changes (s ∷ [])) in
    ap (λ k. state_after k (then_change s t)) count ∙ state_after-change t s (length t.changes) (omega arith) ∙ state_now-after t

-- the state after connections is the last one of their trace
state-sessions : {State Request : Type 0} (m : Machine State Request) (at : Stage State) (sessions : List (Session Request))
    → (after_sessions m at sessions).state ≡ last_or at.state (all_changes m at sessions)
state-sessions m at [] = refl
state-sessions {State} {Request} m at (x ∷ sessions) =
    let next = after_steps m at x.steps in
    state-sessions m next sessions
    ∙ ap (λ s. last_or s (all_changes m next sessions)) (stages_count State Request m at x.steps).1
    ∙ last_or-append at.state (changes_of m at x.steps) (all_changes m next sessions)

pub changes-interim : {State : Type 0} (said : Bool) (t : Trace State) → (with_interim said t).changes ≡ t.changes
changes-interim true t = refl
changes-interim false t = refl

state_now-interim : {State : Type 0} (said : Bool) (t : Trace State) → state_now (with_interim said t) ≡ state_now t
state_now-interim true t = refl
state_now-interim false t = refl

module _ {State Request : Type 0} {m : Machine State Request} {b : Beginning State} {old : Device} {given : List ℕ} {held : Held State} {said : Bool}
    {finished : List (Session Request)} {steps : List (Step Request)} {n : RunCounts} where
  -- The state of a connection under way is the last one of its trace.
  pub state_now-open : Open m b old given held said finished steps n → state_now (asked_trace m b said finished steps) ≡ held.state
  state_now-open o =
      state_now-interim said (trace_of m b.state (finished ++ under_way steps Whole ∷ []))
      ∙ sym (state-sessions m (start_of b.state) (finished ++ under_way steps Whole ∷ []))
      ∙ ap (λ (s : Stage State). s.state) (stage-sessions m (start_of b.state) finished (under_way steps Whole))
      ∙ sym o.so_far.state_is

  pub state_now-asking : Asking m b old given held said finished steps n → state_now (asked_trace m b said finished steps) ≡ held.state
  state_now-asking a = state_now-open a.begun

-- ---- what a crash leaves

-- an image that stands for the last state is right
right-last : {State Request : Type 0} (m : Machine State Request) (b : Beginning State) (t : Trace State) (told : List (List ℕ)) (p : Left)
    → CountAtMost (length t.changes) t.scripts → p.told ≡ told_first b ++ told → ArePrefixes told (map bytes_of_pieces t.scripts) → m.stands p.image
    (state_now t)
    → IsRight m b t p
right-last m b t told p counts told_is prefixes stands = record {
  told = told;
  told_is = told_is;
  left = record {
    count = length t.changes;
    within = omega arith;
    stands = subst (m.stands p.image) (sym (state_now-after t)) stands;
    acknowledged = begun-most t.scripts told (length t.changes) counts;
    prefixes = prefixes;
  };
}

-- A run that has come so far has come as far behind a call that may change the image, which stands for the same state.
pub kept_calls : {State Request : Type 0} (m : Machine State Request) (b : Beginning State) (t : Trace State) (whole : Bool) (old new : Device)
    → Reached m b t whole false old → Elapses (Wrote m (state_now t)) (Wrote m (state_now t)) old new → Reached m b t whole false new
kept_calls {State} {Request} m b t whole old new r time = record {
  counts = r.counts;
  right = calls_add_up State Request m b t (Wrote m (state_now t)) (Wrote m (state_now t)) old new r.right time (λ q p could wrote.
      let n = r.now q could in
      right-last m b t n.told p r.counts (wrote.told ∙ n.told_is) n.prefixes wrote.image);
  now = λ p could.
      let from = time.now p could in
      let n = r.now from.0 from.1 in
      record {
        told = n.told;
        told_is = from.2.told ∙ n.told_is;
        prefixes = n.prefixes;
        same_length = n.same_length;
        all = n.all;
        stands = from.2.image;
      };
}

-- ---- a request that has begun

module _ {State Request : Type 0} {m : Machine State Request} {b : Beginning State} {d : Device} {given : List ℕ} {held : Held State}
    {finished : List (Session Request)} {steps : List (Step Request)} {n : RunCounts} where
  -- what is known of a connection under way, apart from the device
  pub under_way-going : (g : Going m b d given held finished steps n) → IsUnderWay m b g.connections given held.state held.taken finished steps n
  under_way-going g = record {
    served = g.served;
    unstopped = g.unstopped;
    given_is = g.given_is;
    steps_are = g.steps_are;
    stay = g.stay;
    taken_is = g.taken;
    answers = g.answers;
    few = g.few;
    state_is = g.state;
    counts = g.counts;
    good = g.good;
  }

module _ {State Request : Type 0} {m : Machine State Request} {b : Beginning State} {old new : Device} {given : List ℕ} {held : Held State}
    {finished : List (Session Request)} {steps : List (Step Request)} {n : RunCounts} where
  -- It begins: these bytes were heard behind the unread ones, and its interim response was said where one was due.
  pub asking_first : {parts : List HearPart} (bytes : List ℕ) (said : Bool) → Going m b old given held finished steps n
      → HearsAndSays parts bytes said true true false old new
      → AllByRecursion (λ p. WaitsFor m held.taken (held.unread ++ p.heard) p.told) parts → old.tells ≡ true
      → Asking m b new given (record held { unread = held.unread ++ bytes }) said finished steps n
  asking_first {parts} bytes said g h waits tells =
      let told = h.connections tells in
      let so_far = bytes_of_pieces (pieces_of m (after_sessions m (start_of b.state) finished) steps) in
      let hearings = g.hearings ++ map (place_call (connection_with (texts_of steps ++ held.unread) so_far g.hearings)) parts in
      record {
        begun = record {
          connections = g.connections;
          hearings = hearings;
          so_far = under_way-going g;
          connections_are =
              last_changed (after_hearing parts bytes told.0 false false false) b.before g.connections _ _ _ g.connections_are told.2
              ∙ ap (λ sent. b.before ++ (g.connections ++ connection_with ((texts_of steps ++ held.unread) ++ bytes) (so_far ++ sent) hearings ∷ []))
              (told.1.whole refl)
              ∙ ap (λ heard. b.before ++ (g.connections ++ connection_with heard (so_far ++ interim_bytes said) hearings ∷ []))
              (append_assoc (texts_of steps) held.unread bytes);
          on_time = goes_parts m (after_sessions m (start_of b.state) finished) steps g.stay held.taken g.taken held.unread [] g.hearings g.on_time so_far
              (sym (append-nil so_far)) bytes (interim_bytes said) parts waits h.parts_are;
        };
        reached = reached_heard m b _ false bytes said true true false old new g.reached h;
      }

  -- It stays so over calls of the disk.
  pub begun_at : {said : Bool} → Open m b old given held said finished steps n → new.link ≡ old.link → Open m b new given held said finished steps n
  begun_at o link = record {
    connections = o.connections;
    hearings = o.hearings;
    so_far = o.so_far;
    connections_are = ap (λ (l : Link). l.connections) link ∙ o.connections_are;
    on_time = o.on_time;
  }

  module _ {said : Bool} (a : Asking m b old given held said finished steps n) where
    -- More of it was heard, and the run has come as far.
    pub asking_taken : (parts : List HearPart) (bytes : List ℕ)
        → new.link.connections ≡ change_last (after_hearing parts bytes [] false false false) old.link.connections
        → AllByRecursion (IsPartOf bytes [] false) parts
        → AllByRecursion (λ p. WaitsFor m held.taken (held.unread ++ p.heard) (interim_bytes said ++ p.told)) parts
        → Reached m b (asked_trace m b said finished steps) true false new
        → Asking m b new given (record held { unread = held.unread ++ bytes }) said finished steps n
    asking_taken parts bytes heard are waits reached =
        let first = after_sessions m (start_of b.state) finished in
        let so_far = bytes_of_pieces (pieces_of m first steps) ++ interim_bytes said in
        let u = a.begun.so_far in
        let hearings = a.begun.hearings ++ map (place_call (connection_with (texts_of steps ++ held.unread) so_far a.begun.hearings)) parts in
        record {
          begun = record {
            connections = a.begun.connections;
            hearings = hearings;
            so_far = u;
            connections_are =
                last_changed (after_hearing parts bytes [] false false false) b.before a.begun.connections _ _ _ a.begun.connections_are heard
                ∙ ap (λ sent. b.before ++ (a.begun.connections ++ connection_with ((texts_of steps ++ held.unread) ++ bytes) sent hearings ∷ []))
                (append-nil so_far)
                ∙ ap (λ heard. b.before ++ (a.begun.connections ++ connection_with heard so_far hearings ∷ []))
                (append_assoc (texts_of steps) held.unread bytes);
            on_time = goes_parts m first steps u.stay held.taken u.taken_is held.unread (interim_bytes said) a.begun.hearings a.begun.on_time so_far refl
                bytes [] parts waits are;
          };
          reached = reached;
        }

    -- A hearing gave these bytes.
    pub asking_hears : {parts : List HearPart} (bytes : List ℕ) → HearsAndSays parts bytes false true true false old new
        → AllByRecursion (λ p. WaitsFor m held.taken (held.unread ++ p.heard) (interim_bytes said ++ p.told)) parts → old.tells ≡ true
        → Asking m b new given (record held { unread = held.unread ++ bytes }) said finished steps n
    asking_hears {parts} bytes h waits tells =
        let told = h.connections tells in
        asking_taken parts bytes
        (told.2 ∙ ap (λ sent. change_last (after_hearing parts bytes sent false false false) old.link.connections) (sends_none true told.0 told.1))
        h.parts_are waits
        (reached_heard m b (asked_trace m b said finished steps) false bytes false true true false old new a.reached h)

    -- the same connections, and a run that has come as far
    asking-at : new.link ≡ old.link → Reached m b (asked_trace m b said finished steps) true false new → Asking m b new given held said finished steps n
    asking-at link reached = record { begun = begun_at a.begun link; reached = reached }

    -- A run has come as far behind calls after which each image stands for the same state.
    pub reached_kept : Elapses (Wrote m held.state) (Wrote m held.state) old new → Reached m b (asked_trace m b said finished steps) true false new
    reached_kept time =
        kept_calls m b (asked_trace m b said finished steps) true old new a.reached
        (subst (λ s. Elapses (Wrote m s) (Wrote m s) old new) (sym (state_now-asking a)) time)

    -- The disk was written, and each image stands for the same state; a call that failed may have left that, too.
    pub asking_kept : Elapses (Wrote m held.state) (Wrote m held.state) old new → new.link ≡ old.link → Asking m b new given held said finished steps n
    asking_kept time link =
        asking-at link (reached_kept time)

    -- The disk was read.
    pub asking_quiet : Elapses Unchanged Unchanged old new → new.link ≡ old.link → Asking m b new given held said finished steps n
    asking_quiet time link = asking-at link (quiet_calls State Request m b (asked_trace m b said finished steps) true false old new a.reached time)
