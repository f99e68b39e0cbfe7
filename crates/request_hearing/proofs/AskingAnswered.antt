-- How the request that has begun is answered: what stands behind its interim response, its changes, its reply and the turn behind it.
use Rattle.std.proofs.Common.{◌≡◌, ◌<◌, ◌≤◌, ◌+◌, ◌||◌, not, ℕ, Bool, true, false, List, [], ◌∷◌, ◌++◌, length, Option, None, Some, if◌then◌else◌, refl, sym, ap, ◌∙◌, subst, arith}
use Rattle.std.proofs.lemmas.Bool.{false≢true}
use Rattle.std.proofs.lemmas.List.{append_assoc}
use Rattle.std.proofs.lemmas.List.Concat.{flat_map-append}
use Rattle.disk_trait.specs.Device.{Connection, Device}
use Rattle.site_edge.specs.Links.{Sends, after_say}
use Rattle.run_history.specs.Machine.{BeforeAnswer, Failure, InAnswer, InTurn, Machine}
use Rattle.run_history.specs.Steps.{Effect, Interim, Piece, Reply, Stage, Step, effect, interim_pieces, is_last, last_or, piece_bytes, step_text, telling}
use Rattle.run_history.specs.Sessions.{EndsBy, IsTold, IsToldPart, LinkEnd, Saying, Session, Whole, after_steps, answers_in, bytes_of_pieces, most_answers, stop_of, texts_of}
use Rattle.run_history.specs.Traces.{Trace, start_of, trace_of}
use Rattle.run_history.specs.Runs.{Beginning}
use Rattle.run_history.specs.Laws.{under_way}
use Rattle.run_history.proofs.Hearings.{ends-on_time, ends-steps, on_time-steps}
use Rattle.run_history.specs.Serving.{AreOnTime, Going, HasServed, Held, RunCounts, connection_with}
use Rattle.run_history.specs.Parts.{after_sessions, has_hearing_failed, has_saying_failed, is_in_answer, pieces_of, without_counts}
use Rattle.run_history.specs.Growing.{with_effect}
use Rattle.run_history.specs.Reaching.{Reached}
use Rattle.run_history.proofs.Pieces.{bytes-push}
use Rattle.run_history.proofs.Growth.{trace-same}
use Rattle.run_history.proofs.Invariant.{parts_suffice}
use Rattle.run_history.proofs.Ends.{answers-append, open-going}
use Rattle.run_history.proofs.Going.{counts-same, last_changed, made-now}
use Rattle.tams_machine.specs.Requests.{interim_text}
use Rattle.request_hearing.specs.Hearing.{interim_bytes, interim_where, with_interim}
use Rattle.request_hearing.specs.Asking.{IsAnswerStep, answered_trace, asked_trace, counted_more}
use Rattle.request_hearing.proofs.Theorems.{bytes-interim}
use Rattle.request_hearing.proofs.AskingSteps.{counted_effect, ends_with_step, goes_with_step, pieces_grown, state_behind, texts_grown}
use Rattle.request_hearing.proofs.Endings.{answers-interim}
use Rattle.request_hearing.proofs.SiteLemmas.{change_last-twice}

-- a step that has its interim response at most, a reply, and changes before and behind it
effect-answered : {State : Type 0} (said : Bool) (states : List State) (bytes : List ℕ) (made : ℕ) (later : List State) (moments : List ℕ) (t : Trace State)
    → with_effect (record (telling (interim_pieces (interim_where said) ++ Reply bytes (length t.changes + made) ∷ []) moments)
    { changes = states ++ later }) t
    ≡ answered_trace states bytes made later (with_interim said t)
effect-answered true states bytes made later moments t =
    let piece = Reply bytes (length t.changes + made) in
    trace-same t.first _ _ _ _
    (sym (change_last-twice (λ s. s ++ piece ∷ []) (λ s. s ++ Interim interim_text ∷ []) (λ s. s ++ (Interim interim_text ∷ piece ∷ [])) t.scripts
    (λ s. append_assoc s (Interim interim_text ∷ []) (piece ∷ []))))
    (sym (append_assoc t.changes states later))
effect-answered false states bytes made later moments t =
    trace-same t.first _ _ _ _ refl (sym (append_assoc t.changes states later))

-- what was told of the last piece behind the pieces before it: all of it, or a part where a saying failed or the disk within it
told-part : (least : ℕ) (whole : Bool) (front : List Piece) (piece : Piece) (sent : List ℕ) → Sends whole (piece_bytes piece) sent → least ≤ length sent
    → IsToldPart least (bytes_of_pieces front ++ sent) (front ++ piece ∷ [])
told-part least whole front piece sent sends some = record {
  front = front;
  last = piece;
  part = sent;
  pieces_are = refl;
  told_is = refl;
  prefix = sends.prefix;
  some = some;
}

told-held : (linked whole : Bool) (front : List Piece) (piece : Piece) (sent : List ℕ) → Sends whole (piece_bytes piece) sent
    → (linked ≡ true → whole ≡ true) → IsTold None (if linked then Whole else Saying) (bytes_of_pieces front ++ sent) (front ++ piece ∷ [])
told-held true whole front piece sent sends full =
    ap (λ s. bytes_of_pieces front ++ s) (sends.whole (full refl)) ∙ sym (bytes-push front piece)
told-held false whole front piece sent sends full = told-part 0 whole front piece sent sends (omega arith)

-- a failure of the disk elsewhere leaves it as it is
told-elsewhere : (failure : Failure) (linked : Bool) (told : List ℕ) (pieces : List Piece) → is_in_answer (Some failure) ≡ false
    → IsTold None (if linked then Whole else Saying) told pieces → IsTold (Some failure) (if linked then Whole else Saying) told pieces
told-elsewhere (BeforeAnswer w) true told pieces e is = is
told-elsewhere (BeforeAnswer w) false told pieces e is = is
told-elsewhere InAnswer linked told pieces e is = absurd (false≢true (sym e))
told-elsewhere (InTurn w) true told pieces e is = is
told-elsewhere (InTurn w) false told pieces e is = is

told-last : (failure : Option Failure) (linked whole : Bool) (front : List Piece) (piece : Piece) (sent : List ℕ) → Sends whole (piece_bytes piece) sent
    → (linked ≡ true → is_in_answer failure ≡ false → whole ≡ true) → (is_in_answer failure ≡ true → 1 ≤ length sent)
    → IsTold failure (if linked then Whole else Saying) (bytes_of_pieces front ++ sent) (front ++ piece ∷ [])
told-last None linked whole front piece sent sends full some = told-held linked whole front piece sent sends (λ on. full on refl)
told-last (Some (BeforeAnswer w)) linked whole front piece sent sends full some =
    told-elsewhere (BeforeAnswer w) linked _ _ refl (told-held linked whole front piece sent sends (λ on. full on refl))
told-last (Some InAnswer) linked whole front piece sent sends full some = told-part 1 whole front piece sent sends (some refl)
told-last (Some (InTurn w)) linked whole front piece sent sends full some =
    told-elsewhere (InTurn w) linked _ _ refl (told-held linked whole front piece sent sends (λ on. full on refl))

unheard_by : (linked : Bool) → false ≡ has_hearing_failed (if linked then Whole else Saying)
unheard_by true = refl
unheard_by false = refl

unsaid_by : (linked : Bool) → false || not linked ≡ has_saying_failed (if linked then Whole else Saying)
unsaid_by true = refl
unsaid_by false = refl

module _ {State Request : Type 0} {m : Machine State Request} {b : Beginning State} {old new : Device} {given : List ℕ} {held : Held State} {said : Bool}
    {finished : List (Session Request)} {steps : List (Step Request)} {n : RunCounts} {step : Step Request} {bytes : List ℕ} {made : ℕ}
    {states later : List State} {moments rest : List ℕ} {whole linked writing : Bool}
    (s : IsAnswerStep m b old new given held said finished steps n step bytes made states later moments rest whole linked writing) where
  abbrev first : Stage State
  first = after_sessions m (start_of b.state) finished

  abbrev begun : Trace State
  begun = trace_of m b.state (finished ++ under_way steps Whole ∷ [])

  -- its reply counts the changes so far and some of its own
  abbrev piece : Piece
  piece = Reply bytes (length begun.changes + made)

  abbrev comes_to : Effect State
  comes_to = record (telling (interim_pieces (interim_where said) ++ piece ∷ []) moments) { changes = states ++ later }

  this : without_counts (effect m (after_steps m first steps) step) ≡ comes_to
  this =
      s.effect_is (after_steps m first steps) (sym s.begun.so_far.state_is)
      ∙ ap (λ k. record (telling (interim_pieces (interim_where said) ++ Reply bytes (k + made) ∷ []) moments) { changes = states ++ later })
      (made-now m b.state finished steps)

  one_answer : answers_in comes_to.pieces ≡ 1
  one_answer = omega (arith, answers-append (interim_pieces (interim_where said)) (piece ∷ []), answers-interim said)

  counts_are : counted_effect n comes_to step ≡ counted_more n (states ++ later) step
  counts_are = counts-same _ _ (omega (arith, one_answer)) refl refl

  -- the trace with the step
  trace_is : with_effect comes_to begun ≡ answered_trace states bytes made later (asked_trace m b said finished steps)
  trace_is = effect-answered said states bytes made later moments begun

  reached_now : Reached m b (with_effect comes_to begun) whole writing new
  reached_now = subst (λ t. Reached m b t whole writing new) (sym trace_is) s.reached

  -- what the connection was told before the reply, in pieces
  abbrev front : List Piece
  front = pieces_of m first steps ++ interim_pieces (interim_where said)

  front_is : bytes_of_pieces (pieces_of m first steps) ++ interim_bytes said ≡ bytes_of_pieces front
  front_is =
      ap (λ x. bytes_of_pieces (pieces_of m first steps) ++ x) (sym (bytes-interim said))
      ∙ sym (flat_map-append piece_bytes (pieces_of m first steps) (interim_pieces (interim_where said)))

  pieces_are : front ++ piece ∷ [] ≡ pieces_of m first (steps ++ step ∷ [])
  pieces_are =
      append_assoc (pieces_of m first steps) (interim_pieces (interim_where said)) (piece ∷ []) ∙ sym (pieces_grown s.begun.so_far step comes_to this)

  heard_is : texts_of steps ++ held.unread ≡ texts_of (steps ++ step ∷ []) ++ rest
  heard_is =
      ap (λ x. texts_of steps ++ x) s.text ∙ sym (append_assoc (texts_of steps) (step_text step) rest)
      ∙ ap (λ x. x ++ rest) (sym (texts_grown s.begun.so_far step comes_to this))

  -- what it heard and was told
  abbrev connection : Connection
  connection = after_say linked s.told.0 (connection_with (texts_of steps ++ held.unread) (bytes_of_pieces (pieces_of m first steps) ++ interim_bytes said)
      s.begun.hearings)

  connections_are : new.link.connections ≡ b.before ++ (s.begun.connections ++ connection ∷ [])
  connections_are =
      last_changed (after_say linked s.told.0) b.before s.begun.connections _ _ _ s.begun.connections_are s.told.2

  -- the state behind it
  pub answered_state : (link : LinkEnd)
      → (after_sessions m (start_of b.state) (finished ++ under_way (steps ++ step ∷ []) link ∷ [])).state ≡ last_or held.state (states ++ later)
  answered_state link = state_behind s.begun.so_far step comes_to this link

  -- It was said whole, and leaves the connection stay.
  pub answered_goes : whole ≡ true → linked ≡ true → is_last m step ≡ false → held.taken + 1 < most_answers
      → Going m b new (given ++ moments) (record { state = last_or held.state (states ++ later); unread = rest; taken = held.taken + 1 }) finished
      (steps ++ step ∷ []) (counted_more n (states ++ later) step)
  answered_goes all held_on stay few =
      let next : Held State = record { state = last_or held.state (states ++ later); unread = rest; taken = held.taken + 1 } in
      let going = open-going m (step ∷ []) (stay, tt) in
      let written : writing ≡ false = sym s.written ∙ going.writing in
      let told : (bytes_of_pieces (pieces_of m first steps) ++ interim_bytes said) ++ s.told.0 ≡ bytes_of_pieces (pieces_of m first (steps ++ step ∷ [])) =
      ap (λ x. x ++ s.told.0) front_is ∙ ap (λ x. bytes_of_pieces front ++ x) (s.told.1.whole all) ∙ sym (bytes-push front piece)
      ∙ ap bytes_of_pieces pieces_are in
      subst (Going m b new (given ++ moments) next finished (steps ++ step ∷ [])) counts_are
      (goes_with_step s.begun.so_far step comes_to this new rest s.is stay few one_answer s.good s.begun.hearings
      (connections_are
      ∙ ap (λ (o : Bool). b.before ++ (s.begun.connections ++ after_say o s.told.0 (connection_with (texts_of steps ++ held.unread)
      (bytes_of_pieces (pieces_of m first steps) ++ interim_bytes said) s.begun.hearings) ∷ [])) held_on
      ∙ ap (λ x. b.before ++ (s.begun.connections
      ++ connection_with x ((bytes_of_pieces (pieces_of m first steps) ++ interim_bytes said) ++ s.told.0) s.begun.hearings ∷ [])) heard_is
      ∙ ap (λ x. b.before ++ (s.begun.connections ++ connection_with (texts_of (steps ++ step ∷ []) ++ rest) x s.begun.hearings ∷ [])) told)
      (subst (λ heard. AreOnTime m first heard (steps ++ step ∷ []) s.begun.hearings) heard_is
      (on_time-steps m first (texts_of steps ++ held.unread) steps (step ∷ []) s.begun.hearings s.begun.on_time))
      (subst (λ w. Reached m b (with_effect comes_to begun) true w new) written
      (subst (λ w. Reached m b (with_effect comes_to begun) w writing new) all reached_now))
      (s.handed going.stops))

  -- which call of the link failed
  abbrev pub link_behind : LinkEnd
  link_behind = if linked then Whole else Saying

  -- It ends the connection: as an answer that ends it, or since it couldn't be said whole.
  pub answered_ends : EndsBy m held.taken (Some step) link_behind false rest
      → HasServed m b new (given ++ moments) (finished ++ under_way (steps ++ step ∷ []) link_behind ∷ []) (counted_more n (states ++ later) step)
  answered_ends ends =
      subst (HasServed m b new (given ++ moments) (finished ++ under_way (steps ++ step ∷ []) link_behind ∷ [])) counts_are
      (ends_with_step s.begun.so_far step comes_to this new link_behind connection rest s.is (omega (arith, one_answer)) s.good connections_are heard_is
      ends
      (subst (λ t. IsTold (stop_of (Some step)) link_behind t (pieces_of m first (steps ++ step ∷ []))) (ap (λ x. x ++ s.told.0) (sym front_is))
      (subst (IsTold (stop_of (Some step)) link_behind (bytes_of_pieces front ++ s.told.0)) pieces_are
      (told-last (stop_of (Some step)) linked whole front piece s.told.0 s.told.1 s.full s.some)))
      (unheard_by linked) (unsaid_by linked)
      (ends-steps m first steps (step ∷ []) connection (ends-on_time m first steps connection s.begun.on_time))
      (subst (λ w. Reached m b (with_effect comes_to begun) false w new) (sym s.written)
      (parts_suffice State Request m b (with_effect comes_to begun) whole writing new reached_now))
      s.handed)
