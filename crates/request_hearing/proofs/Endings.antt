-- How a connection ends with what was heard: behind a whole request, or within one that had its interim response at most.
use Rattle.std.proofs.Common.{◌≡◌, ◌≢◌, ◌+◌, ◌&&◌, ◌||◌, not, ℕ, Bool, true, false, List, [], ◌∷◌, ◌++◌, map, Option, None, refl, sym, ap, ◌∙◌, subst, arith}
use Rattle.std.specs.Prelude.{option_to_list, is_some}
use Rattle.std.proofs.lemmas.Bool.{false≢true}
use Rattle.std.proofs.lemmas.List.{append-nil, append_assoc}
use Rattle.std.proofs.lemmas.List.Concat.{flat_map-append}
use Rattle.std.proofs.lemmas.List.Elements.{All-nil}
use Rattle.disk_trait.specs.Device.{Connection, Device, HearCall}
use Rattle.site_edge.specs.Links.{Sends, change_last}
use Rattle.run_history.specs.Machine.{Machine}
use Rattle.run_history.specs.Steps.{Cut, Effect, Interim, Piece, Stage, Step, interim_pieces, piece_bytes, telling}
use Rattle.run_history.specs.Sessions.{Hearing, IsTold, IsUnfinished, LinkEnd, Saying, Session, Whole, answers_in, bytes_of_pieces, texts_of}
use Rattle.run_history.specs.Traces.{Trace, start_of, trace_of}
use Rattle.run_history.specs.Runs.{Beginning}
use Rattle.run_history.specs.Laws.{under_way}
use Rattle.run_history.specs.Serving.{Going, HasServed, Held, RunCounts, connection_with}
use Rattle.run_history.specs.Parts.{after_sessions, has_hearing_failed, has_link_failed, has_saying_failed, pieces_of}
use Rattle.run_history.specs.Growing.{with_effect}
use Rattle.run_history.specs.Reaching.{Reached}
use Rattle.run_history.proofs.Growth.{trace-same}
use Rattle.run_history.proofs.Invariant.{parts_suffice}
use Rattle.run_history.proofs.Handed.{handed_more}
use Rattle.run_history.proofs.Going.{after_end, counts-same, ends_heard, last_changed}
use Rattle.tams_machine.specs.Requests.{interim_text}
use Rattle.std.specs.List.{AllByRecursion}
use Rattle.run_history.proofs.Hearings.{EndsOnTime, ends-steps}
use Rattle.request_hearing.specs.Hearing.{HearPart, HearsAndSays, after_hearing, interim_bytes, interim_where, place_call, with_interim}
use Rattle.request_hearing.specs.Asking.{IsUnderWay, WaitsFor}
use Rattle.request_hearing.proofs.Asking.{under_way-going}
use Rattle.request_hearing.proofs.AskingHearings.{ends_parts}
use Rattle.request_hearing.proofs.AskingSteps.{counted_effect, ends_with_step, pieces_grown, state_behind, texts_grown}
use Rattle.request_hearing.proofs.SiteLemmas.{change_last-none, sends_none}
use Rattle.request_hearing.proofs.Theorems.{bytes-interim, reached_heard, says_nothing}

-- no saying failed on a connection
abbrev pub saying_held_on : LinkEnd → Bool
saying_held_on Whole = true
saying_held_on Hearing = true
saying_held_on Saying = false

-- a step that tells the interim response at most, and changes nothing
pub effect-interim : {State : Type 0} (said : Bool) (moments : List ℕ) (t : Trace State)
    → with_effect (telling (interim_pieces (interim_where said)) moments) t ≡ with_interim said t
effect-interim true moments t = trace-same t.first _ _ _ _ refl (append-nil t.changes)
effect-interim false moments t = trace-same t.first _ _ _ _ (change_last-none t.scripts) (append-nil t.changes)

pub answers-interim : (said : Bool) → answers_in (interim_pieces (interim_where said)) ≡ 0
answers-interim true = refl
answers-interim false = refl

unheard_is : (link : LinkEnd) → ((saying_held_on link && not (not (has_link_failed link))) || false) ≡ has_hearing_failed link
unheard_is Whole = refl
unheard_is Hearing = refl
unheard_is Saying = refl

unsaid_is : (link : LinkEnd) → (not (saying_held_on link) || false) ≡ has_saying_failed link
unsaid_is Whole = refl
unsaid_is Hearing = refl
unsaid_is Saying = refl

-- where no saying failed
pub unheard_on : (link : LinkEnd) → link ≢ Saying → (not (not (has_link_failed link)) || false) ≡ has_hearing_failed link
unheard_on Whole not_saying = refl
unheard_on Hearing not_saying = refl
unheard_on Saying not_saying = absurd (not_saying refl)

pub unsaid_on : (link : LinkEnd) → link ≢ Saying → false ≡ has_saying_failed link
unsaid_on Whole not_saying = refl
unsaid_on Hearing not_saying = refl
unsaid_on Saying not_saying = absurd (not_saying refl)

-- a hearing failed where no saying did, so that all was said
said_all : (link : LinkEnd) (text sent : List ℕ) → Sends (saying_held_on link) text sent → saying_held_on link && not (not (has_link_failed link)) ≡ true
    → sent ≡ text
said_all Whole text sent sends failed = absurd (false≢true failed)
said_all Hearing text sent sends failed = sends.whole refl
said_all Saying text sent sends failed = absurd (false≢true failed)

pub or_nothing : (x : Bool) → (x || false) ≡ x
or_nothing true = refl
or_nothing false = refl

interim_there : (said : Bool) → said ≡ true → interim_where said ≢ None
interim_there true is none = cc
interim_there false is none = false≢true is

-- what was told of the interim response behind the pieces before it
told_with : (link : LinkEnd) (said : Bool) (sent : List ℕ) (pieces : List Piece) → Sends (saying_held_on link) (interim_bytes said) sent
    → (link ≡ Saying → said ≡ true) → IsTold None link (bytes_of_pieces pieces ++ sent) (pieces ++ interim_pieces (interim_where said))
told_with Whole said sent pieces sends ok =
    ap (λ s. bytes_of_pieces pieces ++ s) (sends.whole refl ∙ sym (bytes-interim said))
    ∙ sym (flat_map-append piece_bytes pieces (interim_pieces (interim_where said)))
told_with Hearing said sent pieces sends ok =
    ap (λ s. bytes_of_pieces pieces ++ s) (sends.whole refl ∙ sym (bytes-interim said))
    ∙ sym (flat_map-append piece_bytes pieces (interim_pieces (interim_where said)))
told_with Saying true sent pieces sends ok = record {
  front = pieces;
  last = Interim interim_text;
  part = sent;
  pieces_are = refl;
  told_is = refl;
  prefix = sends.prefix;
  some = omega arith;
}
told_with Saying false sent pieces sends ok = absurd (false≢true (ok refl))

both_none : (xs ys : List ℕ) → xs ++ ys ≡ [] → (xs ≡ []) × (ys ≡ [])
both_none [] ys is = (refl, is)
both_none (x ∷ xs) ys is = absurd cc

-- a connection that heard and was told nothing more
ended_as : (link : LinkEnd) (ended : Bool) (heard told bytes sent : List ℕ) (parts : List HearPart) (hearings : List HearCall) → bytes ≡ [] → sent ≡ []
    → link ≢ Saying
    → after_hearing parts bytes sent ended (saying_held_on link && not (not (has_link_failed link))) (not (saying_held_on link))
    (connection_with heard told hearings)
    ≡ after_end link ended (hearings ++ map (place_call (connection_with heard told hearings)) parts) (connection_with heard told hearings)
ended_as link ended heard told bytes sent parts hearings none silent not_saying =
    rw (none, silent, append-nil heard, append-nil told, or_nothing ended, unheard_is link, unsaid_is link, ← unsaid_on link not_saying) refl

plus_nothing : (k : ℕ) → k + 0 ≡ k
plus_nothing k = omega arith

-- what a request comes to that was cut
abbrev pub cut_effect : {State : Type 0} → Bool → Option ℕ → Effect State
cut_effect said moment = telling (interim_pieces (interim_where said)) (option_to_list moment)

-- it counts nothing
pub counts-cut : (State Request : Type 0) (n : RunCounts) (said : Bool) (moment : Option ℕ) (text : List ℕ)
    → counted_effect {State = State} {Request = Request} n (cut_effect said moment) (Cut text (interim_where said) moment) ≡ n
counts-cut State Request n said moment text =
    counts-same _ _ (omega (arith, answers-interim said)) (plus_nothing n.changes) (plus_nothing n.skipped)

-- and the state stays
pub cut_state : {State Request : Type 0} {m : Machine State Request} {b : Beginning State} {connections : List Connection} {given : List ℕ} {state : State}
    {taken : ℕ} {finished : List (Session Request)} {steps : List (Step Request)} {n : RunCounts}
    → IsUnderWay m b connections given state taken finished steps n → (said : Bool) (text : List ℕ) (moment : Option ℕ) (link : LinkEnd)
    → (after_sessions m (start_of b.state) (finished ++ under_way (steps ++ Cut text (interim_where said) moment ∷ []) link ∷ [])).state ≡ state
cut_state u said text moment link = state_behind u (Cut text (interim_where said) moment) (cut_effect said moment) refl link

-- A connection under way heard these bytes and was told the interim response at most; then its peer's end came, or a call of its link
-- failed.
module _ {State Request : Type 0} (m : Machine State Request) (b : Beginning State) (old new : Device) (given : List ℕ) (held : Held State)
    (finished : List (Session Request)) (steps : List (Step Request)) (n : RunCounts) (bytes : List ℕ) (said ended : Bool) (link : LinkEnd)
    (g : Going m b old given held finished steps n) {parts : List HearPart}
    (h : HearsAndSays parts bytes said (saying_held_on link) (not (has_link_failed link)) ended old new)
    (waits : AllByRecursion (λ p. WaitsFor m held.taken (held.unread ++ p.heard) p.told) parts)
    (tells : old.tells ≡ true) (at_end : link ≡ Whole → ended ≡ true) where
  abbrev first : Stage State
  first = after_sessions m (start_of b.state) finished

  -- it ends, and each hearing began when nothing was owed
  ends_so : EndsOnTime m first steps (after_hearing parts bytes (h.connections tells).0 ended (saying_held_on link && not (not (has_link_failed link)))
      (not (saying_held_on link)) (connection_with (texts_of steps ++ held.unread) (bytes_of_pieces (pieces_of m first steps)) g.hearings))
  ends_so =
      let so_far = bytes_of_pieces (pieces_of m first steps) in
      ends_parts m first steps g.stay held.taken g.taken held.unread [] g.hearings g.on_time so_far (sym (append-nil so_far)) bytes (interim_bytes said) parts
      waits (saying_held_on link && not (not (has_link_failed link))) (not (saying_held_on link)) ended (h.connections tells).0
      (said_all link (interim_bytes said) (h.connections tells).0 (h.connections tells).1) h.parts_are

  -- Nothing of what it heard was unread: it ends behind a whole request.
  pub ends_behind_request : held.unread ++ bytes ≡ [] → said ≡ false → link ≢ Saying → HasServed m b new given (finished ++ under_way steps link ∷ []) n
  ends_behind_request none silent not_saying =
      let quiet = says_nothing bytes (saying_held_on link) (not (has_link_failed link)) ended old new (rw silent at h) in
      let told = h.connections tells in
      let sent : told.0 ≡ [] = sends_none (saying_held_on link) told.0 (rw silent at told.1) in
      let (unread, heard) = both_none held.unread bytes none in
      let heard_as = after_hearing parts bytes told.0 ended (saying_held_on link && not (not (has_link_failed link))) (not (saying_held_on link)) in
      let now = connection_with (texts_of steps ++ held.unread) (bytes_of_pieces (pieces_of m first steps)) g.hearings in
      let calls = g.hearings ++ map (place_call now) parts in
      let same : heard_as now ≡ after_end link ended calls now =
      ended_as link ended (texts_of steps ++ held.unread) (bytes_of_pieces (pieces_of m first steps)) bytes told.0 parts g.hearings heard sent not_saying in
      ends_heard m b old new given held finished steps n link ended calls g quiet
      (last_changed heard_as b.before g.connections _ new.link.connections old.link.connections g.connections_are told.2
      ∙ ap (λ c. b.before ++ (g.connections ++ c ∷ [])) same
      ∙ sym (last_changed (after_end link ended calls) b.before g.connections _ (change_last (after_end link ended calls) old.link.connections)
      old.link.connections g.connections_are refl))
      unread not_saying at_end (subst (EndsOnTime m first steps) same ends_so) h.call.handed

  module _ (text rest : List ℕ) (moment : Option ℕ) (text_is : held.unread ++ bytes ≡ text ++ rest) (some : text ≢ [])
      (cuts : m.cuts text (record { interim = interim_where said; takes_moment = is_some moment }))
      (unfinished : link ≢ Saying → (rest ≡ []) × IsUnfinished m held.taken text) (saying : link ≡ Saying → said ≡ true) where
    abbrev step : Step Request
    step = Cut text (interim_where said) moment

    -- It ends within a request, which is cut.
    pub ends_within_request : HasServed m b new (given ++ option_to_list moment) (finished ++ under_way (steps ++ step ∷ []) link ∷ []) n
    ends_within_request =
        let told = h.connections tells in
        let so_far = pieces_of m (after_sessions m (start_of b.state) finished) steps in
        let before = trace_of m b.state (finished ++ under_way steps Whole ∷ []) in
        let u = under_way-going g in
        subst (HasServed m b new (given ++ option_to_list moment) (finished ++ under_way (steps ++ step ∷ []) link ∷ []))
        (counts-cut State Request n said moment text)
        (ends_with_step u step (cut_effect said moment) refl new link _ rest (some, cuts) (omega (arith, answers-interim said)) (All-nil m.good)
        (last_changed (after_hearing parts bytes told.0 ended (saying_held_on link && not (not (has_link_failed link))) (not (saying_held_on link)))
        b.before g.connections _ _ _ g.connections_are told.2)
        (append_assoc (texts_of steps) held.unread bytes ∙ ap (λ x. texts_of steps ++ x) text_is ∙ sym (append_assoc (texts_of steps) text rest)
        ∙ ap (λ x. x ++ rest) (sym (texts_grown u step (cut_effect said moment) refl)))
        (record { none_left = λ on. (unfinished on).0; to_the_end = λ is. or_nothing ended ∙ at_end is }, λ on. (unfinished on).1, λ is. interim_there said (saying is))
        (subst (IsTold None link (bytes_of_pieces so_far ++ told.0)) (sym (pieces_grown u step (cut_effect said moment) refl))
        (told_with link said told.0 so_far told.1 saying))
        (unheard_is link)
        (unsaid_is link)
        (ends-steps m first steps (step ∷ []) _ ends_so)
        (subst (λ t. Reached m b t false false new) (sym (effect-interim said (option_to_list moment) before))
        (parts_suffice State Request m b _ (saying_held_on link) false new
        (reached_heard m b before false bytes said (saying_held_on link) (not (has_link_failed link)) ended old new g.reached h)))
        (λ on. handed_more finished steps step Whole Whole new.handed g.handed (omega (arith, h.call.handed)) (omega (arith, h.call.handed))))
