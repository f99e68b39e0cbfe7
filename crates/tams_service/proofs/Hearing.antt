-- What a turn leads to by what was heard, where nothing is to be answered; and a request that has begun behind it.
use Rattle.std.proofs.Common.{◌≡◌, ◌≢◌, ℕ, Bool, true, false, List, [], ◌∷◌, ◌++◌, Some, None, refl, sym, ◌∙◌, subst, append-nil, arith}
use Rattle.disk_trait.specs.Device.{Device}
use Rattle.http_wire.specs.Feeds.{Fed}
use Rattle.media_store.specs.Stores.{StoreSeen}
use Rattle.store_states.specs.States.{StoreState}
use Rattle.run_history.specs.Runs.{Beginning}
use Rattle.run_history.specs.Serving.{RunCounts, Going}
use Rattle.run_history.specs.Sessions.{Hearing, Saying, Session, Whole}
use Rattle.run_history.specs.Steps.{Step}
use Rattle.connection_loop.specs.declared.ending.ConnectionEnd.TheVariants as endings
use Rattle.connection_loop.specs.Turns.{EndsAs, held_with}
use Rattle.tams_machine.specs.Machine.{tams_machine}
use Rattle.tams_machine.specs.Requests.{TamsRequest}
use Rattle.std.specs.List.{AllByRecursion}
use Rattle.run_history.proofs.Hearings.{each-weaker}
use Rattle.request_hearing.specs.Asking.{WaitsFor}
use Rattle.request_hearing.specs.Hearing.{HearPart, HearsAndSays, HearsWaiting, IsUnsaid, IsWaiting, interim_where}
use Rattle.request_hearing.proofs.Asking.{asking_first}
use Rattle.request_hearing.proofs.Theorems.{heard_images, media_unsaid_step, unfinished, unsaid_step, waiting_owes, waiting_step}
use Rattle.tams_service.specs.Answering.{AsksAt, RunPlace}
use Rattle.tams_service.specs.Keeping.{KeepsState}
use Rattle.tams_service.specs.KeepingLaws.{keeps_images}
use Rattle.tams_service.proofs.Stepping.{behind_ends, within_ends}

-- what a store keeps stays over a hearing
pub keeps_heard : {parts : List HearPart} (store : StoreSeen) (s : StoreState) (bytes : List ℕ) (said sent held ended : Bool) (old new : Device)
    → KeepsState store old s → HearsAndSays parts bytes said sent held ended old new → KeepsState store new s
keeps_heard store s bytes said sent held ended old new keeps h =
    keeps_images store old new s keeps (record { images = heard_images bytes said sent held ended old new h })

module _ (base : List ℕ) (b : Beginning StoreState) (old new : Device) (given : List ℕ) (s : StoreState) (fed : Fed) (finished : List (Session TamsRequest))
    (steps : List (Step TamsRequest)) (n : RunCounts) (store : StoreSeen) (tells : old.tells ≡ true) (keeps : KeepsState store old s)
    (going : Going (tams_machine base) b old given (held_with s fed.unread fed.requests) finished steps n) (bytes : List ℕ) (said : Bool)
    (parts : List HearPart) (waits : AllByRecursion (HearsWaiting fed.unread []) parts) where
  -- what each hearing waited for
  owed : AllByRecursion (λ p. WaitsFor (tams_machine base) fed.requests (fed.unread ++ p.heard) p.told) parts
  owed = each-weaker _ _ (λ p w. waiting_owes base fed.requests fed.unread p w) parts waits

  -- where the run stands
  abbrev pub here : RunPlace
  here = record {
    base = base;
    beginning = b;
    given = given;
    finished = finished;
    steps = steps;
    taken = fed.requests;
    state = s;
    said = said;
  }

  -- A request has begun.
  pub asks_here : HearsAndSays parts bytes said true true false old new → AsksAt here new (fed.unread ++ bytes) n
  asks_here h = record {
    asking = asking_first bytes said going h owed tells;
    handed = record { before = old.handed; so_far = going.handed; now = omega (arith, h.call.handed) };
  }

  -- The peer's bytes ended behind a request.
  pub ended_leads : HearsAndSays parts bytes said true true true old new → fed.unread ++ bytes ≡ [] → (later : Fed) → IsWaiting (fed.unread ++ bytes) said later
      → EndsAs (tams_machine base) b new given (KeepsState store new) finished n endings.Complete
  ended_leads h none later w =
      behind_ends (KeepsState store new) (keeps_heard store s bytes said true true true old new keeps h) bytes said true Whole going h owed tells (λ _. refl) none
      (w.silent none) (λ same. cc)

  -- They ended within one.
  pub cut_leads : HearsAndSays parts bytes said true true true old new → fed.unread ++ bytes ≢ [] → (later : Fed) → IsWaiting (fed.unread ++ bytes) said later
      → EndsAs (tams_machine base) b new given (KeepsState store new) finished n endings.Cut
  cut_leads h some later w =
      let text = fed.unread ++ bytes in
      let step = waiting_step base fed.requests s text said later some w in
      subst (λ g. EndsAs (tams_machine base) b new g (KeepsState store new) finished n endings.Cut) (append-nil given)
      (within_ends (KeepsState store new) (keeps_heard store s bytes said true true true old new keeps h) bytes said true Whole text [] None going h owed tells
      (λ _. refl) (sym (append-nil text)) some step.1 (λ _. (refl, unfinished base fed.requests text w.next)) (λ same. absurd cc))

  -- A hearing failed.
  pub unheard_leads : HearsAndSays parts bytes said true false false old new → (later : Fed) → IsWaiting (fed.unread ++ bytes) said later
      → EndsAs (tams_machine base) b new given (KeepsState store new) finished n endings.Unlinked
  unheard_leads h later w = by_text (fed.unread ++ bytes) refl
    where
      kept : KeepsState store new s
      kept = keeps_heard store s bytes said true false false old new keeps h

      by_text : (text : List ℕ) → fed.unread ++ bytes ≡ text → EndsAs (tams_machine base) b new given (KeepsState store new) finished n endings.Unlinked
      by_text [] none =
          behind_ends (KeepsState store new) kept bytes said false Hearing going h owed tells (λ same. absurd cc) none (w.silent none) (λ same. cc)
      by_text (x ∷ xs) is =
          let some : fed.unread ++ bytes ≢ [] = λ none. let no : x ∷ xs ≡ [] = sym is ∙ none in cc in
          let step = waiting_step base fed.requests s (fed.unread ++ bytes) said later some w in
          subst (λ g. EndsAs (tams_machine base) b new g (KeepsState store new) finished n endings.Unlinked) (append-nil given)
          (within_ends (KeepsState store new) kept bytes said false Hearing (fed.unread ++ bytes) [] None going h owed tells
          (λ same. absurd cc) (sym (append-nil (fed.unread ++ bytes))) some step.1 (λ _. (refl, unfinished base fed.requests (fed.unread ++ bytes) w.next))
          (λ same. absurd cc))

  -- Saying the interim response failed.
  pub unsaid_leads : HearsAndSays parts bytes said false false false old new → IsUnsaid (fed.unread ++ bytes) said false
      → EndsAs (tams_machine base) b new given (KeepsState store new) finished n endings.Unlinked
  unsaid_leads h u =
      let step = unsaid_step base fed.requests s (fed.unread ++ bytes) said u in
      subst (λ g. EndsAs (tams_machine base) b new g (KeepsState store new) finished n endings.Unlinked) (append-nil given)
      (within_ends (KeepsState store new) (keeps_heard store s bytes said false false false old new keeps h) bytes said false Saying u.text u.rest None going h
      owed tells (λ same. absurd cc) u.text_is u.some
      (subst (λ k. (tams_machine base).cuts u.text (record { interim = interim_where k; takes_moment = false })) (sym u.said_is) step.1)
      (λ not_saying. absurd (not_saying refl)) (λ _. u.said_is))

  -- Saying that of a media PUT failed, which took its moment.
  pub media_unsaid_leads : (moment : ℕ) → HearsAndSays parts bytes said false false false old new → IsUnsaid (fed.unread ++ bytes) said true
      → EndsAs (tams_machine base) b new (given ++ moment ∷ []) (KeepsState store new) finished n endings.Unlinked
  media_unsaid_leads moment h u =
      let step = media_unsaid_step base fed.requests s moment (fed.unread ++ bytes) said u in
      within_ends (KeepsState store new) (keeps_heard store s bytes said false false false old new keeps h) bytes said false Saying u.text u.rest (Some moment)
      going h owed tells (λ same. absurd cc) u.text_is u.some
      (subst (λ k. (tams_machine base).cuts u.text (record { interim = interim_where k; takes_moment = true })) (sym u.said_is) step.1)
      (λ not_saying. absurd (not_saying refl)) (λ _. u.said_is)
