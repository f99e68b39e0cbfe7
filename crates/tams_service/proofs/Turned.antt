-- A turn of a connection in which a request was heard and answered, or refused by the wire: what it leads to.
use Rattle.std.proofs.Common.{◌≡◌, ◌<◌, ◌+◌, ℕ, Bool, true, false, List, [], ◌++◌, Option, None, Some, refl, sym, ap, ◌∙◌, subst, append-nil}
use Rattle.std.specs.Prelude.{IsNone, IsSome}
use Rattle.std.proofs.lemmas.Bool.{false≢true}
use Rattle.disk_trait.specs.Calls.{SameDevice}
use Rattle.disk_trait.specs.Device.{Device}
use Rattle.http_wire.specs.Feeds.{Fed}
use Rattle.http_wire.specs.declared.stage.Head.{Head}
use Rattle.http_wire.specs.declared.framing.WireFault.{WireFault}
use Rattle.media_store.specs.Stores.{StoreSeen}
use Rattle.store_states.specs.States.{StoreState}
use Rattle.run_history.specs.Runs.{Beginning}
use Rattle.run_history.specs.Serving.{RunCounts, Going}
use Rattle.run_history.specs.Sessions.{Session}
use Rattle.run_history.specs.Steps.{Step}
use Rattle.connection_loop.specs.declared.ending.ConnectionEnd.{ConnectionEnd}
use Rattle.connection_loop.specs.Turns.{TurnLeads, held_with}
use Rattle.connection_loop.specs.Endings.{TellsAll}
use Rattle.tams_machine.specs.Machine.{tams_machine}
use Rattle.tams_machine.specs.Requests.{TamsRequest, ends_behind}
use Rattle.std.specs.List.{AllByRecursion}
use Rattle.request_hearing.specs.Hearing.{GivesRequest, HearPart, HearsAndSays, HearsWaiting, IsRefusedByWire, OpensMedia}
use Rattle.tams_service.specs.Answering.{MediaLeads, RefuseLeads, TellsAllOf, WholeLeads}
use Rattle.tams_service.specs.Keeping.{KeepsState}
use Rattle.tams_service.specs.Serving.{ServiceSeen}
use Rattle.tams_service.proofs.Finishing.{few_behind}
use Rattle.tams_service.proofs.Hearing.{asks_here, here, keeps_heard}

-- the outside is as the model says behind calls, too
pub tells_behind : (old new : Device) (clock : Bool) → SameDevice old new → TellsAll old clock → TellsAllOf new
tells_behind old new clock same all =
    record { honest = same.honest ∙ all.honest; shows = same.shows ∙ all.shows; tells = same.tells ∙ all.tells }

-- ---- how many requests a connection had

-- a request behind which its connection goes on didn't end it
not_ended : (ends : Bool) (result : Option ConnectionEnd) → (ends ≡ true → IsSome result) → IsNone result → ends ≡ false
not_ended false result closes none = refl
not_ended true None closes none = absurd (false≢true (closes refl))
not_ended true (Some ending) closes none = absurd (false≢true (sym none))

-- so more may come behind one that came whole
pub few_given : (taken next : ℕ) (all : List ℕ) (said : Bool) (fed : Fed) (head : Head) (result : Option ConnectionEnd) → GivesRequest taken all said fed head
    → taken < 1000000 → (head.ends ≡ true → IsSome result) → IsNone result → next ≡ fed.requests → next < 1000000
few_given taken next all said fed head result g few closes none same =
    let goes : ends_behind taken g.request.head ≡ false = sym (g.ends ∙ g.spells.ends_is) ∙ not_ended head.ends result closes none in
    subst (λ n. n < 1000000) (sym (same ∙ g.behind.requests_are)) (few_behind taken g.request.head goes few)

-- and behind a media PUT
pub few_opened : (taken next : ℕ) (all : List ℕ) (said : Bool) (fed : Fed) (head : Head) (result : Option ConnectionEnd) → OpensMedia taken all said fed head
    → taken < 1000000 → (head.ends ≡ true → IsSome result) → IsNone result → next ≡ fed.requests → next < 1000000
few_opened taken next all said fed head result o few closes none same =
    let goes : ends_behind taken o.head ≡ false = sym o.ends ∙ not_ended head.ends result closes none in
    subst (λ n. n < 1000000) (sym (same ∙ o.behind.requests_are)) (few_behind taken o.head goes few)

-- ---- what a turn leads to

module _ (base : List ℕ) (b : Beginning StoreState) (old mid new : Device) (given given_now : List ℕ) (s : StoreState) (fed : Fed)
    (finished : List (Session TamsRequest)) (steps : List (Step TamsRequest)) (n now : RunCounts) (store : StoreSeen) (tells : old.tells ≡ true)
    (keeps : KeepsState store old s) (going : Going (tams_machine base) b old given (held_with s fed.unread fed.requests) finished steps n) (bytes : List ℕ)
    (said : Bool) (parts : List HearPart) (waits : AllByRecursion (HearsWaiting fed.unread []) parts)
    (h : HearsAndSays parts bytes said true true false old mid) where
  -- ---- a request, by what a service is behind its hearing and behind its answer

  module _ (service next : ServiceSeen) (head : Head) (result : Option ConnectionEnd) (same_base : base ≡ service.base) (same_store : service.store ≡ store)
      (few : fed.requests < 1000000) where
    counted_so : next.fed.requests ≡ fed.requests + 1
        → TurnLeads (tams_machine base) b new given_now next.fed.unread (fed.requests + 1) (KeepsState next.store new) finished now result
        → TurnLeads (tams_machine base) b new given_now next.fed.unread next.fed.requests (KeepsState next.store new) finished now result
    counted_so is leads =
        subst (λ k. TurnLeads (tams_machine base) b new given_now next.fed.unread k (KeepsState next.store new) finished now result) (sym is) leads

    kept : KeepsState service.store mid s
    kept = subst (λ k. KeepsState k mid s) (sym same_store) (keeps_heard store s bytes said true true false old mid keeps h)

    pub whole_turn : GivesRequest fed.requests (fed.unread ++ bytes) said service.fed head → next.fed ≡ service.fed
        → WholeLeads service next head mid new given given_now n now result
        → TurnLeads (tams_machine base) b new given_now next.fed.unread next.fed.requests (KeepsState next.store new) finished now result
    whole_turn g same leads =
        counted_so (ap (λ (f : Fed). f.requests) same ∙ g.behind.requests_are)
        (leads (here base b old mid given s fed finished steps n store tells keeps going bytes said parts waits) (fed.unread ++ bytes) same_base refl
        (asks_here base b old mid given s fed finished steps n store tells keeps going bytes said parts waits h) kept g few)

    pub media_turn : OpensMedia fed.requests (fed.unread ++ bytes) said service.fed head → next.fed.requests ≡ service.fed.requests
        → MediaLeads service next head mid new given given_now n now result
        → TurnLeads (tams_machine base) b new given_now next.fed.unread next.fed.requests (KeepsState next.store new) finished now result
    media_turn o same leads =
        counted_so (same ∙ o.behind.requests_are)
        (leads (here base b old mid given s fed finished steps n store tells keeps going bytes said parts waits) (fed.unread ++ bytes) same_base refl
        (asks_here base b old mid given s fed finished steps n store tells keeps going bytes said parts waits h) kept o few)

  -- ---- what the wire refuses

  pub refused_turn : (later : Fed) (fault : WireFault) (ending : ConnectionEnd) (unread : List ℕ) (taken : ℕ) → IsRefusedByWire
      (fed.unread ++ bytes) said later fault
      → RefuseLeads base mid new store n now fault ending
      → TurnLeads (tams_machine base) b new given unread taken (KeepsState store new) finished now (Some ending)
  refused_turn later fault ending unread taken refused leads =
      subst (λ g. TurnLeads (tams_machine base) b new g unread taken (KeepsState store new) finished now (Some ending)) (append-nil given)
      (leads (here base b old mid given s fed finished steps n store tells keeps going bytes said parts waits) later (fed.unread ++ bytes) refl
      (asks_here base b old mid given s fed finished steps n store tells keeps going bytes said parts waits h)
      (keeps_heard store s bytes said true true false old mid keeps h) refused)
