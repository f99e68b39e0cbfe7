-- A run of `deliver`: how it begins, and its ends where the store couldn't be opened.
use Rattle.std.proofs.Common.{◌≡◌, ◌≢◌, ◌≤◌, ◌∙◌, ℕ, Bool, true, false, List, [], Result, Ok, Err, map, length, inl, inr, refl, sym, ap, subst, append-nil, arith}
use Rattle.std.proofs.lemmas.List.Elements.{All-nil}
use Rattle.connection_loop.specs.Endings.{TellsAll}
use Rattle.connection_loop.proofs.Turning.{tells_later}
use Rattle.disk_trait.specs.Calls.{DiskReads, LeavesOnly}
use Rattle.disk_trait.specs.Device.{Connection, Device, IsDevice, Left, may_leave}
use Rattle.disk_trait.specs.Forms.{form_in_use}
use Rattle.media_journal.specs.declared.fault.JournalFault.{JournalFault}
use Rattle.media_journal.specs.declared.fault.JournalFault.TheVariants as opening
use Rattle.media_store.specs.declared.fault.StoreFault.{StoreFault}
use Rattle.media_store.specs.declared.fault.StoreFault.TheVariants.{Disk, Memory}
use Rattle.media_store.specs.Faults.{not_disk_fault}
use Rattle.media_store.specs.Stores.{StoreSeen}
use Rattle.run_history.specs.Runs.{Beginning}
use Rattle.store_commits.specs.Carrying.{HasArchive}
use Rattle.store_delivery.specs.declared.delivering.Deliveries.{Deliveries}
use Rattle.store_delivery.specs.Deliveries.{DeliveryEnds, HasDelivered, IsLeftBy}
use Rattle.store_delivery.specs.Within.Underway.{Begins, StandsIn}
use Rattle.store_opening.specs.Laws.{KeptStands, RefusedStandForNone}
use Rattle.store_opening.specs.Opening.{IsKept, bytes_in_image}
use Rattle.store_states.specs.Kept.{AgreesWith, kept_state}
use Rattle.store_states.specs.Laws.{IsOneState}
use Rattle.store_states.specs.States.{StandsFor, StoreState}
use Rattle.tams_outcomes.specs.Statuses.{exit_of, no_disk_fault}
use Rattle.tams_outcomes.specs.Touching.{Untouched}
use Rattle.webhook_outbox.specs.Delivered.{counted}
use Rattle.store_commands.specs.Beginning.{BeginsFrom, beginning, most_given}
use Rattle.store_commands.specs.Delivering.{DeliveredOff, deliver_outcome}
use Rattle.store_commands.specs.DeliverEnds.{DeliverCause, DeliverRun}
use Rattle.store_commands.specs.Opening.{StandsForOne, opening_outcome}
use Rattle.store_commands.proofs.OpeningLemmas.{Answers, no_store, untouched_by}

-- ---- the beginning

-- what a crash leaves of an untouched file that stands for a state
left_untouched : (old new : Device) (clock : Bool) (begun : List ℕ) → IsDevice old → Untouched old new → (from : StoreState) → BeginsFrom from old clock begun
    → (p : Left) → new.left_since old.moment p → IsLeftBy (beginning from old begun) [] [] p
left_untouched old new clock begun sound untouched from start p left =
    elim (untouched.time.since old.moment p (omega arith) left) [
      | inl was ↦ at_rest p was
      | inr (q, could, same) ↦ subst (IsLeftBy (beginning from old begun) [] []) (sym same) (at_rest q could)
    ]
  where
    at_rest : (q : Left) → may_leave old q → IsLeftBy (beginning from old begun) [] [] q
    at_rest q could = record {
      front = [];
      back = [];
      parts = refl;
      begun = [];
      part = tt;
      told = sound.told start.tells.honest start.tells.tells q could
          ∙ sym (append-nil _ ∙ ap (map (λ (c : Connection). c.told)) (append-nil old.link.connections));
      count = 0;
      within = omega arith;
      most = omega arith;
      least = omega arith;
      stands = record { room = from.room; stands = subst (λ (image : List ℕ). StandsFor image from) (sym (start.settled q could)) start.stands };
    }

pub begins_delivering : (old opened : Device) (clock : Bool) (begun : List ℕ) (store : StoreSeen) → IsDevice old → Untouched old opened → (from : StoreState)
    → BeginsFrom from old clock begun → StandsIn store opened from → Begins (beginning from old begun) opened begun store
begins_delivering old opened clock begun store sound untouched from start stands = record {
  begun = untouched.time.later;
  given_is = refl;
  connections = ap (λ l. l.connections) untouched.link;
  stands = stands;
  moments = left_untouched old opened clock begun sound untouched from start;
}

-- nothing was sent
pub nothing_sent : (old new : Device) (clock : Bool) (begun : List ℕ) (end : Result Deliveries StoreFault) (torn : Bool) → IsDevice old → Untouched old new
    → (from : StoreState) → BeginsFrom from old clock begun → DeliveryEnds from [] 0 [] [] torn end
    → HasDelivered (beginning from old begun) old.link.dials new begun end
nothing_sent old new clock begun end torn sound untouched from start ends = record {
  attempts = [];
  made = All-nil _;
  turns = tt;
  connections = ap (λ l. l.connections) untouched.link ∙ sym (append-nil old.link.connections);
  dials_are = ap (λ l. l.dials) untouched.link;
  events = [];
  pending = [];
  accepted = refl;
  times = [];
  states = [];
  gone = (refl, refl);
  removed = λ hook. refl;
  kept = All-nil _;
  idle = [];
  given_is = sym (append-nil begun);
  are_moments = All-nil _;
  torn = torn;
  moments = left_untouched old new clock begun sound untouched from start;
  exit = at_end torn;
  causes = ends;
}
  where
    has : HasArchive from.half from.archive new.seen
    has = record { room = from.room; stands = subst (λ (image : List ℕ). StandsFor image from) (sym untouched.seen) start.stands }

    at_end : (t : Bool) → Rattle.store_delivery.specs.Deliveries.StandsAtEnd t from [] new.seen
    at_end false = has
    at_end true = (0, omega arith, omega arith, has)

-- ---- a run of `deliver`

pub deliver_disk : (waiting : ℕ) (end : Result Deliveries StoreFault) → no_disk_fault (deliver_outcome waiting end) ≡ not_disk_fault end
deliver_disk waiting (Ok done) = refl
deliver_disk waiting (Err Disk) = refl
deliver_disk waiting (Err Memory) = refl

deliver_unrefused : (waiting : ℕ) (end : Result Deliveries StoreFault) → exit_of (deliver_outcome waiting end) ≢ 2
deliver_unrefused waiting (Ok done) s = omega (arith, s)
deliver_unrefused waiting (Err Disk) s = omega (arith, s)
deliver_unrefused waiting (Err Memory) s = omega (arith, s)

deliver_cause : (old new : Device) (waiting : ℕ) (end : Result Deliveries StoreFault) → (old.shows ≡ true → StandsForOne old.seen)
    → DeliverCause old new (deliver_outcome waiting end)
deliver_cause old new waiting (Ok done) stood = stood
deliver_cause old new waiting (Err Disk) stood = tt
deliver_cause old new waiting (Err Memory) stood = tt

module _ (old opened : Device) (clock : Bool) (begun : List ℕ) (sound : IsDevice old) (ok : Bool) (reads : DiskReads ok old opened) where
  untouched : Untouched old opened
  untouched = untouched_by ok old opened reads

  -- The store couldn't be opened.
  failed_cause : (fault : JournalFault) → Answers old fault → DeliverCause old opened (opening_outcome fault)
  failed_cause opening.NotStore answer = (answer, untouched)
  failed_cause (opening.Damaged at) answer = (answer, untouched)
  failed_cause opening.OldForm answer = (answer, untouched)
  failed_cause opening.Disk answer = tt
  failed_cause opening.Memory answer = tt

  failed_history : RefusedStandForNone → (fault : JournalFault) → Answers old fault → (from : StoreState) → BeginsFrom from old clock begun
      → DeliveredOff (beginning from old begun) old opened begun (opening_outcome fault)
  failed_history none opening.NotStore answer from start = absurd (no_store old.seen (answer start.tells.shows) from start.stands)
  failed_history none (opening.Damaged at) answer from start = absurd (none.damaged old.seen at form_in_use from (answer start.tells.shows).1 start.stands)
  failed_history none opening.OldForm answer from start = absurd (none.other old.seen from (answer start.tells.shows) start.stands)
  failed_history none opening.Disk answer from start =
      record { end = Err Disk; delivered = nothing_sent old opened clock begun (Err Disk) true sound untouched from start (refl, refl, refl); line = refl }
  failed_history none opening.Memory answer from start = record {
    end = Err Memory;
    delivered = nothing_sent old opened clock begun (Err Memory) false sound untouched from start (refl, inl (refl, refl));
    line = refl;
  }

  pub deliver_refused_by : RefusedStandForNone → (fault : JournalFault) → Answers old fault → DeliverRun old opened clock begun begun (opening_outcome fault)
  deliver_refused_by none fault answer = record {
    cause = failed_cause fault answer;
    history = failed_history none fault answer;
    closed = λ before. ap (λ l. l.under_way) reads.calls.link ∙ before;
    peers = ap (λ l. l.peer_faults) reads.calls.link;
    unread = λ _. refl;
  }

  -- It was, and its events were sent.
  pub deliver_done : KeptStands → IsOneState → (store : StoreSeen) → (old.shows ≡ true → IsKept old.seen store.kept)
      → (old.shows ≡ true → LeavesOnly old.seen old → AgreesWith opened store.kept (bytes_in_image old.seen store.kept)) → (waiting : ℕ)
      → waiting ≡ counted store.kept.library.outbox.events → (new : Device) (given : List ℕ) (end : Result Deliveries StoreFault)
      → new.link.peer_faults ≡ opened.link.peer_faults → (opened.link.under_way ≡ false → new.link.under_way ≡ false)
      → (TellsAll opened clock → length begun ≤ most_given → (b : Beginning StoreState) → Begins b opened begun store
      → HasDelivered b opened.link.dials new given end)
      → DeliverRun old new clock begun given (deliver_outcome waiting end)
  deliver_done kept_stands one store answer agrees waiting counts new given end peers under_way delivered = record {
    cause = deliver_cause old new waiting end
        (λ shows. (kept_state store.kept (bytes_in_image old.seen store.kept), kept_stands old.seen store.kept (answer shows)));
    closed = λ before. under_way (ap (λ l. l.under_way) reads.calls.link ∙ before);
    peers = peers ∙ ap (λ l. l.peer_faults) reads.calls.link;
    unread = λ s. absurd (deliver_unrefused waiting end s);
    history = λ from start.
        let shows = start.tells.shows in
        let bytes = bytes_in_image old.seen store.kept in
        let is = one old.seen form_in_use form_in_use (kept_state store.kept bytes) from (kept_stands old.seen store.kept (answer shows)) start.stands in
        let stands : StandsIn store opened from = subst (StandsIn store opened) (sym is) (record { agrees = agrees shows start.settled; state = refl }) in
        record {
          end = end;
          delivered = subst (λ dials. HasDelivered (beginning from old begun) dials new given end) (ap (λ l. l.dials) reads.calls.link)
              (delivered (tells_later old opened clock reads.calls.same start.tells) start.few (beginning from old begun)
              (begins_delivering old opened clock begun store sound untouched from start stands));
          line = ap (λ n. deliver_outcome n end)
              (counts ∙ ap (λ (s : StoreState). counted s.archive.library.outbox.events) (sym stands.state));
        };
  }
