-- What one attempt leaves of a delivery, by its calls.
use Rattle.std.proofs.Common.{◌≡◌, ◌≤◌, ◌<◌, ◌+◌, ◌^◌, ℕ, Bool, true, false, cond, List, [], ◌∷◌, ◌++◌, length, Option, Some, None, Ok, Err, Result, inr, refl, sym, ap, subst, ◌∙◌, arith}
use Rattle.connection_loop.specs.Endings.{TellsAll}
use Rattle.disk_trait.specs.Calls.{DiskCalls}
use Rattle.disk_trait.specs.Device.{Device, Dials, IsDevice}
use Rattle.site_edge.specs.Clocks.{IsMoment}
use Rattle.change_codec.specs.Fitting.{fits}
use Rattle.hook_delivery.specs.Exchanging.{HasExchanged}
use Rattle.hook_delivery.specs.declared.exchanging.Answered.{Answered}
use Rattle.media_rows.specs.declared.change.Change.{Change}
use Rattle.media_rows.specs.declared.change.Change.TheVariants.{Delivered}
use Rattle.media_rows.specs.declared.hook.HookRow.{HookRow}
use Rattle.media_rows.specs.Good.{Good}
use Rattle.media_store.specs.Changes.{IsNextIf, MakesIf}
use Rattle.media_store.specs.Deliveries.{delivery_of}
use Rattle.media_store.specs.declared.fault.StoreFault.{StoreFault}
use Rattle.media_store.specs.declared.fault.StoreFault.TheVariants as faults
use Rattle.media_store.specs.Faults.{OnCalls, OnDisk, OnMemory, not_disk_fault}
use Rattle.media_store.specs.Stores.{StoreSeen, journal_of}
use Rattle.run_history.specs.Runs.{Beginning}
use Rattle.run_history.specs.Steps.{last_or}
use Rattle.store_states.specs.Kept.{AgreesWith}
use Rattle.store_states.specs.States.{StoreState}
use Rattle.tams_machine.specs.Answers.{journal_of_state}
use Rattle.store_delivery.specs.declared.due.Sending.{Sending}
use Rattle.store_delivery.specs.declared.sending.Sent.TheVariants.{Gone, Kept, Full}
use Rattle.store_delivery.specs.Attempts.{accepts}
use Rattle.store_delivery.specs.Deliveries.{HasDelivered}
use Rattle.store_delivery.specs.Within.Due.{IsSending}
use Rattle.store_delivery.specs.Within.Underway.{HasSent, IsUnderway, Progress, most_given}
use Rattle.store_delivery.proofs.Ending.{pending_ends}
use Rattle.store_delivery.proofs.Lists.{length_more}
use Rattle.store_delivery.proofs.Progressing.{goes_on, has_tried, later, made_attempt, not_accepted, torn}

abbrev failed : StoreFault → Result Bool StoreFault
failed fault = Err fault

fault_is : (f g : StoreFault) → failed f ≡ failed g → f ≡ g
fault_is f g e = cc

module _ (b : Beginning StoreState) (dials : Dials) (old mid : Device) (given : List ℕ) (store : StoreSeen) (at : ℕ) (h : Progress) (hook : HookRow)
    (sending : Sending) (answer : Answered) (clock : Bool) (device : IsDevice old) (mid_device : IsDevice mid) (all : TellsAll old clock)
    (good : Good store.kept.library) (w : IsUnderway b dials old given store at h) (due : IsSending store.kept.library at hook sending)
    (did : HasExchanged sending.out.port sending.out.bytes answer old mid) where
  -- it wasn't accepted
  pub sent_kept : accepts answer ≡ false → HasSent b dials mid clock given store at h hook.serial (Ok Kept)
  sent_kept un = (
    all.clock_tells,
    (
      record h { attempts = h.attempts ++ made_attempt b dials old mid given store at h hook sending answer device all.honest all.tells w due did ∷ [] },
      not_accepted b dials old mid given store at h hook sending answer device all.honest all.tells w due did good un,
      refl,
    ),
  )

  -- It was accepted.
  module _ (new : Device) (next : StoreSeen) (moment : ℕ) (clock_then : Bool) (given_then : List ℕ) (accepted : accepts answer ≡ true)
      (few : length given ≤ most_given) (in_time : IsMoment moment)
      (lasts : clock ≡ true → length given + 1 < 2 ^ 64 → clock_then ≡ true) (gives : clock_then ≡ true → given_then ≡ given ++ moment ∷ []) where
    clock_is : clock_then ≡ true
    clock_is = lasts all.clock_tells (omega (arith, few))

    given_is : given_then ≡ given ++ moment ∷ []
    given_is = gives clock_is

    -- what is known where its change fits
    module _ (ok : Bool) (fit : fits (journal_of store.kept) (Delivered moment sending.event) ≡ true)
        (makes : mid.honest ≡ true → mid.shows ≡ true → (held : List (List ℕ)) → AgreesWith mid store.kept held
        → MakesIf ok (delivery_of (journal_of store.kept) sending.event moment) store.kept next.kept held mid new)
        (calls : DiskCalls ok mid new) where
      fit_event : fits (journal_of store.kept) (Delivered moment due.event.serial) ≡ true
      fit_event = ap (λ n. fits (journal_of store.kept) (Delivered moment n)) (sym due.serial) ∙ fit

      change_is : delivery_of (journal_of store.kept) sending.event moment ≡ Some (Delivered moment due.event.serial)
      change_is =
          ap (λ n. delivery_of (journal_of store.kept) n moment) due.serial
          ∙ ap (λ (t : Bool). cond t (Some (Delivered moment due.event.serial)) None) fit_event

      made : MakesIf ok (Some (Delivered moment due.event.serial)) store.kept next.kept (last_or b.state h.states).archive.held mid new
      made =
          subst (λ (change : Option Change). MakesIf ok change store.kept next.kept (last_or b.state h.states).archive.held mid new) change_is
          (makes (did.call.same.honest ∙ all.honest) (did.call.same.shows ∙ all.shows) (last_or b.state h.states).archive.held
          (has_tried b dials old mid given store at h hook sending answer device all.honest all.tells w due did).stands.agrees)

      -- it goes
      pub sent_gone : ok ≡ true → IsNextIf store.kept (delivery_of (journal_of store.kept) sending.event moment) next.kept
          → HasSent b dials new clock_then given_then next at h hook.serial (Ok Gone)
      sent_gone is is_next = (
        clock_is,
        (
          later b dials old mid given store at h hook sending answer device all.honest all.tells w due did moment accepted
              in_time good fit_event,
          subst (λ (ms : List ℕ). IsUnderway b dials new ms next at
              (later b dials old mid given store at h hook sending answer device all.honest all.tells w due did moment accepted
              in_time good fit_event)) (sym given_is)
              (goes_on b dials old mid given store at h hook sending answer device all.honest all.tells w due did moment accepted in_time good fit_event new next.kept ok
              mid_device made next is refl
              (subst (λ (change : Option Change). IsNextIf store.kept change next.kept) change_is is_next) calls.link),
          length_more h.events due.event,
        ),
      )

      -- the disk failed
      pub sent_torn : IsDevice new → HasDelivered b dials new given_then (Err faults.Disk)
      sent_torn new_device =
          subst (λ (ms : List ℕ). HasDelivered b dials new ms (Err faults.Disk)) (sym given_is)
          (torn b dials old mid given store at h hook sending answer device all.honest all.tells w due did moment accepted in_time good fit_event new next.kept ok
          mid_device made new_device (calls.same.shows ∙ did.call.same.shows ∙ all.shows) calls.link)

    -- its change has no room
    pub sent_full : fits (journal_of store.kept) (Delivered moment sending.event) ≡ false → new ≡ mid
        → HasSent b dials new clock_then given_then next at h hook.serial (Ok Full)
    sent_full none same =
        let x = made_attempt b dials old mid given store at h hook sending answer device all.honest all.tells w due did in
        subst (λ (ms : List ℕ). HasDelivered b dials new ms (Ok (record { delivered = length h.events; full = true }))) (sym given_is)
        (subst (λ (d : Device). HasDelivered b dials d (given ++ moment ∷ []) (Ok (record { delivered = length h.events; full = true }))) (sym same)
        (pending_ends b dials old mid given store at h x w
        (has_tried b dials old mid given store at h hook sending answer device all.honest all.tells w due did) accepted mid_device
        (did.call.same.shows ∙ all.shows) moment in_time (Ok (record { delivered = length h.events; full = true })) (
          refl,
          refl,
          inr (
            refl,
            (
              due.event,
              moment,
              record { events_are = refl; moments_are = refl },
              ap (λ (s : StoreState). fits (journal_of_state s) (Delivered moment due.event.serial)) w.stands.state
                  ∙ ap (λ n. fits (journal_of store.kept) (Delivered moment n)) (sym due.serial) ∙ none,
            ),
          ),
        )))

    -- there was no memory for it
    pub sent_starved : new ≡ mid → HasDelivered b dials new given_then (Err faults.Memory)
    sent_starved same =
        let x = made_attempt b dials old mid given store at h hook sending answer device all.honest all.tells w due did in
        subst (λ (ms : List ℕ). HasDelivered b dials new ms (Err faults.Memory)) (sym given_is)
        (subst (λ (d : Device). HasDelivered b dials d (given ++ moment ∷ []) (Err faults.Memory)) (sym same)
        (pending_ends b dials old mid given store at h x w
        (has_tried b dials old mid given store at h hook sending answer device all.honest all.tells w due did) accepted mid_device
        (did.call.same.shows ∙ all.shows) moment in_time (Err faults.Memory)
        (refl, inr (due.event, moment, record { events_are = refl; moments_are = refl }))))

    -- how the change failed
    pub sent_failed : {Same : Type 0} → (Same → new ≡ mid) → (result : Result Bool StoreFault) (fault : StoreFault) → result ≡ Err fault → IsDevice new
        → OnDisk result (fits (journal_of store.kept) (Delivered moment sending.event) ≡ true)
        → (mid.honest ≡ true → mid.shows ≡ true → (held : List (List ℕ)) → AgreesWith mid store.kept held
        → OnCalls result (λ ok. MakesIf ok (delivery_of (journal_of store.kept) sending.event moment) store.kept next.kept held mid new))
        → OnMemory result Same → DiskCalls (not_disk_fault result) mid new → HasDelivered b dials new given_then (Err fault)
    sent_failed stays (Ok done) fault is new_device failing makes same calls = absurd cc
    sent_failed stays (Err faults.Disk) fault is new_device failing makes same calls =
        subst (λ (f : StoreFault). HasDelivered b dials new given_then (Err f)) (fault_is faults.Disk fault is) (sent_torn false failing makes calls new_device)
    sent_failed stays (Err faults.Memory) fault is new_device failing makes same calls =
        subst (λ (f : StoreFault). HasDelivered b dials new given_then (Err f)) (fault_is faults.Memory fault is) (sent_starved (stays same))
