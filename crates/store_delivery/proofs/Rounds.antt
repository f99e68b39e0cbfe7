-- One round of a delivery after the other: what is due to a hook, and what its attempt leaves.
use Rattle.std.proofs.Common.{◌≡◌, ◌≤◌, ◌<◌, ◌+◌, ◌*◌, ℕ, Bool, true, false, List, length, filter, nat_lt, Some, None, Ok, Err, Result, refl, sym, ap, subst, ◌∙◌, arith, length-append}
use Rattle.std.specs.Prelude.{IsFalse}
use Rattle.connection_loop.specs.Endings.{TellsAll}
use Rattle.disk_trait.specs.Calls.{IsCounted, SameDevice}
use Rattle.disk_trait.specs.Device.{Device, Dials, IsDevice}
use Rattle.media_rows.specs.declared.hook.HookRow.{HookRow}
use Rattle.media_rows.specs.Good.{Good}
use Rattle.media_rows.specs.Library.{Library, last_serial}
use Rattle.media_rows.specs.Outbox.{waits_first}
use Rattle.media_store.specs.declared.fault.StoreFault.{StoreFault}
use Rattle.media_store.specs.declared.fault.StoreFault.TheVariants as faults
use Rattle.media_store.specs.Stores.{StoreSeen, size_of}
use Rattle.run_history.specs.Runs.{Beginning}
use Rattle.store_states.specs.States.{StoreState}
use Rattle.webhook_outbox.specs.Ordered.{next_hook}
use Rattle.store_delivery.specs.declared.due.HookDue.{HookDue}
use Rattle.store_delivery.specs.declared.due.Sending.{Sending}
use Rattle.store_delivery.specs.declared.sending.Sent.{Sent}
use Rattle.store_delivery.specs.declared.sending.Sent.TheVariants.{Gone, Kept, Full}
use Rattle.store_delivery.specs.Deliveries.{HasDelivered}
use Rattle.store_delivery.specs.Within.Due.{IsHookDue, IsSending, IsSendingIf, SendsNone}
use Rattle.store_delivery.specs.Within.Underway.{Begins, GoesOn, HasSent, IsUnderway, LeavesFewer, LeavesStore, Progress, most_begun, most_given, no_progress}
use Rattle.store_delivery.proofs.Attempting.{gone_lengths}
use Rattle.store_delivery.proofs.Ending.{all_tried, begins_so, starved}
use Rattle.store_delivery.proofs.Waiting.{events_few, events_fewer, hooks_fewer, waits}

-- ---- what is due

pub due_none : (library : Library) (at : ℕ) (due : HookDue) → (is : IsHookDue library at due) → due.sending ≡ None → SendsNone library is.hook
due_none library at due is none = subst (IsSendingIf library at is.hook) none is.sending

pub due_one : (library : Library) (at : ℕ) (due : HookDue) (sending : Sending) → (is : IsHookDue library at due) → due.sending ≡ Some sending
    → IsSending library at is.hook sending
due_one library at due sending is some = subst (IsSendingIf library at is.hook) some is.sending

pub due_waits : (library : Library) (at : ℕ) (due : HookDue) (sending : Sending) → (is : IsHookDue library at due) → due.sending ≡ Some sending
    → waits_first sending.event library.outbox.events ≡ true
due_waits library at due sending is some =
    let one = due_one library at due sending is some in
    subst (λ n. waits_first n library.outbox.events ≡ true) (sym one.serial) (waits is.hook.serial library.outbox.events one.event one.first one.least)

-- where an event went fewer wait
pub fewer_wait : (old new : StoreSeen) (at : ℕ) (due : HookDue) (sending : Sending) → (is : IsHookDue old.kept.library at due) → due.sending ≡ Some sending
    → (result : Result Sent StoreFault) → LeavesStore sending.event old new result → LeavesFewer old new result
fewer_wait old new at due sending is some (Ok Gone) (unspent, idle, blocks, (moment, library)) =
    let one = due_one old.kept.library at due sending is some in
    let fewer = events_fewer is.hook.serial old.kept.library.outbox.events one.event one.first in
    let left : length new.kept.library.outbox.events < length old.kept.library.outbox.events =
    subst (λ (l : Library). length l.outbox.events < length old.kept.library.outbox.events) (sym library)
    (subst (λ n. length (filter (Rattle.store_delivery.proofs.Waiting.stays n) old.kept.library.outbox.events) < length old.kept.library.outbox.events)
    (sym one.serial) fewer) in
    (unspent, idle, blocks, ap (λ (l : Library). l.outbox.hooks) library, left)
fewer_wait old new at due sending is some (Ok Kept) leaves = leaves
fewer_wait old new at due sending is some (Ok Full) leaves = tt
fewer_wait old new at due sending is some (Err fault) leaves = tt

-- ---- the beginning

pub rounds_begin : (old : Device) (told : Bool) (begun : List ℕ) (store : StoreSeen) → Good store.kept.library → store.spent ≡ false → store.put ≡ None
    → size_of store.kept ≤ old.size → GoesOn old old told told begun begun store store 0 0
rounds_begin old told begun store good unspent idle size = record {
  unspent = unspent;
  idle = idle;
  size_is = size;
  same = record { size = refl; honest = refl; shows = refl; tells = refl };
  faults = refl;
  peers = refl;
  under_way = λ none. none;
  few = let few = events_few store.kept.library good in omega (arith, few);
  working = λ all few b begins. (all.clock_tells, (no_progress, begins_so b old begun store good begins, refl));
}

-- ---- a round

module _ (old now : Device) (told tells : Bool) (begun given : List ℕ) (first_seen store : StoreSeen) (at delivered : ℕ)
    (so_far : GoesOn old now told tells begun given first_seen store at delivered) where
  tells_now : TellsAll old told → length begun ≤ most_begun → (b : Beginning StoreState) → Begins b old begun first_seen → TellsAll now tells
  tells_now all few b begins = record {
    honest = so_far.same.honest ∙ all.honest;
    shows = so_far.same.shows ∙ all.shows;
    tells = so_far.same.tells ∙ all.tells;
    clock_tells = (so_far.working all few b begins).0;
  }

  few_now : TellsAll old told → length begun ≤ most_begun → (b : Beginning StoreState) → Begins b old begun first_seen → length given ≤ most_given
  few_now all few b begins =
      let working = (so_far.working all few b begins).1 in
      let h = working.0 in
      let w = working.1 in
      let counts = gone_lengths b.state h.events h.times h.states w.gone in
      let sizes : length given ≡ length b.given + length h.times = ap length w.given_is ∙ length-append b.given h.times in
      let first_one : length begun ≡ length b.given = ap length begins.given_is in
      omega (arith, sizes, first_one, counts.0, working.2, so_far.few, few)

  -- there is no memory to look what is due
  pub round_starved : IsDevice now → TellsAll old told → length begun ≤ most_begun → (b : Beginning StoreState) → Begins b old begun first_seen
      → HasDelivered b old.link.dials now given (Err faults.Memory)
  round_starved device all few b begins =
      let working = (so_far.working all few b begins).1 in
      starved b old.link.dials now given store at working.0 device (so_far.same.shows ∙ all.shows) working.1

  -- nothing is due any more
  pub rounds_end : IsDevice now → next_hook at store.kept.library.outbox.hooks ≡ None → TellsAll old told → length begun ≤ most_begun
      → (b : Beginning StoreState) → Begins b old begun first_seen
      → HasDelivered b old.link.dials now given (Ok (record { delivered = delivered; full = false }))
  rounds_end device none all few b begins =
      let working = (so_far.working all few b begins).1 in
      all_tried b old.link.dials now given store at working.0 device (so_far.same.shows ∙ all.shows) working.1 delivered (sym working.2) none

  -- What an attempt leaves.
  module _ (new : Device) (next : StoreSeen) (tells_then : Bool) (given_then : List ℕ) (due : HookDue) (is : IsHookDue store.kept.library at due)
      (same : SameDevice now new) (peers : new.link.peer_faults ≡ now.link.peer_faults)
      (under_way : IsFalse now.link.under_way → IsFalse new.link.under_way) where
    abbrev Sends : Result Sent StoreFault → Type 0
    Sends result = TellsAll now tells → (b : Beginning StoreState) → (dials : Dials) → (after : ℕ) → (h : Progress) → IsHookDue store.kept.library after due
        → IsUnderway b dials now given store after h → length given ≤ most_given
        → HasSent b dials new tells_then given_then next after h due.hook result

    sends_so : (result : Result Sent StoreFault) → Sends result → (all : TellsAll old told) (few : length begun ≤ most_begun) (b : Beginning StoreState)
        (begins : Begins b old begun first_seen)
        → HasSent b old.link.dials new tells_then given_then next at ((so_far.working all few b begins).1).0 due.hook result
    sends_so result sends all few b begins =
        let working = (so_far.working all few b begins).1 in
        sends (tells_now all few b begins) b old.link.dials at working.0 is working.1 (few_now all few b begins)

    -- It has failed.
    pub round_fails : (fault : StoreFault) → Sends (Err fault) → TellsAll old told → length begun ≤ most_begun → (b : Beginning StoreState)
        → Begins b old begun first_seen → HasDelivered b old.link.dials new given_then (Err fault)
    round_fails fault sends all few b begins = sends_so (Err fault) sends all few b begins

    -- The change has no room.
    pub round_full : Sends (Ok Full) → TellsAll old told → length begun ≤ most_begun → (b : Beginning StoreState) → Begins b old begun first_seen
        → HasDelivered b old.link.dials new given_then (Ok (record { delivered = delivered; full = true }))
    round_full sends all few b begins =
        subst (λ n. HasDelivered b old.link.dials new given_then (Ok (record { delivered = n; full = true }))) ((so_far.working all few b begins).1).2
        (sends_so (Ok Full) sends all few b begins)

    -- An event went.
    pub round_gone : IsCounted true now.faults new.faults → LeavesFewer store next (Ok Gone) → Sends (Ok Gone)
        → GoesOn old new told tells_then begun given_then first_seen next at (delivered + 1)
    round_gone counted leaves sends = record {
      unspent = leaves.0;
      idle = leaves.1;
      size_is = omega (arith, ap (λ (n : ℕ). 4096 * n) leaves.2, same.size, so_far.size_is);
      same = record {
        size = same.size ∙ so_far.same.size;
        honest = same.honest ∙ so_far.same.honest;
        shows = same.shows ∙ so_far.same.shows;
        tells = same.tells ∙ so_far.same.tells;
      };
      faults = counted.stays refl ∙ so_far.faults;
      peers = peers ∙ so_far.peers;
      under_way = λ none. under_way (so_far.under_way none);
      few = let fewer = leaves.4 in omega (arith, fewer, so_far.few);
      working = λ all few b begins.
          let sent = sends_so (Ok Gone) sends all few b begins in
          let before = ((so_far.working all few b begins).1).2 in
          (sent.0, ((sent.1).0, (sent.1).1, (sent.1).2 ∙ ap (λ n. n + 1) before));
    }

    -- It waits, and its hook was tried.
    pub round_kept : IsCounted true now.faults new.faults → LeavesFewer store next (Ok Kept) → Sends (Ok Kept)
        → GoesOn old new told tells_then begun given_then first_seen next due.hook delivered
    round_kept counted leaves sends = record {
      unspent = ap (λ (s : StoreSeen). s.spent) leaves ∙ so_far.unspent;
      idle = ap (λ (s : StoreSeen). s.put) leaves ∙ so_far.idle;
      size_is = omega (arith, ap (λ (s : StoreSeen). size_of s.kept) leaves, same.size, so_far.size_is);
      same = record {
        size = same.size ∙ so_far.same.size;
        honest = same.honest ∙ so_far.same.honest;
        shows = same.shows ∙ so_far.same.shows;
        tells = same.tells ∙ so_far.same.tells;
      };
      faults = counted.stays refl ∙ so_far.faults;
      peers = peers ∙ so_far.peers;
      under_way = λ none. under_way (so_far.under_way none);
      few = subst (λ (s : StoreSeen). delivered + length s.kept.library.outbox.events ≤ last_serial) (sym leaves) so_far.few;
      working = λ all few b begins.
          let sent = sends_so (Ok Kept) sends all few b begins in
          let before = ((so_far.working all few b begins).1).2 in
          (sent.0, ((sent.1).0, (sent.1).1, (sent.1).2 ∙ before));
    }

    -- Both bring the end nearer.
    pub gone_nearer : LeavesFewer store next (Ok Gone)
        → length next.kept.library.outbox.events + length (filter (λ (row : HookRow). nat_lt at row.serial) next.kept.library.outbox.hooks)
        < length store.kept.library.outbox.events + length (filter (λ (row : HookRow). nat_lt at row.serial) store.kept.library.outbox.hooks)
    gone_nearer leaves =
        let fewer = leaves.4 in
        let hooks = ap (λ (rows : List HookRow). length (filter (λ (row : HookRow). nat_lt at row.serial) rows)) leaves.3 in
        omega (arith, fewer, hooks)

    pub kept_nearer : LeavesFewer store next (Ok Kept)
        → length next.kept.library.outbox.events + length (filter (λ (row : HookRow). nat_lt due.hook row.serial) next.kept.library.outbox.hooks)
        < length store.kept.library.outbox.events + length (filter (λ (row : HookRow). nat_lt at row.serial) store.kept.library.outbox.hooks)
    kept_nearer leaves =
        subst (λ (s : StoreSeen). length s.kept.library.outbox.events + length (filter (λ (row : HookRow). nat_lt due.hook row.serial) s.kept.library.outbox.hooks)
        < length store.kept.library.outbox.events + length (filter (λ (row : HookRow). nat_lt at row.serial) store.kept.library.outbox.hooks)) (sym leaves)
        (let fewer = subst (λ n. length (filter (λ (row : HookRow). nat_lt n row.serial) store.kept.library.outbox.hooks)
        < length (filter (λ (row : HookRow). nat_lt at row.serial) store.kept.library.outbox.hooks)) (sym is.serial)
        (hooks_fewer at store.kept.library.outbox.hooks is.hook is.next.is) in
        omega (arith, fewer))
