-- How a delivery begins and ends.
use Rattle.std.proofs.Common.{◌≡◌, ◌≤◌, inl, inr, ℕ, true, false, List, [], ◌∷◌, ◌++◌, None, Ok, Err, Result, filter, map, length, All, nat_lt, refl, sym, ap, ◌∙◌, subst, arith, append-nil, append_assoc, lt-ltb}
use Rattle.std.proofs.lemmas.Bool.{false≢true}
use Rattle.std.proofs.lemmas.Bool.Decides.{leb_tells}
use Rattle.std.proofs.lemmas.List.Elements.{All-nil}
use Rattle.disk_trait.specs.Device.{Device, Dials, IsDevice, read_with}
use Rattle.site_edge.specs.Clocks.{IsMoment}
use Rattle.library_laws.proofs.ListLemmas.{In, In-from_Contains, filter-In, map-In}
use Rattle.library_laws.proofs.KeptLemmas.{among_hooks}
use Rattle.library_laws.proofs.OutboxKept.{Names-from}
use Rattle.media_rows.specs.declared.event.EventRow.{EventRow}
use Rattle.media_rows.specs.declared.hook.HookRow.{HookRow}
use Rattle.media_rows.specs.Good.{Good}
use Rattle.media_rows.specs.Library.{Library}
use Rattle.media_rows.specs.Outbox.{waiting_for}
use Rattle.media_store.specs.declared.fault.StoreFault.{StoreFault}
use Rattle.media_store.specs.declared.fault.StoreFault.TheVariants as faults
use Rattle.media_store.specs.Stores.{StoreSeen}
use Rattle.run_history.specs.Runs.{Beginning}
use Rattle.run_history.specs.Steps.{last_or}
use Rattle.shared_tree.specs.Pairs.{first}
use Rattle.store_commits.specs.Carrying.{HasArchive}
use Rattle.store_states.specs.States.{StoreState}
use Rattle.webhook_outbox.specs.Ordered.{next_hook}
use Rattle.store_delivery.specs.declared.delivering.Deliveries.{Deliveries}
use Rattle.store_delivery.specs.Attempts.{Attempt, is_accepted}
use Rattle.store_delivery.specs.Deliveries.{AllTried, DeliveryEnds, HasDelivered, IsStillFirst}
use Rattle.store_delivery.specs.Within.Underway.{Begins, IsUnderway, Progress, StandsIn, no_progress}
use Rattle.store_delivery.proofs.Attempting.{accepted_more, all_more}
use Rattle.store_delivery.proofs.Progressing.{HasTried, same_half, stands_now}

-- ---- the beginning

-- the serials of hooks begin at 1
hook_least : (library : Library) → Good library → (hook : HookRow) → In hook library.outbox.hooks → 1 ≤ hook.serial
hook_least library good hook here =
    let names = Names-from library good.names in
    (names.serials.within hook.serial
    (among_hooks (map (λ r. r.serial) library.objects) (map (λ r. r.serial) library.segments) (map (λ r. r.serial) library.requests)
    (map (λ r. r.serial) library.outbox.hooks) (map (λ r. r.serial) library.outbox.events) hook.serial
    (map-In (λ r. r.serial) library.outbox.hooks hook here))).0

pub begins_so : (b : Beginning StoreState) (d : Device) (given : List ℕ) (store : StoreSeen) → Good store.kept.library → Begins b d given store
    → IsUnderway b d.link.dials d given store 0 no_progress
begins_so b d given store good begins =
    let library : b.state.archive.library ≡ store.kept.library = ap (λ (s : StoreState). s.archive.library) begins.stands.state in
    record {
      made = All-nil _;
      turns = tt;
      ahead = λ hook is. omega arith;
      connections = begins.connections ∙ sym (append-nil b.before);
      dials_are = refl;
      accepted = refl;
      gone = (refl, refl);
      removed = λ hook. ap (λ (l : Library). waiting_for hook l.outbox.events) library;
      kept = All-nil _;
      behind = All-nil _;
      tried = λ hook kept le event is.
          let least = hook_least store.kept.library good hook (In-from_Contains store.kept.library.outbox.hooks hook kept) in
          absurd (omega (arith, le, least));
      same = record { hooks = ap (λ (l : Library). l.outbox.hooks) (sym library); id = ap (λ (l : Library). l.id) (sym library) };
      given_is = begins.given_is ∙ sym (append-nil b.given);
      are_moments = All-nil _;
      begun = begins.begun;
      moments = begins.moments;
      stands = begins.stands;
    }

-- ---- the end

-- no hook has a higher serial than the last one tried
none_above : (at : ℕ) (hooks : List HookRow) → next_hook at hooks ≡ None → (hook : HookRow) → In hook hooks → hook.serial ≤ at
none_above at hooks none hook here =
    elim (leb_tells hook.serial at) [
      | inl le ↦ le.1
      | inr gt ↦ absurd (no_first (filter (λ (row : HookRow). nat_lt at row.serial) hooks) none hook
          (filter-In (λ (row : HookRow). nat_lt at row.serial) hooks hook here (lt-ltb at hook.serial gt.1)))
    ]
  where
    no_first : (xs : List HookRow) → first xs ≡ None → (x : HookRow) → In x xs → ⊥
    no_first [] none x here = here
    no_first (y ∷ ys) none x here = absurd cc

-- the file stands for the last state
pub stands_seen : (b : Beginning StoreState) (s : StoreState) (store : StoreSeen) (d : Device) → IsDevice d → d.shows ≡ true → s.half ≡ b.state.half
    → StandsIn store d s → HasArchive b.state.half s.archive d.seen
stands_seen b s store d device shows half stands = let itself = device.itself shows in stands_now b s store d half stands (read_with d itself.0) itself.1

module _ (b : Beginning StoreState) (dials : Dials) (d : Device) (given : List ℕ) (store : StoreSeen) (at : ℕ) (h : Progress) (device : IsDevice d)
    (shows : d.shows ≡ true) (w : IsUnderway b dials d given store at h) where
  abbrev last : StoreState
  last = last_or b.state h.states

  library : last.archive.library ≡ store.kept.library
  library = ap (λ (s : StoreState). s.archive.library) w.stands.state

  -- it ends between two attempts
  pub ended : (end : Result Deliveries StoreFault) → DeliveryEnds last h.attempts (length h.events) [] [] false end → HasDelivered b dials d given end
  ended end ends = record {
    attempts = h.attempts;
    made = w.made;
    turns = w.turns;
    connections = w.connections;
    dials_are = w.dials_are;
    events = h.events;
    pending = [];
    accepted = w.accepted ∙ sym (append-nil h.events);
    times = h.times;
    states = h.states;
    gone = w.gone;
    removed = λ hook. w.removed hook ∙ ap (λ (l : Library). waiting_for hook h.events ++ waiting_for hook l.outbox.events) (sym library);
    kept = subst (λ (l : Library). All (IsStillFirst l) h.attempts) (sym library) w.kept;
    idle = [];
    given_is = w.given_is ∙ ap (λ (ms : List ℕ). b.given ++ ms) (sym (append-nil h.times));
    are_moments = subst (All IsMoment) (sym (append-nil h.times)) w.are_moments;
    torn = false;
    moments = w.moments;
    exit = stands_seen b last store d device shows (same_half b.state h.events h.times h.states w.gone) w.stands;
    causes = ends;
  }

  -- for want of memory
  pub starved : HasDelivered b dials d given (Err faults.Memory)
  starved = ended (Err faults.Memory) (refl, inl (refl, refl))

  -- once all hooks were tried
  pub all_tried : (delivered : ℕ) → delivered ≡ length h.events → next_hook at store.kept.library.outbox.hooks ≡ None
      → HasDelivered b dials d given (Ok (record { delivered = delivered; full = false }))
  all_tried delivered counted none =
      ended (Ok (record { delivered = delivered; full = false })) (
        refl,
        counted,
        inl (
          refl,
          refl,
          refl,
          subst (λ (l : Library). AllTried l h.attempts) (sym library)
              (λ hook kept event is. w.tried hook kept (none_above at store.kept.library.outbox.hooks none hook (In-from_Contains store.kept.library.outbox.hooks hook kept)) event is),
        ),
      )

-- ---- an event that was accepted, and whose change isn't made

pub pending_ends : (b : Beginning StoreState) (dials : Dials) (old d : Device) (given : List ℕ) (store : StoreSeen) (at : ℕ) (h : Progress) (x : Attempt)
    → IsUnderway b dials old given store at h → HasTried b dials d store h x → is_accepted x ≡ true → IsDevice d → d.shows ≡ true → (moment : ℕ)
    → IsMoment moment → (end : Result Deliveries StoreFault)
    → DeliveryEnds (last_or b.state h.states) (h.attempts ++ x ∷ []) (length h.events) (x.event ∷ []) (moment ∷ []) false end
    → HasDelivered b dials d (given ++ moment ∷ []) end
pending_ends b dials old d given store at h x w tried accepted device shows moment in_time end ends =
    let library : (last_or b.state h.states).archive.library ≡ store.kept.library = ap (λ (s : StoreState). s.archive.library) w.stands.state in
    record {
      attempts = h.attempts ++ x ∷ [];
      made = tried.made;
      turns = tried.turns;
      connections = tried.connections;
      dials_are = tried.dials_are;
      events = h.events;
      pending = x.event ∷ [];
      accepted = accepted_more h.attempts x accepted ∙ ap (λ (es : List EventRow). es ++ x.event ∷ []) w.accepted;
      times = h.times;
      states = h.states;
      gone = w.gone;
      removed = λ hook. w.removed hook ∙ ap (λ (l : Library). waiting_for hook h.events ++ waiting_for hook l.outbox.events) (sym library);
      kept = subst (λ (l : Library). All (IsStillFirst l) (h.attempts ++ x ∷ [])) (sym library)
          (all_more (IsStillFirst store.kept.library) h.attempts x w.kept (λ un. absurd (false≢true (sym un ∙ accepted))));
      idle = moment ∷ [];
      given_is = ap (λ (ms : List ℕ). ms ++ moment ∷ []) w.given_is ∙ append_assoc b.given h.times (moment ∷ []);
      are_moments = all_more IsMoment h.times moment w.are_moments in_time;
      torn = false;
      moments = tried.moments;
      exit = stands_seen b (last_or b.state h.states) store d device shows (same_half b.state h.events h.times h.states w.gone) tried.stands;
      causes = ends;
    }
