-- The first event that waits for a hook, and what is left where it goes.
use Rattle.std.proofs.Common.{◌≡◌, ◌≢◌, ◌⊎◌, ◌≤◌, ◌<◌, ◌+◌, ◌==◌, inl, inr, ℕ, suc, Bool, true, false, not, List, [], ◌∷◌, Option, Some, None, filter, length, nat_lt, nat_le, refl, sym, ap, subst, ◌∙◌, arith, lt-ltb}
use Rattle.std.specs.Prelude.{◌&&◌}
use Rattle.std.specs.List.{AllByRecursion, list_all}
use Rattle.std.proofs.lemmas.Bool.{and_from, and_parts, eq-eqb, eqb-true, le-leb, le-ltb, ltb-true}
use Rattle.std.proofs.lemmas.Bool.Decides.{leb_tells}
use Rattle.media_rows.specs.declared.event.EventRow.{EventRow}
use Rattle.media_rows.specs.declared.hook.HookRow.{HookRow}
use Rattle.media_rows.specs.Good.{Good, is_event_text, is_hook_text, rises_by}
use Rattle.media_rows.specs.Library.{Library, last_serial}
use Rattle.media_rows.specs.Outbox.{is_least_waiting, waiting_for, waits_first}
use Rattle.library_laws.proofs.ListLemmas.{In, In-filter, list_all-In, list_any-from_In, rises-In, rises-filter}
use Rattle.library_laws.proofs.OutboxKept.{Names-from, Texts-from, event_below}
use Rattle.shared_tree.specs.Pairs.{first}
use Rattle.webhook_outbox.specs.Ordered.{IsLeastFor, next_hook}
use Rattle.hook_delivery.specs.declared.request.Outgoing.{Outgoing}
use Rattle.hook_delivery.specs.Posting.{request_of}
use Rattle.store_delivery.specs.Within.Due.{IsNext, SendsNone, first_event}
use Rattle.store_delivery.proofs.Lists.{filter_fewer, filter_no, filter_swap, filter_whole, first_In}

abbrev EventsRise : List EventRow → Type 0
EventsRise events = rises_by (λ (row : EventRow). row.serial) events ≡ true

abbrev HooksRise : List HookRow → Type 0
HooksRise hooks = rises_by (λ (row : HookRow). row.serial) hooks ≡ true

abbrev pub stays : ℕ → EventRow → Bool
stays event row = not (row.serial == event)

-- ---- a good library

pub events_rise : (library : Library) → Good library → EventsRise library.outbox.events
events_rise library good = (Names-from library good.names).events_rise

pub hooks_rise : (library : Library) → Good library → HooksRise library.outbox.hooks
hooks_rise library good = (Names-from library good.names).hooks_rise

-- ---- the next hook

pub hook_In : (after : ℕ) (hooks : List HookRow) (hook : HookRow) → next_hook after hooks ≡ Some hook → In hook hooks × (after < hook.serial)
hook_In after hooks hook is =
    let found = In-filter (λ (row : HookRow). nat_lt after row.serial) hooks hook (first_In _ hook is) in
    (found.0, ltb-true after hook.serial found.1)

pub hook_text : (library : Library) (after : ℕ) (hook : HookRow) → Good library → next_hook after library.outbox.hooks ≡ Some hook
    → is_hook_text hook ≡ true
hook_text library after hook good is =
    list_all-In is_hook_text library.outbox.hooks (Texts-from library good.texts).hooks hook (hook_In after library.outbox.hooks hook is).0

-- a hook up to the next one is that, or one up to the serial before
pub up_to_next : (library : Library) (after : ℕ) (hook other : HookRow) → Good library → IsNext library after hook → In other library.outbox.hooks
    → other.serial ≤ hook.serial → (other.serial ≤ after) ⊎ (other ≡ hook)
up_to_next library after hook other good next here le =
    elim (rises-In (λ (a b : HookRow). nat_lt a.serial b.serial) library.outbox.hooks (hooks_rise library good) other hook here
    (hook_In after library.outbox.hooks hook next.is).0) [
      | inl same ↦ inr same
      | inr (inl below) ↦ inl (not_between other (least_of library.outbox.hooks next.least.least other here) (ltb-true other.serial hook.serial below))
      | inr (inr above) ↦ absurd (let lt = ltb-true hook.serial other.serial above in omega (arith, lt, le))
    ]
  where
    least_of : (hooks : List HookRow) → AllByRecursion (λ (row : HookRow). after < row.serial → hook.serial ≤ row.serial) hooks → (row : HookRow)
        → In row hooks → after < row.serial → hook.serial ≤ row.serial
    least_of [] all row h = absurd h
    least_of (x ∷ xs) all row (inl same) = subst (λ (r : HookRow). after < r.serial → hook.serial ≤ r.serial) (sym same) all.0
    least_of (x ∷ xs) all row (inr later) = least_of xs all.1 row later

    not_between : (row : HookRow) → (after < row.serial → hook.serial ≤ row.serial) → row.serial < hook.serial → row.serial ≤ after
    not_between row least below = by_leb row least below
      where
        by_leb : (row : HookRow) → (after < row.serial → hook.serial ≤ row.serial) → row.serial < hook.serial → row.serial ≤ after
        by_leb row least below = elim (leb_tells row.serial after) [
          | inl le ↦ le.1
          | inr gt ↦ absurd (let high = least gt.1 in omega (arith, high, below))
        ]

-- hooks above the next one are fewer than those above the serial before
pub hooks_fewer : (after : ℕ) (hooks : List HookRow) (hook : HookRow) → next_hook after hooks ≡ Some hook
    → length (filter (λ (row : HookRow). nat_lt hook.serial row.serial) hooks) < length (filter (λ (row : HookRow). nat_lt after row.serial) hooks)
hooks_fewer after hooks hook is =
    let found = hook_In after hooks hook is in
    filter_fewer (λ (row : HookRow). nat_lt hook.serial row.serial) (λ (row : HookRow). nat_lt after row.serial) hooks hook
    (λ row here above. let lt = ltb-true hook.serial row.serial above in lt-ltb after row.serial (omega (arith, lt, found.1)))
    found.0 (lt-ltb after hook.serial found.1) (not_below hook.serial)
  where
    not_below : (n : ℕ) → nat_lt n n ≡ false
    not_below n = le-ltb n n (omega arith)

-- ---- the first event

pub event_In : (hook : ℕ) (events : List EventRow) (event : EventRow) → first (waiting_for hook events) ≡ Some event
    → In event events × (event.hook ≡ hook)
event_In hook events event is =
    let found = In-filter (λ (row : EventRow). row.hook == hook) events event (first_In _ event is) in
    (found.0, eqb-true event.hook hook found.1)

pub event_text : (library : Library) (hook : ℕ) (event : EventRow) → Good library → first (waiting_for hook library.outbox.events) ≡ Some event
    → is_event_text event ≡ true
event_text library hook event good is =
    list_all-In is_event_text library.outbox.events (Texts-from library good.texts).events event (event_In hook library.outbox.events event is).0

-- what is found for the first event that waits for a hook
pub sends_none : (library : Library) (hook : HookRow) (row : EventRow) (id : ℕ) (found : Option Outgoing) → Some row ≡ first_event library hook
    → id ≡ library.id → found ≡ request_of id hook row → found ≡ None → SendsNone library hook
sends_none library hook row id found here same is none = λ event first_is.
    let both : Some row ≡ Some event = here ∙ first_is in
    let one : row ≡ event = grind (arith, both) in
    ap (request_of library.id hook) (sym one) ∙ ap (λ n. request_of n hook row) (sym same) ∙ sym is ∙ none

pub nothing_waits : (library : Library) (hook : HookRow) → None ≡ first_event library hook → SendsNone library hook
nothing_waits library hook none = λ event is. absurd (let no = none ∙ is in cc)

-- it waits first
pub waits : (hook : ℕ) (events : List EventRow) (event : EventRow) → first (waiting_for hook events) ≡ Some event → IsLeastFor hook events event
    → waits_first event.serial events ≡ true
waits hook events event is least =
    let found = event_In hook events event is in
    list_any-from_In (λ (row : EventRow). (row.serial == event.serial) && is_least_waiting events row) events event found.0
    (and_from (event.serial == event.serial) (is_least_waiting events event) (eq-eqb event.serial event.serial refl)
    (subst (λ h. list_all (λ (other : EventRow). nat_le event.serial other.serial) (waiting_for h events) ≡ true) (sym found.1)
    (each (waiting_for hook events) least.least)))
  where
    each : (rows : List EventRow) → AllByRecursion (λ (other : EventRow). event.serial ≤ other.serial) rows
        → list_all (λ (other : EventRow). nat_le event.serial other.serial) rows ≡ true
    each [] all = refl
    each (row ∷ rows) all =
        and_from (nat_le event.serial row.serial) (list_all (λ (other : EventRow). nat_le event.serial other.serial) rows)
        (le-leb event.serial row.serial all.0) (each rows all.1)

-- ---- what is left of those that wait

not_same : (b : Bool) → (b ≡ true → ⊥) → b ≡ false
not_same true h = absurd (h refl)
not_same false h = refl

-- of rising events the first alone has its serial
first_goes : (rows : List EventRow) (event : EventRow) → EventsRise rows → first rows ≡ Some event → rows ≡ event ∷ filter (stays event.serial) rows
first_goes [] event rise is = absurd cc
first_goes (row ∷ rows) event rise is =
    let same : row ≡ event = grind (arith, is) in
    let parts = and_parts (list_all (λ (other : EventRow). nat_lt row.serial other.serial) rows) (rises_by (λ (other : EventRow). other.serial) rows) rise in
    subst (λ (e : EventRow). row ∷ rows ≡ e ∷ filter (stays e.serial) (row ∷ rows)) same
    (ap (λ rest. row ∷ rest)
    (sym (filter_no (stays row.serial) row rows (ap not (eq-eqb row.serial row.serial refl))
    ∙ filter_whole (stays row.serial) rows
    (λ other later. ap not (differs row.serial other.serial (ltb-true row.serial other.serial
    (list_all-In (λ (o : EventRow). nat_lt row.serial o.serial) rows parts.0 other later)))))))
  where
    differs : (m n : ℕ) → m < n → (n == m) ≡ false
    differs m n lt = not_same (n == m) (λ e. let same = eqb-true n m e in omega (arith, same, lt))

-- of its hook's events the first one goes
pub gone_here : (hook : ℕ) (events : List EventRow) (event : EventRow) → EventsRise events → first (waiting_for hook events) ≡ Some event
    → waiting_for hook events ≡ event ∷ waiting_for hook (filter (stays event.serial) events)
gone_here hook events event rise is =
    first_goes (waiting_for hook events) event
    (rises-filter (λ (a b : EventRow). nat_lt a.serial b.serial) (λ (row : EventRow). row.hook == hook) events rise) is
    ∙ ap (λ rest. event ∷ rest) (sym (filter_swap (λ (row : EventRow). row.hook == hook) (stays event.serial) events))

-- those of other hooks stay
pub stay_elsewhere : (hook : ℕ) (events : List EventRow) (event : EventRow) → EventsRise events → In event events → event.hook ≢ hook
    → waiting_for hook (filter (stays event.serial) events) ≡ waiting_for hook events
stay_elsewhere hook events event rise here other =
    filter_swap (λ (row : EventRow). row.hook == hook) (stays event.serial) events
    ∙ filter_whole (stays event.serial) (waiting_for hook events) (λ row waits. ap not (not_same (row.serial == event.serial) (λ e. differs row waits (eqb-true row.serial event.serial e))))
  where
    differs : (row : EventRow) → In row (waiting_for hook events) → row.serial ≡ event.serial → ⊥
    differs row waits same =
        let found = In-filter (λ (r : EventRow). r.hook == hook) events row waits in
        elim (rises-In (λ (a b : EventRow). nat_lt a.serial b.serial) events rise row event found.0 here) [
          | inl is ↦ other (ap (λ (r : EventRow). r.hook) (sym is) ∙ eqb-true row.hook hook found.1)
          | inr (inl below) ↦ let lt = ltb-true row.serial event.serial below in omega (arith, lt, same)
          | inr (inr above) ↦ let lt = ltb-true event.serial row.serial above in omega (arith, lt, same)
        ]

-- one less of all
pub events_fewer : (hook : ℕ) (events : List EventRow) (event : EventRow) → first (waiting_for hook events) ≡ Some event
    → length (filter (stays event.serial) events) < length events
events_fewer hook events event is =
    let found = event_In hook events event is in
    let fewer = filter_fewer (stays event.serial) (λ (row : EventRow). true) events event (λ row here e. refl) found.0 refl
    (ap not (eq-eqb event.serial event.serial refl)) in
    subst (λ n. length (filter (stays event.serial) events) < n) (ap length (filter_whole (λ (row : EventRow). true) events (λ row here. refl))) fewer

-- ---- how many

few_between : (least next : ℕ) (rows : List EventRow) → EventsRise rows → ((row : EventRow) → In row rows → least ≤ row.serial)
    → ((row : EventRow) → In row rows → row.serial < next) → least ≤ next → length rows + least ≤ next
few_between least next [] rise low high le = omega (arith, le)
few_between least next (row ∷ rows) rise low high le =
    let parts = and_parts (list_all (λ (other : EventRow). nat_lt row.serial other.serial) rows) (rises_by (λ (other : EventRow). other.serial) rows) rise in
    let here = low row (inl refl) in
    let below = high row (inl refl) in
    let rest = few_between (suc row.serial) next rows parts.1
    (λ other later. let lt = ltb-true row.serial other.serial (list_all-In (λ (o : EventRow). nat_lt row.serial o.serial) rows parts.0 other later) in omega (arith, lt))
    (λ other later. high other (inr later)) (omega (arith, below)) in
    omega (arith, here, rest)

pub events_few : (library : Library) → Good library → length library.outbox.events ≤ last_serial
events_few library good =
    let names = Names-from library good.names in
    let few = few_between 0 library.next_serial library.outbox.events names.events_rise (λ row here. omega arith) (event_below library names) (omega arith) in
    omega (arith, few, names.most)
