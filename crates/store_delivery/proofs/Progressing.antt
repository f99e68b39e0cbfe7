-- A delivery that goes on: a hook to which nothing is sent, an attempt, and an event that goes.
use Rattle.std.proofs.Common.{◌≡◌, ◌≢◌, ◌⊎◌, ◌≤◌, ◌+◌, ◌==◌, inl, inr, ℕ, Bool, true, false, List, [], ◌∷◌, ◌++◌, ◌*◌, Option, Some, None, Err, map, length, All, Contains, refl, sym, ap, ap₂, ◌∙◌, subst, arith, append-nil, append_assoc, length-append}
use Rattle.std.specs.Prelude.{is_some}
use Rattle.std.proofs.lemmas.Bool.{eq-eqb, eqb-true, false≢true}
use Rattle.std.proofs.lemmas.List.{length-map}
use Rattle.disk_trait.specs.Device.{Connection, Device, Dials, IsDevice, Left, may_leave, read_with}
use Rattle.site_edge.specs.Clocks.{IsMoment}
use Rattle.site_edge.specs.Links.{dials_after}
use Rattle.change_codec.specs.Fitting.{State, fits}
use Rattle.hook_delivery.specs.Exchanging.{HasConversed, HasExchanged, HasMissed, HasTalked, IsAnswer, MayTell, has_held}
use Rattle.hook_delivery.specs.Posting.{request_of}
use Rattle.hook_delivery.specs.declared.exchanging.Answered.{Answered}
use Rattle.hook_delivery.specs.declared.request.Outgoing.{Outgoing}
use Rattle.library_laws.proofs.ListLemmas.{Contains-from_In, In-from_Contains}
use Rattle.media_rows.specs.declared.change.Change.TheVariants.{Delivered}
use Rattle.media_rows.specs.declared.event.EventRow.{EventRow}
use Rattle.media_rows.specs.declared.hook.HookRow.{HookRow}
use Rattle.media_rows.specs.Changes.{after}
use Rattle.media_rows.specs.Good.{Good}
use Rattle.media_rows.specs.Library.{Library}
use Rattle.media_rows.specs.Media.{archive_after}
use Rattle.media_rows.specs.Outbox.{waiting_for}
use Rattle.media_store.specs.Changes.{ChangesStore, IsAfterChange, archive_next}
use Rattle.media_store.specs.declared.fault.StoreFault.TheVariants as faults
use Rattle.media_store.specs.Stores.{StoreSeen, archive_of, journal_of}
use Rattle.run_history.specs.Runs.{Beginning}
use Rattle.run_history.specs.Steps.{last_or}
use Rattle.shared_tree.specs.Pairs.{first}
use Rattle.store_commits.specs.Carrying.{HasArchive, ReplaceEnds}
use Rattle.store_commits.proofs.Theorems.{agreed_images_have}
use Rattle.store_states.specs.Kept.{AgreesWith, StoreView, kept_state}
use Rattle.store_states.specs.States.{StoreState}
use Rattle.tams_machine.specs.Answers.{journal_of_state, state_with_change}
use Rattle.webhook_outbox.specs.Ordered.{next_hook}
use Rattle.store_delivery.specs.declared.due.Sending.{Sending}
use Rattle.store_delivery.specs.Attempts.{AreInTurn, Attempt, HasAnswer, IsAttempt, accepted_events, accepted_in, connection_list, connections_of, dials_by, is_accepted}
use Rattle.store_delivery.specs.Deliveries.{HasDelivered, HaveGone, IsLeftBy, IsStillFirst, StandsAtEnd}
use Rattle.store_delivery.specs.Within.Due.{IsNext, IsSending, SendsNone, first_event}
use Rattle.store_delivery.specs.Within.Underway.{AllTriedTo, IsBehind, IsUnderway, Progress, StandsIn, least_after}
use Rattle.store_delivery.proofs.Lists.{filter_append, filter_no, filter_yes, last_more, length_more, take_front, take_length}
use Rattle.store_delivery.proofs.Waiting.{event_In, events_rise, gone_here, hook_In, stay_elsewhere, up_to_next}
use Rattle.store_delivery.proofs.Attempting.{accepted_more, accepted_same, all_more, behind_accepted, behind_other, begun_by, connections_more, contains_front, contains_last, dials_more, gone_lengths, gone_more, least_more, left_going, left_later, left_more, left_within, turns_more}

-- what holds of all holds, where it is weaker
all_weaker : {X : Type 0} (P Q : X → Type 0) (xs : List X) → ((x : X) → P x → Q x) → All P xs → All Q xs
all_weaker P Q xs weaker all = λ k d lt. weaker _ (all k d lt)

-- and so where two facts give it
all_both : {X : Type 0} (P Q R : X → Type 0) (xs : List X) → ((x : X) → P x → Q x → R x) → All P xs → All Q xs → All R xs
all_both P Q R xs both all also = λ k d lt. both _ (all k d lt) (also k d lt)

-- ---- the images

-- a step that leaves each image keeps what a store keeps
pub agrees_over : (step : Left → Left → Type 0) (old mid : Device) (kept : StoreView) (held : List (List ℕ))
    → ((p : Left) → may_leave mid p → (q : Left) × may_leave old q × step q p) → ((q p : Left) → step q p → p.image ≡ q.image)
    → AgreesWith old kept held → AgreesWith mid kept held
agrees_over step old mid kept held now same agrees = record {
  header = agrees.header;
  text = agrees.text;
  records = agrees.records;
  makes = agrees.makes;
  gives = record {
    gives = λ left could.
        let from = now left could in
        rw (same from.0 left from.2) (agrees.gives.gives from.0 from.1);
  };
  bytes = λ left could.
      let from = now left could in
      rw (same from.0 left from.2) (agrees.bytes from.0 from.1);
}

talked_image : (ok : Bool) (bytes : List ℕ) (q p : Left) → HasTalked ok bytes q p → p.image ≡ q.image
talked_image true bytes q p step = step.image
talked_image false bytes q p step = step.image

-- each image that a crash now leaves has the last archive
pub stands_now : (b : Beginning StoreState) (s : StoreState) (store : StoreSeen) (d : Device) → s.half ≡ b.state.half → StandsIn store d s
    → (p : Left) → may_leave d p → HasArchive b.state.half s.archive p.image
stands_now b s store d same stands p could =
    let state = kept_state store.kept s.archive.held in
    let has : HasArchive state.half state.archive p.image = agreed_images_have d store.kept s.archive.held stands.agrees p could in
    let halves : state.half ≡ b.state.half = ap (λ (x : StoreState). x.half) (sym stands.state) ∙ same in
    let archives : state.archive ≡ s.archive = ap (λ (x : StoreState). x.archive) (sym stands.state) in
    subst (λ a. HasArchive b.state.half a p.image) archives (subst (λ h. HasArchive h state.archive p.image) halves has)

-- all states have the same half
pub same_half : (s : StoreState) (events : List EventRow) (moments : List ℕ) (states : List StoreState)
    → HaveGone s events moments states → (last_or s states).half ≡ s.half
same_half s [] moments states gone = ap (λ (ts : List StoreState). (last_or s ts).half) gone.1
same_half s (e ∷ events) [] states gone = absurd gone
same_half s (e ∷ events) (m ∷ moments) [] gone = absurd gone
same_half s (e ∷ events) (m ∷ moments) (t ∷ states) gone =
    same_half t events moments states gone.2 ∙ ap (λ (x : StoreState). x.half) gone.1

-- what a crash now leaves told is what the connections were told
pub told_now : (d : Device) (connections : List Connection) → IsDevice d → d.honest ≡ true → d.tells ≡ true → d.link.connections ≡ connections
    → (p : Left) → may_leave d p → p.told ≡ map (λ (c : Connection). c.told) connections
told_now d connections device honest tells is p could = device.told honest tells p could ∙ ap (map (λ (c : Connection). c.told)) is

-- ---- a hook to which nothing is sent

pub passes : (b : Beginning StoreState) (dials : Dials) (d : Device) (given : List ℕ) (store : StoreSeen) (at : ℕ) (h : Progress) (hook : HookRow)
    → Good store.kept.library → IsUnderway b dials d given store at h → IsNext store.kept.library at hook → SendsNone store.kept.library hook
    → IsUnderway b dials d given store hook.serial h
passes b dials d given store at h hook good w next none =
    let library = store.kept.library in
    let above = (hook_In at library.outbox.hooks hook next.is).1 in
    record {
      made = w.made;
      turns = w.turns;
      connections = w.connections;
      dials_are = w.dials_are;
      accepted = w.accepted;
      gone = w.gone;
      removed = w.removed;
      kept = w.kept;
      same = w.same;
      given_is = w.given_is;
      are_moments = w.are_moments;
      begun = w.begun;
      moments = w.moments;
      stands = w.stands;
      ahead = λ other is.
          let higher = (hook_In hook.serial library.outbox.hooks other is).1 in
          let low = w.ahead hook next.is in
          omega (arith, higher, low);
      behind = all_weaker (IsBehind at) (IsBehind hook.serial) h.attempts (λ x was unaccepted. let le = was unaccepted in omega (arith, le, above)) w.behind;
      tried = λ other kept le event is. elim (up_to_next library at hook other good next (In-from_Contains library.outbox.hooks other kept) le) [
        | inl before ↦ w.tried other kept before event is
        | inr same ↦ inl (subst (λ (r : HookRow). request_of library.id r event ≡ None) (sym same)
            (none event (subst (λ (r : HookRow). first_event library r ≡ Some event) same is)))
      ];
    }

-- ---- an attempt

-- the attempt to send an event, by its connection and its answer
abbrev pub attempt_of : HookRow → EventRow → Outgoing → Option Connection → Answered → Attempt
attempt_of hook event out connection answer =
    record { hook = hook; event = event; out = out; connection = connection; answer = answer }

-- what an exchange leaves of the link, by the connection that it began
pub record HasBegun (port : ℕ) (bytes : List ℕ) (answer : Answered) (old mid : Device) (connection : Option Connection) : Type 0 where
  pub connections : mid.link.connections ≡ old.link.connections ++ connection_list connection
  pub dials : mid.link.dials ≡ dials_after (is_some connection) port (length old.link.connections) old.link.dials
  pub answered : (hook : HookRow) (event : EventRow) (out : Outgoing) → out.bytes ≡ bytes
      → HasAnswer (attempt_of hook event out connection answer) connection

pub begun_link : (port : ℕ) (bytes : List ℕ) (answer : Answered) (old mid : Device) → HasMissed port answer old.link mid.link ⊎ HasConversed port bytes answer old.link mid.link
    → (connection : Option Connection) × HasBegun port bytes answer old mid connection
begun_link port bytes answer old mid (inl missed) = (
  None,
  record {
    connections = missed.connections ∙ sym (append-nil old.link.connections);
    dials = missed.dials;
    answered = λ hook event out same. missed.failed;
  },
)
begun_link port bytes answer old mid (inr conversed) = (
  Some conversed.last,
  record {
    connections = conversed.connections;
    dials = conversed.dials;
    answered = λ hook event out same. subst (λ (request : List ℕ). IsAnswer answer request conversed.last) (sym same) conversed.answered;
  },
)

-- a delivery behind an attempt, before anything else changes
pub record HasTried (b : Beginning StoreState) (dials : Dials) (mid : Device) (store : StoreSeen) (h : Progress) (x : Attempt) : Type 0 where
  pub made : All (IsAttempt b.state.archive.library) (h.attempts ++ x ∷ [])
  pub turns : AreInTurn 0 (h.attempts ++ x ∷ [])
  pub connections : mid.link.connections ≡ b.before ++ connections_of (h.attempts ++ x ∷ [])
  pub dials_are : mid.link.dials ≡ dials_by (length b.before) (h.attempts ++ x ∷ []) dials
  pub begun : b.moment ≤ mid.moment
  pub moments : (p : Left) → mid.left_since b.moment p → IsLeftBy b (h.attempts ++ x ∷ []) h.states p
  pub stands : StandsIn store mid (last_or b.state h.states)

module _ (b : Beginning StoreState) (dials : Dials) (old mid : Device) (given : List ℕ) (store : StoreSeen) (at : ℕ) (h : Progress) (hook : HookRow)
    (sending : Sending) (answer : Answered) (device : IsDevice old) (honest : old.honest ≡ true) (tells : old.tells ≡ true)
    (w : IsUnderway b dials old given store at h) (due : IsSending store.kept.library at hook sending)
    (did : HasExchanged sending.out.port sending.out.bytes answer old mid) where
  abbrev begun_so : (connection : Option Connection) × HasBegun sending.out.port sending.out.bytes answer old mid connection
  begun_so = begun_link sending.out.port sending.out.bytes answer old mid (did.dialled tells)

  -- the attempt
  abbrev pub made_attempt : Attempt
  made_attempt = attempt_of hook due.event sending.out begun_so.0 answer

  lengths : length (accepted_in h.attempts) ≡ length h.states
  lengths =
      let counts = gone_lengths b.state h.events h.times h.states w.gone in
      let events : length (accepted_events h.attempts) ≡ length h.events = ap length w.accepted in
      omega (arith, counts.1, events, length-map (accepted_in h.attempts) (λ (y : Attempt). y.event))

  told_old : (p : Left) → may_leave old p → p.told ≡ map (λ (c : Connection). c.told) (b.before ++ connections_of h.attempts)
  told_old p could = told_now old (b.before ++ connections_of h.attempts) device honest tells w.connections p could

  stands_old : (p : Left) → may_leave old p → HasArchive b.state.half (last_or b.state h.states).archive p.image
  stands_old p could =
      stands_now b (last_or b.state h.states) store old (same_half b.state h.events h.times h.states w.gone) w.stands p could

  left_in : (p q : Left) → may_leave old q → MayTell sending.out.bytes q p → IsLeftBy b (h.attempts ++ made_attempt ∷ []) h.states p
  left_in p q could step =
      let begun = begun_by sending.out.bytes q p made_attempt refl step in
      left_within b h.attempts (made_attempt ∷ []) begun.0 h.states p begun.1 (begun.2 ∙ ap (λ (told : List (List ℕ)). told ++ begun.0) (told_old q could)) lengths
      (subst (λ image. HasArchive b.state.half (last_or b.state h.states).archive image) (sym step.image) (stands_old q could))

  pub has_tried : HasTried b dials mid store h made_attempt
  has_tried =
      let library = store.kept.library in
      let first_one = b.state.archive.library in
      let next = due.next in
      let event = event_In hook.serial library.outbox.events due.event due.first in
      record {
        made = all_more (IsAttempt first_one) h.attempts made_attempt w.made (record {
          kept = subst (λ hooks. Contains hooks hook) w.same.hooks (Contains-from_In library.outbox.hooks hook (hook_In at library.outbox.hooks hook next.is).0);
          waits = event.1;
          request = subst (λ id. request_of id hook due.event ≡ Some sending.out) w.same.id due.request;
          answered = begun_so.1.answered hook due.event sending.out refl;
        });
        turns = turns_more 0 h.attempts made_attempt w.turns (w.ahead hook next.is);
        connections =
            begun_so.1.connections ∙ ap (λ (cs : List Connection). cs ++ connection_list begun_so.0) w.connections
            ∙ append_assoc b.before (connections_of h.attempts) (connection_list begun_so.0)
            ∙ ap (λ (cs : List Connection). b.before ++ cs) (sym (connections_more h.attempts made_attempt));
        dials_are =
            begun_so.1.dials
            ∙ ap₂ (λ n ds. dials_after (is_some begun_so.0) sending.out.port n ds)
            (ap length w.connections ∙ length-append b.before (connections_of h.attempts)) w.dials_are
            ∙ sym (dials_more (length b.before) h.attempts made_attempt dials);
        begun = let later = did.call.time.later in omega (arith, later, w.begun);
        moments = λ p left. elim (did.call.time.since b.moment p w.begun left) [
          | inl was ↦ left_more b h.attempts made_attempt h.states p (w.moments p was)
          | inr (q, could, step) ↦ left_in p q could step
        ];
        stands = record {
          agrees = agrees_over (HasTalked (has_held answer) sending.out.bytes) old mid store.kept (last_or b.state h.states).archive.held did.call.time.now
              (λ q p step. talked_image (has_held answer) sending.out.bytes q p step) w.stands.agrees;
          state = w.stands.state;
        };
      }

  -- ---- it wasn't accepted

  pub not_accepted : Good store.kept.library → is_accepted made_attempt ≡ false
      → IsUnderway b dials mid given store hook.serial (record h { attempts = h.attempts ++ made_attempt ∷ [] })
  not_accepted good unaccepted =
      let library = store.kept.library in
      let next = due.next in
      let above = (hook_In at library.outbox.hooks hook next.is).1 in
      let tried = has_tried in
      record {
        made = tried.made;
        turns = tried.turns;
        ahead = λ other is.
            let higher = (hook_In hook.serial library.outbox.hooks other is).1 in
            let least = least_more 0 h.attempts made_attempt ∙ behind_other made_attempt unaccepted in
            omega (arith, higher, least);
        connections = tried.connections;
        dials_are = tried.dials_are;
        accepted = accepted_same h.attempts made_attempt unaccepted ∙ w.accepted;
        gone = w.gone;
        removed = w.removed;
        kept = all_more (IsStillFirst library) h.attempts made_attempt w.kept (λ is. due.first);
        behind = all_more (IsBehind hook.serial) h.attempts made_attempt
            (all_weaker (IsBehind at) (IsBehind hook.serial) h.attempts (λ x was is. let le = was is in omega (arith, le, above)) w.behind)
            (λ is. omega arith);
        tried = λ other kept le event is. elim (up_to_next library at hook other good next (In-from_Contains library.outbox.hooks other kept) le) [
          | inl before ↦ elim (w.tried other kept before event is) [
            | inl none ↦ inl none
            | inr (x, has, whose, what, un) ↦ inr (x, contains_front h.attempts (made_attempt ∷ []) x has, whose, what, un)
          ]
          | inr same ↦
              let both : Some due.event ≡ Some event = sym due.first ∙ subst (λ (r : HookRow). first_event library r ≡ Some event) same is in
              inr (made_attempt, contains_last h.attempts made_attempt, sym same, grind (arith, both), unaccepted)
        ];
        same = w.same;
        given_is = w.given_is;
        are_moments = w.are_moments;
        begun = tried.begun;
        moments = tried.moments;
        stands = tried.stands;
      }

  -- ---- it was accepted, and goes

  module _ (moment : ℕ) (accepted : is_accepted made_attempt ≡ true) (in_time : IsMoment moment) (good : Good store.kept.library)
      (fit : fits (journal_of store.kept) (Delivered moment due.event.serial) ≡ true) where
    abbrev last : StoreState
    last = last_or b.state h.states

    -- the state behind its change
    abbrev pub state_then : StoreState
    state_then = state_with_change last (Delivered moment due.event.serial) []

    abbrev library_then : Library
    library_then = after (Delivered moment due.event.serial) store.kept.library

    abbrev pub later : Progress
    later = record {
      attempts = h.attempts ++ made_attempt ∷ [];
      events = h.events ++ due.event ∷ [];
      times = h.times ++ moment ∷ [];
      states = h.states ++ state_then ∷ [];
    }

    pub library_is : state_then.archive.library ≡ library_then
    library_is = ap (λ (s : StoreState). after (Delivered moment due.event.serial) s.archive.library) w.stands.state

    elsewhere : (other : ℕ) → due.event.hook ≢ other → waiting_for other library_then.outbox.events ≡ waiting_for other store.kept.library.outbox.events
    elsewhere other apart =
        stay_elsewhere other store.kept.library.outbox.events due.event (events_rise store.kept.library good)
        (event_In hook.serial store.kept.library.outbox.events due.event due.first).0 apart

    event_hook : due.event.hook ≡ hook.serial
    event_hook = (event_In hook.serial store.kept.library.outbox.events due.event due.first).1

    pub gone_then : HaveGone b.state later.events later.times later.states
    gone_then =
        gone_more b.state h.events h.times h.states due.event moment w.gone
        (ap (λ (s : StoreState). fits (journal_of_state s) (Delivered moment due.event.serial)) w.stands.state ∙ fit)

    pub accepted_then : accepted_events later.attempts ≡ later.events
    accepted_then = accepted_more h.attempts made_attempt accepted ∙ ap (λ (es : List EventRow). es ++ due.event ∷ []) w.accepted

    pub removed_then : (other : ℕ) → waiting_for other b.state.archive.library.outbox.events
        ≡ waiting_for other later.events ++ waiting_for other library_then.outbox.events
    removed_then other = by (due.event.hook == other) refl
      where
        by : (same : Bool) → (due.event.hook == other) ≡ same → waiting_for other b.state.archive.library.outbox.events
            ≡ waiting_for other (h.events ++ due.event ∷ []) ++ waiting_for other (after (Delivered moment due.event.serial) store.kept.library).outbox.events
        by true is =
            let whose : hook.serial ≡ other = sym event_hook ∙ eqb-true due.event.hook other is in
            let rest = waiting_for other (after (Delivered moment due.event.serial) store.kept.library).outbox.events in
            let goes : waiting_for other store.kept.library.outbox.events ≡ due.event ∷ rest =
            subst (λ n. waiting_for n store.kept.library.outbox.events ≡ due.event ∷ waiting_for n (after (Delivered moment due.event.serial) store.kept.library).outbox.events)
            whose (gone_here hook.serial store.kept.library.outbox.events due.event (events_rise store.kept.library good) due.first) in
            w.removed other ∙ ap (λ (es : List EventRow). waiting_for other h.events ++ es) goes
            ∙ sym (append_assoc (waiting_for other h.events) (due.event ∷ []) rest)
            ∙ ap (λ (es : List EventRow). es ++ rest)
            (sym (filter_append (λ (row : EventRow). row.hook == other) h.events (due.event ∷ [])
            ∙ ap (λ (es : List EventRow). waiting_for other h.events ++ es) (filter_yes (λ (row : EventRow). row.hook == other) due.event [] is)))
        by false is =
            let apart : due.event.hook ≢ other = λ same. false≢true (sym is ∙ eq-eqb due.event.hook other same) in
            w.removed other
            ∙ ap₂ (λ (es fs : List EventRow). es ++ fs)
            (sym (filter_append (λ (row : EventRow). row.hook == other) h.events (due.event ∷ [])
            ∙ ap (λ (es : List EventRow). waiting_for other h.events ++ es) (filter_no (λ (row : EventRow). row.hook == other) due.event [] is)
            ∙ append-nil (waiting_for other h.events)))
            (sym (elsewhere other apart))

    -- hooks up to the serial before keep their events
    before_stays : (n : ℕ) → n ≤ at → waiting_for n library_then.outbox.events ≡ waiting_for n store.kept.library.outbox.events
    before_stays n le =
        let above = (hook_In at store.kept.library.outbox.hooks hook due.next.is).1 in
        elsewhere n (λ same. let e = event_hook in omega (arith, le, above, same, e))

    pub kept_then : All (IsStillFirst library_then) later.attempts
    kept_then =
        all_more (IsStillFirst library_then) h.attempts made_attempt
        (all_both (IsStillFirst store.kept.library) (IsBehind at) (IsStillFirst library_then) h.attempts
        (λ x was le un. ap first (before_stays x.hook.serial (le un)) ∙ was un) w.kept w.behind)
        (λ un. absurd (false≢true (sym un ∙ accepted)))

    accepted_count : length (accepted_in later.attempts) ≡ length h.states + 1
    accepted_count =
        let counts = gone_lengths b.state h.events h.times h.states w.gone in
        let events : length (accepted_events later.attempts) ≡ length later.events = ap length accepted_then in
        omega (
          arith,
          counts.1,
          events,
          length_more h.events due.event,
          length-map (accepted_in later.attempts) (λ (y : Attempt). y.event),
        )

    given_then : given ++ moment ∷ [] ≡ b.given ++ later.times
    given_then = ap (λ (ms : List ℕ). ms ++ moment ∷ []) w.given_is ∙ append_assoc b.given h.times (moment ∷ [])

    pub given_is_then : given ++ moment ∷ [] ≡ b.given ++ later.times
    given_is_then = given_then

    pub moments_then : All IsMoment later.times
    moments_then = all_more IsMoment h.times moment w.are_moments in_time

    -- ---- its change

    module _ (new : Device) (next : StoreView) (ok : Bool) (mid_device : IsDevice mid)
        (makes : ChangesStore ok (Delivered moment due.event.serial) [] store.kept next last.archive.held mid new) where
      archive_before : archive_of store.kept last.archive.held ≡ last.archive
      archive_before = ap (λ (s : StoreState). s.archive) (sym w.stands.state)

      archive_behind : archive_next store.kept last.archive.held (Delivered moment due.event.serial) [] ≡ state_then.archive
      archive_behind =
          ap (λ a. archive_after (Delivered moment due.event.serial) [] a) archive_before

      half_is : 4096 * store.kept.journal.half ≡ b.state.half
      half_is = ap (λ (s : StoreState). s.half) (sym w.stands.state) ∙ same_half b.state h.events h.times h.states w.gone

      has_before : (image : List ℕ) → HasArchive (4096 * store.kept.journal.half) (archive_of store.kept last.archive.held) image
          → HasArchive b.state.half last.archive image
      has_before image has =
          subst (λ a. HasArchive b.state.half a image) archive_before
          (subst (λ n. HasArchive n (archive_of store.kept last.archive.held) image) half_is has)

      has_behind : (image : List ℕ) → HasArchive (4096 * store.kept.journal.half) (archive_next store.kept last.archive.held (Delivered moment due.event.serial) []) image
          → HasArchive b.state.half state_then.archive image
      has_behind image has =
          subst (λ a. HasArchive b.state.half a image) archive_behind
          (subst (λ n. HasArchive n (archive_next store.kept last.archive.held (Delivered moment due.event.serial) []) image) half_is has)

      mid_told : (q : Left) → may_leave mid q → q.told ≡ map (λ (c : Connection). c.told) (b.before ++ connections_of later.attempts)
      mid_told q could =
          told_now mid (b.before ++ connections_of later.attempts) mid_device (did.call.same.honest ∙ honest) (did.call.same.tells ∙ tells)
          has_tried.connections q could

      pub moments_going : (p : Left) → new.left_since b.moment p → IsLeftBy b later.attempts later.states p
      moments_going p left = elim (makes.moments.since b.moment p has_tried.begun left) [
        | inl was ↦ left_later b later.attempts h.states state_then p (has_tried.moments p was)
        | inr (q, could, step) ↦
            left_going b later.attempts h.states state_then p (step.told ∙ mid_told q could) accepted_count
            (elim step.image [ inl before ↦ inl (has_before p.image before) | inr behind ↦ inr (has_behind p.image behind) ])
      ]

      pub either_now : (p : Left) → may_leave new p
          → HasArchive b.state.half last.archive p.image ⊎ HasArchive b.state.half state_then.archive p.image
      either_now p could = by ok (makes.moments.now p could)
        where
          by : (o : Bool) → (q : Left) × may_leave mid q × ReplaceEnds o (4096 * store.kept.journal.half)
              (archive_of store.kept (last_or b.state h.states).archive.held)
              (archive_next store.kept (last_or b.state h.states).archive.held (Delivered moment due.event.serial) []) q p
              → HasArchive b.state.half (last_or b.state h.states).archive p.image
              ⊎ HasArchive b.state.half (state_with_change (last_or b.state h.states) (Delivered moment due.event.serial) []).archive p.image
          by true (q, left, step) = inr (has_behind p.image step.image)
          by false (q, left, step) = elim step.image [ inl before ↦ inl (has_before p.image before) | inr behind ↦ inr (has_behind p.image behind) ]

      pub begun_then : b.moment ≤ new.moment
      begun_then = let before = has_tried.begun in let then = makes.moments.later in omega (arith, before, then)

      -- the delivery goes on behind it
      pub goes_on : (seen : StoreSeen) → ok ≡ true → seen.kept ≡ next → IsAfterChange store.kept (Delivered moment due.event.serial) next
          → new.link ≡ mid.link → IsUnderway b dials new (given ++ moment ∷ []) seen at later
      goes_on seen is same_view is_next link =
          let library : seen.kept.library ≡ library_then =
          ap (λ (k : StoreView). k.library) same_view ∙ ap (λ (s : State). s.library) is_next.journal in
          record {
            made = has_tried.made;
            turns = has_tried.turns;
            ahead = λ other found.
                let here : next_hook at store.kept.library.outbox.hooks ≡ Some other = subst (λ (l : Library). next_hook at l.outbox.hooks ≡ Some other) library found in
                let both : Some hook ≡ Some other = sym due.next.is ∙ here in
                let same : hook ≡ other = grind (arith, both) in
                let least = least_more 0 h.attempts made_attempt ∙ behind_accepted made_attempt accepted in
                subst (λ (r : HookRow). least_after 0 later.attempts ≤ r.serial) same (omega (arith, least));
            connections = ap (λ l. l.connections) link ∙ has_tried.connections;
            dials_are = ap (λ l. l.dials) link ∙ has_tried.dials_are;
            accepted = accepted_then;
            gone = gone_then;
            removed = λ other. removed_then other ∙ ap (λ (l : Library). waiting_for other later.events ++ waiting_for other l.outbox.events) (sym library);
            kept = subst (λ (l : Library). All (IsStillFirst l) later.attempts) (sym library) kept_then;
            behind = all_more (IsBehind at) h.attempts made_attempt w.behind (λ un. absurd (false≢true (sym un ∙ accepted)));
            tried = subst (λ (l : Library). AllTriedTo at l later.attempts) (sym library)
                (λ other kept le event is. elim (w.tried other kept le event (ap first (sym (before_stays other.serial le)) ∙ is)) [
                  | inl none ↦ inl none
                  | inr (x, has, whose, what, un) ↦ inr (x, contains_front h.attempts (made_attempt ∷ []) x has, whose, what, un)
                ]);
            same = record {
              hooks = ap (λ (l : Library). l.outbox.hooks) library ∙ w.same.hooks;
              id = ap (λ (l : Library). l.id) library ∙ w.same.id;
            };
            given_is = given_then;
            are_moments = moments_then;
            begun = begun_then;
            moments = moments_going;
            stands = subst (λ (s : StoreState). StandsIn seen new s) (sym (last_more b.state h.states state_then)) (record {
              agrees = subst (λ (k : StoreView). AgreesWith new k state_then.archive.held) (sym same_view)
                  (subst (AgreesWith new next) (ap (λ a. a.held) archive_behind) (makes.agrees is));
              state = state_next seen same_view is_next;
            });
          }
        where
          with_bytes : State → StoreState
          with_bytes journal = record {
            archive = record { library = journal.library; held = (archive_next store.kept (last_or b.state h.states).archive.held (Delivered moment due.event.serial) []).held };
            room = journal.room;
            half = journal.half;
          }

          state_next : (seen : StoreSeen) → seen.kept ≡ next → IsAfterChange store.kept (Delivered moment due.event.serial) next
              → state_with_change (last_or b.state h.states) (Delivered moment due.event.serial) []
              ≡ kept_state seen.kept (state_with_change (last_or b.state h.states) (Delivered moment due.event.serial) []).archive.held
          state_next seen same_view is_next =
              subst (λ (k : StoreView). state_with_change (last_or b.state h.states) (Delivered moment due.event.serial) []
              ≡ kept_state k (state_with_change (last_or b.state h.states) (Delivered moment due.event.serial) []).archive.held) (sym same_view)
              (subst (λ (s : StoreState). state_with_change s (Delivered moment due.event.serial) []
              ≡ kept_state next (state_with_change s (Delivered moment due.event.serial) []).archive.held) (sym w.stands.state)
              (sym (ap with_bytes is_next.journal)))

      -- the disk failed within it
      pub torn : IsDevice new → new.shows ≡ true → new.link ≡ mid.link → HasDelivered b dials new (given ++ moment ∷ []) (Err faults.Disk)
      torn new_device shows link =
          let library : (last_or b.state later.states).archive.library ≡ library_then =
          ap (λ (s : StoreState). s.archive.library) (last_more b.state h.states state_then) ∙ library_is in
          let same_times : later.times ++ [] ≡ later.times = append-nil later.times in
          record {
            attempts = later.attempts;
            made = has_tried.made;
            turns = has_tried.turns;
            connections = ap (λ l. l.connections) link ∙ has_tried.connections;
            dials_are = ap (λ l. l.dials) link ∙ has_tried.dials_are;
            events = later.events;
            pending = [];
            accepted = accepted_then ∙ sym (append-nil later.events);
            times = later.times;
            states = later.states;
            gone = gone_then;
            removed = λ other. removed_then other ∙ ap (λ (l : Library). waiting_for other later.events ++ waiting_for other l.outbox.events) (sym library);
            kept = subst (λ (l : Library). All (IsStillFirst l) later.attempts) (sym library) kept_then;
            idle = [];
            given_is = given_then ∙ ap (λ (ms : List ℕ). b.given ++ ms) (sym same_times);
            are_moments = subst (All IsMoment) (sym same_times) moments_then;
            torn = true;
            moments = moments_going;
            exit = let itself = new_device.itself shows in at_end (either_now (read_with new itself.0) itself.1);
            causes = (refl, refl, refl);
          }
        where
          at_end : HasArchive b.state.half (last_or b.state h.states).archive new.seen
              ⊎ HasArchive b.state.half (state_with_change (last_or b.state h.states) (Delivered moment due.event.serial) []).archive new.seen
              → StandsAtEnd true b.state (h.states ++ state_with_change (last_or b.state h.states) (Delivered moment due.event.serial) [] ∷ []) new.seen
          at_end (inl before) = (
            length h.states,
            omega (arith, length_more h.states state_then),
            omega (arith, length_more h.states state_then),
            subst (λ (ts : List StoreState). HasArchive b.state.half (last_or b.state ts).archive new.seen)
                (sym (take_front (length h.states) h.states (state_then ∷ []) (omega arith) ∙ take_length h.states)) before,
          )
          at_end (inr behind) = (
            length (h.states ++ state_then ∷ []),
            omega arith,
            omega arith,
            subst (λ (ts : List StoreState). HasArchive b.state.half (last_or b.state ts).archive new.seen) (sym (take_length (h.states ++ state_then ∷ [])))
                (subst (λ (s : StoreState). HasArchive b.state.half s.archive new.seen) (sym (last_more b.state h.states state_then)) behind),
          )
