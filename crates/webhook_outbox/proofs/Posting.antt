-- Events of what happened, hook by hook and happening by happening.
use Rattle.std.proofs.Common.{◌≡◌, ◌≤◌, ◌<◌, ◌+◌, nat_le, length, ℕ, suc, Bor, Bool, true, false, ◌||◌, List, [], ◌∷◌, ◌++◌, Some, None, filter, map, drop, get_or, drop-cons, refl, sym, ap, subst, ◌∙◌, arith, append-nil, length-append}
use Rattle.std.specs.Prelude.{◌==◌}
use Rattle.std.specs.List.{AllByRecursion, list_any}
use Rattle.std.proofs.lemmas.Bool.{eq-eqb, le-leb, leb-true, or_left, or_right}
use Rattle.std.proofs.lemmas.List.{append_assoc, length-map}
use Rattle.std.proofs.lemmas.List.Elements.{filter-append}
use Rattle.media_rows.specs.declared.event.EventRow.{EventRow}
use Rattle.media_rows.specs.declared.event.Happened.{Happened}
use Rattle.media_rows.specs.declared.hook.HookRow.{HookRow}
use Rattle.media_rows.specs.Library.{last_serial}
use Rattle.media_rows.specs.Outbox.{Outbox, after_post, event_row, events_for, marked, most_waiting, takes, waiting_count, waiting_for, with_events}
use Rattle.media_rows.specs.Outbox.{Posted as Made}
use Rattle.shared_tree.specs.Pairs.{values, values_of}
use Rattle.shared_tree.proofs.Counted.{all_append, all_kept}
use Rattle.shared_tree.proofs.Rising.{all_map}
use Rattle.webhook_outbox.specs.declared.outbox.Slot.{Slot}
use Rattle.webhook_outbox.specs.declared.posts.PostsReached.{PostsReached}
use Rattle.webhook_outbox.specs.Delivered.{IsBehind}
use Rattle.webhook_outbox.specs.Posting.{posted_within}
use Rattle.webhook_outbox.specs.Within.Posts.{AreKept, reached_within}
use Rattle.webhook_outbox.specs.Within.Slots.{AreSlots, HasFailedWhenFull, hook_rows, hook_serial, hooks_of, is_for, seen_outbox}
use Rattle.webhook_outbox.proofs.Adding.{Stays, marked_same}
use Rattle.webhook_outbox.proofs.Waiting.{Events, Slots}

-- ---- events one by one

marked_more : (a b m : Bool) → (a ≡ true → b ≡ true) → ((m || a) || b) ≡ (m || b)
marked_more a b true f = refl
marked_more true b false f = sym (f refl)
marked_more false b false f = refl

-- more events leave no hook less full
fuller : (hook : ℕ) (events more : List EventRow) → nat_le most_waiting (waiting_count hook events) ≡ true
    → nat_le most_waiting (waiting_count hook (events ++ more)) ≡ true
fuller hook events more full =
    let count : waiting_count hook (events ++ more) ≡ waiting_count hook events + waiting_count hook more =
    ap length (filter-append (λ row. row.hook == hook) events more) ∙ length-append (waiting_for hook events) (waiting_for hook more) in
    le-leb most_waiting (waiting_count hook (events ++ more)) (omega (arith, count, leb-true most_waiting (waiting_count hook events) full))

marked_twice : (events more : List EventRow) (hooks : List HookRow) → map (marked (events ++ more)) (map (marked events) hooks) ≡ map (marked (events ++ more))
    hooks
marked_twice events more [] = refl
marked_twice events more (row ∷ rows) =
    ap (λ b. record row { failed = b } ∷ map (marked (events ++ more)) (map (marked events) rows))
    (marked_more (nat_le most_waiting (waiting_count row.serial events)) (nat_le most_waiting (waiting_count row.serial (events ++ more))) row.failed
    (fuller row.serial events more))
    ∙ ap (λ l. marked (events ++ more) row ∷ l) (marked_twice events more rows)

-- events that come later
pub later_events : (first later : List EventRow) (outbox : Outbox) → with_events later (with_events first outbox) ≡ with_events (first ++ later) outbox
later_events first later outbox =
    ap (λ l. record { hooks = l; events = (outbox.events ++ first) ++ later }) (marked_twice (outbox.events ++ first) later outbox.hooks)
    ∙ ap (λ (l : List EventRow). record { hooks = map (marked l) outbox.hooks; events = l }) (append_assoc outbox.events first later)

-- hooks that are marked have their serials
same_serials : (serial : ℕ) (events : List EventRow) (hooks : List HookRow) → list_any (λ hook. hook.serial == serial) (map (marked events) hooks) ≡ list_any
    (λ hook. hook.serial == serial) hooks
same_serials serial events [] = refl
same_serials serial events (row ∷ rows) = ap (λ b. (row.serial == serial) || b) (same_serials serial events rows)

kept_marked : (events : List EventRow) (rows hooks : List HookRow) → AreKept rows hooks → AreKept rows (map (marked events) hooks)
kept_marked events rows hooks kept = all_map _ _ (λ row there. same_serials row.serial events hooks ∙ there) rows kept

-- hooks are among themselves
kept_later : (row : HookRow) (rows hooks : List HookRow) → AreKept rows hooks → AreKept rows (row ∷ hooks)
kept_later row rows hooks kept = all_map _ _ (λ other there. or_right (row.serial == other.serial) _ there) rows kept

all_are_kept : (hooks : List HookRow) → AreKept hooks hooks
all_are_kept [] = tt
all_are_kept (row ∷ rows) = (or_left (row.serial == row.serial) _ (eq-eqb row.serial row.serial refl), kept_later row rows rows (all_are_kept rows))

pub takers_kept : (happened : Happened) (takers hooks : List HookRow) → takers ≡ filter (takes happened) hooks → AreKept takers hooks
takers_kept happened takers hooks e = subst (λ l. AreKept l hooks) (sym e) (all_kept _ (takes happened) hooks (all_are_kept hooks))

-- a serial behind one event more
behind_more : (serial : ℕ) (row : EventRow) (events : List EventRow) → row.serial ≡ serial → IsBehind serial events → IsBehind (serial + 1) (events ++ row ∷ [])
behind_more serial row events own behind =
    all_append (λ r. r.serial < serial + 1) events (row ∷ []) (all_map (λ r. r.serial < serial) (λ r. r.serial < serial + 1) (λ r lt. omega (arith, lt)) events
    behind) (omega (arith, own), tt)

-- events as far as they were posted
pub record Told (happened : Happened) (now : ℕ) (takers rest : List HookRow) (from : PostsReached) (outbox : Outbox) (serial : ℕ) : Type 0 where
  pub done : with_events (events_for happened now serial rest) outbox ≡ with_events (events_for happened now from.next takers) from.outbox
  pub kept : AreKept rest outbox.hooks
  pub last : IsBehind serial outbox.events
  pub within : serial + length rest ≤ last_serial

pub told_start : (happened : Happened) (now : ℕ) (takers : List HookRow) (from : PostsReached) (outbox : Outbox) → outbox ≡ from.outbox
    → AreKept takers from.outbox.hooks → IsBehind from.next from.outbox.events → from.next + length takers ≤ last_serial
    → Told happened now takers takers from outbox from.next
told_start happened now takers from outbox e kept last within =
    subst (λ o. Told happened now takers takers from o from.next) (sym e) (record { done = refl; kept = kept; last = last; within = within })

pub told_more : (happened : Happened) (now : ℕ) (takers : List HookRow) (row : HookRow) (rest : List HookRow) (from : PostsReached) (outbox next : Outbox)
    (serial : ℕ)
    → Told happened now takers (row ∷ rest) from outbox serial → next ≡ with_events (event_row happened now row serial ∷ []) outbox
    → Told happened now takers rest from next (serial + 1)
told_more happened now takers row rest from outbox next serial d e =
    subst (λ o. Told happened now takers rest from o (serial + 1)) (sym e) (record {
      done = later_events (event_row happened now row serial ∷ []) (events_for happened now (serial + 1) rest) outbox ∙ d.done;
      kept = kept_marked (outbox.events ++ event_row happened now row serial ∷ []) rest outbox.hooks d.kept.1;
      last = behind_more serial (event_row happened now row serial) outbox.events refl d.last;
      within = (let all = d.within in omega (arith, all));
    })

-- hooks for which the most events wait have failed
full_marked : (events : Events) (slots : Slots) → AllByRecursion (Stays events) slots → map (marked (values events)) (hooks_of slots) ≡ hooks_of slots
full_marked events [] h = refl
full_marked events (p ∷ ps) h = ap (λ row. row ∷ map (marked (values events)) (hooks_of ps)) (marked_same events p h.0) ∙ ap (λ l. p.1.row.value ∷ l)
    (full_marked events ps h.1)

pub full_failed : (slots : Slots) (events : Events) → AreSlots slots events → with_events [] (seen_outbox slots events) ≡ seen_outbox slots events
full_failed slots events kept =
    ap (λ (l : List EventRow). record { hooks = map (marked l) (hooks_of slots); events = l }) (append-nil (values events))
    ∙ ap (λ l. record { hooks = l; events = values events }) (full_marked events slots (stay slots kept.waiting kept.full))
  where
    stay : (ps : Slots) → AllByRecursion (λ p. p.1.waiting ≡ filter (is_for (hook_serial p.1)) events) ps → AllByRecursion (λ p. HasFailedWhenFull p.1) ps
        → AllByRecursion (Stays events) ps
    stay [] w f = tt
    stay (p ∷ ps) w f = (record { waits = w.0; full = f.0 }, stay ps w.1 f.1)

-- ---- happenings one after the other

length-events_for : (happened : Happened) (now serial : ℕ) (rows : List HookRow) → length (events_for happened now serial rows) ≡ length rows
length-events_for happened now serial [] = refl
length-events_for happened now serial (row ∷ rows) = ap suc (length-events_for happened now (serial + 1) rows)

-- the next serial never falls
no_lower : (happened : List Happened) (now : ℕ) (made : Made) → made.next ≤ (after_post happened now made).next
no_lower [] now made = omega arith
no_lower (one ∷ later) now made =
    let rest = no_lower later now (after_post (one ∷ []) now made) in
    omega (arith, rest)

-- serials that have ended stay so
pub ended : (happened : List Happened) (now : ℕ) (made : Made) → last_serial < made.next → reached_within (after_post happened now made) ≡ None
ended happened now made over = by (nat_le (after_post happened now made).next last_serial) refl
  where
    by : (b : Bool) → nat_le (after_post happened now made).next last_serial ≡ b → reached_within (after_post happened now made) ≡ None
    by true e = absurd (let within = leb-true (after_post happened now made).next last_serial e in let more = no_lower happened now made in
        omega (arith, over, within, more))
    by false e = rw e refl

-- the events of one happening are so many, and their serials are below the next one
behind_all : (happened : Happened) (now serial : ℕ) (rows : List HookRow) (events : List EventRow) → IsBehind serial events
    → IsBehind (serial + length rows) (events ++ events_for happened now serial rows)
behind_all happened now serial [] events behind =
    let same : serial ≡ serial + 0 = omega arith in
    subst (λ n. IsBehind n (events ++ [])) same (subst (IsBehind serial) (sym (append-nil events)) behind)
behind_all happened now serial (row ∷ rows) events behind =
    let more = behind_all happened now (serial + 1) rows (events ++ event_row happened now row serial ∷ [])
    (behind_more serial (event_row happened now row serial) events refl behind) in
    let count : serial + 1 + length rows ≡ serial + length (row ∷ rows) = omega arith in
    subst (λ n. IsBehind n (events ++ events_for happened now serial (row ∷ rows))) count
    (subst (IsBehind (serial + 1 + length rows))
    (append_assoc events (event_row happened now row serial ∷ []) (events_for happened now (serial + 1) rows)) more)

-- what one happening comes to
one_made : (happened : Happened) (now : ℕ) (from : PostsReached) (takers : List HookRow) → takers ≡ filter (takes happened) from.outbox.hooks
    → after_post (happened ∷ []) now (record { outbox = from.outbox; next = from.next })
    ≡ record { outbox = with_events (events_for happened now from.next takers) from.outbox; next = from.next + length takers }
one_made happened now from takers e =
    ap (λ l. record {
      outbox = with_events (events_for happened now from.next l) from.outbox;
      next = from.next + length (events_for happened now from.next l);
    }) (sym e)
    ∙ ap (λ n. record { outbox = with_events (events_for happened now from.next takers) from.outbox; next = from.next + n })
    (length-events_for happened now from.next takers)

within_is : (outbox : Outbox) (next : ℕ) → next ≤ last_serial
    → Some (record { outbox = outbox; next = next }) ≡ reached_within (record { outbox = outbox; next = next })
within_is outbox next within = rw (le-leb next last_serial within) refl

pub one_reached : (happened : Happened) (now : ℕ) (from : PostsReached) (takers : List HookRow) (outbox : Outbox) (next : ℕ)
    → takers ≡ filter (takes happened) from.outbox.hooks → outbox ≡ with_events (events_for happened now from.next takers) from.outbox
    → next ≡ from.next + length takers → next ≤ last_serial
    → Some (record { outbox = outbox; next = next }) ≡ reached_within (after_post (happened ∷ []) now (record { outbox = from.outbox; next = from.next }))
one_reached happened now from takers outbox next e eo en within =
    let made : Outbox = with_events (events_for happened now from.next takers) from.outbox in
    ap (λ o. Some (record { outbox = o; next = next })) eo ∙ within_is made next within
    ∙ ap (λ n. reached_within (record { outbox = made; next = n })) en ∙ ap reached_within (sym (one_made happened now from takers e))

pub one_ended : (happened : Happened) (now : ℕ) (from : PostsReached) (takers : List HookRow) → takers ≡ filter (takes happened) from.outbox.hooks
    → last_serial < from.next + length takers
    → None ≡ reached_within (after_post (happened ∷ []) now (record { outbox = from.outbox; next = from.next }))
one_ended happened now from takers e over =
    sym (ended [] now (after_post (happened ∷ []) now (record { outbox = from.outbox; next = from.next }))
    (subst (λ (m : Made). last_serial < m.next) (sym (one_made happened now from takers e)) over))

-- posting as far as it has come
pub record Comes (all rest : List Happened) (now : ℕ) (outbox : Outbox) (serial : ℕ) (reached : PostsReached) : Type 0 where
  pub done : reached_within (after_post rest now (record { outbox = reached.outbox; next = reached.next })) ≡ reached_within
      (after_post all now (record { outbox = outbox; next = serial }))
  pub last : IsBehind reached.next reached.outbox.events
  pub within : reached.next ≤ last_serial

pub comes_start : (all : List Happened) (now : ℕ) (outbox : Outbox) (serial : ℕ) (reached : PostsReached) → reached ≡ record { outbox = outbox; next = serial }
    → IsBehind serial outbox.events → serial ≤ last_serial → Comes all all now outbox serial reached
comes_start all now outbox serial reached e last within =
    subst (Comes all all now outbox serial) (sym e) (record { done = refl; last = last; within = within })

-- where one happening comes to something
some_made : (made : Made) (reached : PostsReached) → Some reached ≡ reached_within made → (made ≡ record { outbox = reached.outbox; next = reached.next })
    × (reached.next ≤ last_serial)
some_made made reached e = by (nat_le made.next last_serial) refl
  where
    same : {x y : PostsReached} → Some x ≡ Some y → x ≡ y
    same e = grind arith

    by : (b : Bool) → nat_le made.next last_serial ≡ b → (made ≡ record { outbox = reached.outbox; next = reached.next }) × (reached.next ≤ last_serial)
    by true le =
        let own : reached ≡ record { outbox = made.outbox; next = made.next } = same (e ∙ rw le refl) in (
          ap (λ (r : PostsReached). record { outbox = r.outbox; next = r.next }) (sym own),
          subst (λ (r : PostsReached). r.next ≤ last_serial) (sym own) (leb-true made.next last_serial le),
        )
    by false le = absurd (let none : Some reached ≡ None = e ∙ rw le refl in grind (arith, none))

pub comes_more : (all : List Happened) (one : Happened) (rest : List Happened) (now : ℕ) (outbox : Outbox) (serial : ℕ) (reached next : PostsReached)
    → Comes all (one ∷ rest) now outbox serial reached
    → Some next ≡ reached_within (after_post (one ∷ []) now (record { outbox = reached.outbox; next = reached.next }))
    → Comes all rest now outbox serial next
comes_more all one rest now outbox serial reached next d e =
    let start : Made = record { outbox = reached.outbox; next = reached.next } in
    let own = some_made (after_post (one ∷ []) now start) next e in
    let takers : List HookRow = filter (takes one) reached.outbox.hooks in
    let made = one_made one now reached takers refl in
    let behind : IsBehind (after_post (one ∷ []) now start).next (after_post (one ∷ []) now start).outbox.events =
    subst (λ (m : Made). IsBehind m.next m.outbox.events) (sym made) (behind_all one now reached.next takers reached.outbox.events d.last) in
    record {
      done = ap (λ m. reached_within (after_post rest now m)) (sym own.0) ∙ d.done;
      last = subst (λ (m : Made). IsBehind m.next m.outbox.events) own.0 behind;
      within = own.1;
    }

pub comes_to_none : (all : List Happened) (one : Happened) (rest : List Happened) (now : ℕ) (outbox : Outbox) (serial : ℕ) (reached : PostsReached)
    → Comes all (one ∷ rest) now outbox serial reached
    → None ≡ reached_within (after_post (one ∷ []) now (record { outbox = reached.outbox; next = reached.next }))
    → None ≡ reached_within (after_post all now (record { outbox = outbox; next = serial }))
comes_to_none all one rest now outbox serial reached d e =
    sym (ended rest now (after_post (one ∷ []) now (record { outbox = reached.outbox; next = reached.next })) over) ∙ d.done
  where
    made : Made
    made = after_post (one ∷ []) now (record { outbox = reached.outbox; next = reached.next })

    over : last_serial < made.next
    over = by (nat_le made.next last_serial) refl
      where
        by : (b : Bool) → nat_le made.next last_serial ≡ b → last_serial < made.next
        by true le = absurd (let some : None ≡ Some (record { outbox = made.outbox; next = made.next }) = e ∙ rw le refl in grind (arith, some))
        by false le = grind (arith, le)

-- ---- what is answered

pub reached_is : (old : Outbox) (made : Made) (reached : PostsReached) → Some reached ≡ reached_within made
    → record { outbox = reached.outbox; next = Some reached.next } ≡ posted_within old made
reached_is old made reached e =
    let own = some_made made reached e in
    rw (own.0, le-leb reached.next last_serial own.1) refl

pub ended_is : (old : Outbox) (made : Made) → None ≡ reached_within made → record { outbox = old; next = None } ≡ posted_within old made
ended_is old made e = by (nat_le made.next last_serial) refl
  where
    by : (b : Bool) → nat_le made.next last_serial ≡ b → record { outbox = old; next = None } ≡ posted_within old made
    by true le = absurd (let some : None ≡ Some (record { outbox = made.outbox; next = made.next }) = e ∙ rw le refl in grind (arith, some))
    by false le = rw le refl

-- ---- loops

pub item_first : {X : Type 0} (xs : List X) (i : ℕ) (x : X) → i < length xs → x ≡ get_or xs i x → drop i xs ≡ x ∷ drop (i + 1) xs
item_first xs i x lt at =
    let next : suc i ≡ i + 1 = omega arith in
    drop-cons xs i x lt ∙ ap (λ y. y ∷ drop (suc i) xs) (sym at) ∙ ap (λ j. x ∷ drop j xs) next

pub hooks_length : (slots : List (Bor Slot)) → length (hook_rows (values_of slots)) ≡ length slots
hooks_length slots = length-map (values_of slots) (λ slot. slot.row.value) ∙ length-map slots (λ slot. slot.now)
