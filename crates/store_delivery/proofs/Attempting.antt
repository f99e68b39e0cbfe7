-- One attempt more behind others: connections, calls of `dial`, turns, events that were accepted, and what a crash leaves.
use Rattle.std.proofs.Common.{◌≡◌, ◌⊎◌, ◌≤◌, ◌+◌, inl, inr, ℕ, suc, Bool, true, false, cond, List, [], ◌∷◌, ◌++◌, map, length, All, Contains, refl, sym, ap, ◌∙◌, subst, arith, append-nil, append_assoc, length-append}
use Rattle.std.specs.Prelude.{is_some}
use Rattle.std.proofs.lemmas.List.{map-append}
use Rattle.std.proofs.lemmas.List.Elements.{All-append, All-cons, All-nil}
use Rattle.disk_trait.specs.Device.{Connection, Dials, Left}
use Rattle.site_edge.specs.Links.{dials_after}
use Rattle.change_codec.specs.Fitting.{fits}
use Rattle.hook_delivery.specs.Exchanging.{MayTell}
use Rattle.library_laws.proofs.ListLemmas.{Contains-from_In, In-back, In-from_Contains, In-front}
use Rattle.media_rows.specs.declared.change.Change.TheVariants.{Delivered}
use Rattle.media_rows.specs.declared.event.EventRow.{EventRow}
use Rattle.run_history.specs.Runs.{Beginning}
use Rattle.run_history.specs.Steps.{last_or}
use Rattle.store_commits.specs.Carrying.{HasArchive}
use Rattle.store_states.specs.States.{StoreState}
use Rattle.tams_machine.specs.Answers.{journal_of_state, state_with_change}
use Rattle.store_delivery.specs.Attempts.{AreInTurn, Attempt, accepted_events, accepted_in, connection_list, connections_of, dials_by, is_accepted, least_behind}
use Rattle.store_delivery.specs.Deliveries.{HaveGone, IsLeftBy, IsPartTold}
use Rattle.store_delivery.specs.Within.Underway.{least_after}
use Rattle.store_delivery.proofs.Lists.{filter_append, filter_no, filter_yes, last_more, length_more, take_front, take_length}

-- ---- lists

pub all_more : {X : Type 0} (P : X → Type 0) (xs : List X) (x : X) → All P xs → P x → All P (xs ++ x ∷ [])
all_more P xs x all here = All-append P xs (x ∷ []) all (All-cons P x [] here (All-nil P))

pub contains_front : {X : Type 0} (xs ys : List X) (x : X) → Contains xs x → Contains (xs ++ ys) x
contains_front xs ys x has = Contains-from_In (xs ++ ys) x (In-front xs ys x (In-from_Contains xs x has))

pub contains_last : {X : Type 0} (xs : List X) (x : X) → Contains (xs ++ x ∷ []) x
contains_last xs x = Contains-from_In (xs ++ x ∷ []) x (In-back xs (x ∷ []) x (inl refl))

-- ---- the link

pub connections_more : (xs : List Attempt) (x : Attempt) → connections_of (xs ++ x ∷ []) ≡ connections_of xs ++ connection_list x.connection
connections_more [] x = append-nil (connection_list x.connection)
connections_more (y ∷ xs) x =
    ap (λ (cs : List Connection). connection_list y.connection ++ cs) (connections_more xs x)
    ∙ sym (append_assoc (connection_list y.connection) (connections_of xs) (connection_list x.connection))

pub dials_more : (place : ℕ) (xs : List Attempt) (x : Attempt) (dials : Dials) → dials_by place (xs ++ x ∷ []) dials
    ≡ dials_after (is_some x.connection) x.out.port (place + length (connections_of xs)) (dials_by place xs dials)
dials_more place [] x dials =
    let same : place ≡ place + length (connections_of []) = omega arith in
    ap (λ n. dials_after (is_some x.connection) x.out.port n dials) same
dials_more place (y ∷ xs) x dials =
    let mine = connection_list y.connection in
    let then = dials_after (is_some y.connection) y.out.port place dials in
    let same : (place + length mine) + length (connections_of xs) ≡ place + length (mine ++ connections_of xs) =
    omega (arith, length-append mine (connections_of xs)) in
    dials_more (place + length mine) xs x then
    ∙ ap (λ n. dials_after (is_some x.connection) x.out.port n (dials_by (place + length mine) xs then)) same

-- ---- turns

pub least_more : (least : ℕ) (xs : List Attempt) (x : Attempt) → least_after least (xs ++ x ∷ []) ≡ least_behind x
least_more least [] x = refl
least_more least (y ∷ xs) x = least_more (least_behind y) xs x

pub turns_more : (least : ℕ) (xs : List Attempt) (x : Attempt) → AreInTurn least xs → least_after least xs ≤ x.hook.serial
    → AreInTurn least (xs ++ x ∷ [])
turns_more least [] x turns le = (le, tt)
turns_more least (y ∷ xs) x turns le = (turns.0, turns_more (least_behind y) xs x turns.1 le)

pub behind_accepted : (x : Attempt) → is_accepted x ≡ true → least_behind x ≡ x.hook.serial
behind_accepted x is = ap (λ (b : Bool). cond b x.hook.serial (suc x.hook.serial)) is

pub behind_other : (x : Attempt) → is_accepted x ≡ false → least_behind x ≡ suc x.hook.serial
behind_other x is = ap (λ (b : Bool). cond b x.hook.serial (suc x.hook.serial)) is

-- ---- what was accepted

accepted_append : (xs : List Attempt) (x : Attempt) → accepted_events (xs ++ x ∷ []) ≡ accepted_events xs ++ accepted_events (x ∷ [])
accepted_append xs x =
    ap (map (λ (y : Attempt). y.event)) (filter_append is_accepted xs (x ∷ []))
    ∙ map-append (λ (y : Attempt). y.event) (accepted_in xs) (accepted_in (x ∷ []))

pub accepted_more : (xs : List Attempt) (x : Attempt) → is_accepted x ≡ true → accepted_events (xs ++ x ∷ []) ≡ accepted_events xs ++ x.event ∷ []
accepted_more xs x is =
    accepted_append xs x
    ∙ ap (λ (ys : List Attempt). accepted_events xs ++ map (λ (y : Attempt). y.event) ys) (filter_yes is_accepted x [] is)

pub accepted_same : (xs : List Attempt) (x : Attempt) → is_accepted x ≡ false → accepted_events (xs ++ x ∷ []) ≡ accepted_events xs
accepted_same xs x is =
    accepted_append xs x
    ∙ ap (λ (ys : List Attempt). accepted_events xs ++ map (λ (y : Attempt). y.event) ys) (filter_no is_accepted x [] is)
    ∙ append-nil (accepted_events xs)

-- ---- the changes

abbrev here : StoreState → List StoreState → StoreState
here s states = last_or s states

pub gone_more : (s : StoreState) (events : List EventRow) (moments : List ℕ) (states : List StoreState) (event : EventRow) (moment : ℕ)
    → HaveGone s events moments states → fits (journal_of_state (last_or s states)) (Delivered moment event.serial) ≡ true
    → HaveGone s (events ++ event ∷ []) (moments ++ moment ∷ []) (states ++ state_with_change (last_or s states) (Delivered moment event.serial) [] ∷ [])
gone_more s [] [] [] event moment gone fit = (fit, refl, (refl, refl))
gone_more s [] [] (t ∷ states) event moment gone fit = absurd (let no = gone.1 in cc)
gone_more s [] (m ∷ moments) states event moment gone fit = absurd (let no = gone.0 in cc)
gone_more s (e ∷ events) [] states event moment gone fit = absurd gone
gone_more s (e ∷ events) (m ∷ moments) [] event moment gone fit = absurd gone
gone_more s (e ∷ events) (m ∷ moments) (t ∷ states) event moment gone fit =
    (gone.0, gone.1, gone_more t events moments states event moment gone.2 fit)

pub gone_lengths : (s : StoreState) (events : List EventRow) (moments : List ℕ) (states : List StoreState) → HaveGone s events moments states
    → (length moments ≡ length events) × (length states ≡ length events)
gone_lengths s [] moments states gone = (ap length gone.0, ap length gone.1)
gone_lengths s (e ∷ events) [] states gone = absurd gone
gone_lengths s (e ∷ events) (m ∷ moments) [] gone = absurd gone
gone_lengths s (e ∷ events) (m ∷ moments) (t ∷ states) gone =
    let rest = gone_lengths t events moments states gone.2 in
    (ap suc rest.0, ap suc rest.1)

-- ---- what a crash leaves

part_more : (back : List Attempt) (x : Attempt) (begun : List (List ℕ)) → IsPartTold back begun → IsPartTold (back ++ x ∷ []) begun
part_more back x [] part = tt
part_more [] x (sent ∷ told) part = absurd part
part_more (y ∷ back) x (sent ∷ told) part = part

-- one attempt more changes nothing of what was left
pub left_more : (b : Beginning StoreState) (xs : List Attempt) (x : Attempt) (states : List StoreState) (p : Left) → IsLeftBy b xs states p
    → IsLeftBy b (xs ++ x ∷ []) states p
left_more b xs x states p left = record {
  front = left.front;
  back = left.back ++ x ∷ [];
  parts = ap (λ (ys : List Attempt). ys ++ x ∷ []) left.parts ∙ append_assoc left.front left.back (x ∷ []);
  begun = left.begun;
  part = part_more left.back x left.begun left.part;
  told = left.told;
  count = left.count;
  within = left.within;
  most = left.most;
  least = left.least;
  stands = left.stands;
}

-- nor does one state more
pub left_later : (b : Beginning StoreState) (xs : List Attempt) (states : List StoreState) (s : StoreState) (p : Left) → IsLeftBy b xs states p
    → IsLeftBy b xs (states ++ s ∷ []) p
left_later b xs states s p left = record {
  front = left.front;
  back = left.back;
  parts = left.parts;
  begun = left.begun;
  part = left.part;
  told = left.told;
  count = left.count;
  within = omega (arith, left.within, length_more states s);
  most = left.most;
  least = left.least;
  stands = subst (λ (ts : List StoreState). HasArchive b.state.half (last_or b.state ts).archive p.image) (sym (take_front left.count states (s ∷ []) left.within))
      left.stands;
}

-- behind whole attempts, and a part of the next one
pub left_within : (b : Beginning StoreState) (xs back : List Attempt) (begun : List (List ℕ)) (states : List StoreState) (p : Left)
    → IsPartTold back begun → p.told ≡ map (λ (c : Connection). c.told) (b.before ++ connections_of xs) ++ begun
    → length (accepted_in xs) ≡ length states → HasArchive b.state.half (last_or b.state states).archive p.image → IsLeftBy b (xs ++ back) states p
left_within b xs back begun states p part told accepted stands = record {
  front = xs;
  back = back;
  parts = refl;
  begun = begun;
  part = part;
  told = told;
  count = length states;
  within = omega arith;
  most = omega (arith, accepted);
  least = omega (arith, accepted);
  stands = subst (λ (ts : List StoreState). HasArchive b.state.half (last_or b.state ts).archive p.image) (sym (take_length states)) stands;
}

-- the same while the last event goes: it has gone, or it hasn't
pub left_going : (b : Beginning StoreState) (xs : List Attempt) (states : List StoreState) (next : StoreState) (p : Left)
    → p.told ≡ map (λ (c : Connection). c.told) (b.before ++ connections_of xs) → length (accepted_in xs) ≡ length states + 1
    → HasArchive b.state.half (last_or b.state states).archive p.image ⊎ HasArchive b.state.half next.archive p.image
    → IsLeftBy b xs (states ++ next ∷ []) p
left_going b xs states next p told accepted (inl before) = record {
  front = xs;
  back = [];
  parts = sym (append-nil xs);
  begun = [];
  part = tt;
  told = told ∙ sym (append-nil _);
  count = length states;
  within = omega (arith, length_more states next);
  most = omega (arith, accepted);
  least = omega (arith, accepted);
  stands = subst (λ (ts : List StoreState). HasArchive b.state.half (last_or b.state ts).archive p.image)
      (sym (take_front (length states) states (next ∷ []) (omega arith) ∙ take_length states)) before;
}
left_going b xs states next p told accepted (inr after) = record {
  front = xs;
  back = [];
  parts = sym (append-nil xs);
  begun = [];
  part = tt;
  told = told ∙ sym (append-nil _);
  count = length (states ++ next ∷ []);
  within = omega arith;
  most = omega (arith, accepted, length_more states next);
  least = omega (arith, accepted, length_more states next);
  stands = subst (λ (ts : List StoreState). HasArchive b.state.half (last_or b.state ts).archive p.image) (sym (take_length (states ++ next ∷ [])))
      (subst (λ (s : StoreState). HasArchive b.state.half s.archive p.image) (sym (last_more b.state states next)) after);
}

-- what a step of an exchange leaves told
pub begun_by : (bytes : List ℕ) (q p : Left) (x : Attempt) → x.out.bytes ≡ bytes → MayTell bytes q p
    → (begun : List (List ℕ)) × IsPartTold (x ∷ []) begun × (p.told ≡ q.told ++ begun)
begun_by bytes q p x same step =
    elim step.told [
      | inl still ↦ ([], tt, still ∙ sym (append-nil q.told))
      | inr (sent, prefix, is) ↦ (sent ∷ [], (subst (λ (whole : List ℕ). Rattle.site_edge.specs.Saying.IsPrefix sent whole) (sym same) prefix, refl), is)
    ]
