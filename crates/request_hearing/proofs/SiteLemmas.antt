-- What calls of a link leave, one after another.
use Rattle.std.proofs.Common.{◌≡◌, ◌≤◌, ℕ, zero, suc, Bool, true, false, not, ◌&&◌, ◌||◌, ◌==◌, List, [], ◌∷◌, ◌++◌, length, map, Result, Ok, Err, inl, inr, rules, codes, if◌then◌else◌, refl, sym, ap, ◌∙◌, subst, arith}
use Rattle.std.specs.List.{AllByRecursion}
use Rattle.std.specs.Prelude.{IfOk, is_ok}
use Rattle.std.specs.Fmt.{digits}
use Rattle.std.proofs.lemmas.Bool.{false≢true}
use Rattle.std.proofs.lemmas.Bool.Decides.{nat_tests}
use Rattle.std.proofs.lemmas.List.{append-nil, append_assoc, map-append, take-append-le}
use Rattle.disk_trait.specs.Device.{Connection, Device, HearCall, Left}
use Rattle.disk_trait.specs.Calls.{Unchanged}
use Rattle.disk_trait.proofs.Theorems.{counted_twice, elapses_twice, elapses_weaker, no_time, same_device_twice}
use Rattle.site_edge.specs.Links.{SiteHeard, LinkCall, SamePeers, Said, Sends, Tells, after_hear, change_last}
use Rattle.tams_machine.specs.Requests.{interim_text}
use Rattle.run_history.proofs.Hearings.{each-append, each-weaker}
use Rattle.request_hearing.specs.Hearing.{HearPart, HearsAndSays, IsPartOf, after_hearing, interim_bytes, part_behind, place_call}
use Rattle.request_hearing.specs.Turning.{heard_bytes, heard_end, hearing_end, one_part}

-- ---- the last of a list, changed twice

change_last-behind : {A : Type 0} (f g : A → A) (x y : A) (xs : List A)
    → change_last f (x ∷ change_last g (y ∷ xs)) ≡ x ∷ change_last f (change_last g (y ∷ xs))
change_last-behind f g x y [] = refl
change_last-behind f g x y (z ∷ xs) = refl

pub change_last-twice : {A : Type 0} (f g h : A → A) (l : List A) → ((x : A) → f (g x) ≡ h x) → change_last f (change_last g l) ≡ change_last h l
change_last-twice f g h [] same = refl
change_last-twice f g h (x ∷ []) same = ap (λ y. y ∷ []) (same x)
change_last-twice f g h (x ∷ y ∷ xs) same = change_last-behind f g x y xs ∙ ap (λ l. x ∷ l) (change_last-twice f g h (y ∷ xs) same)

pub change_last-same : {A : Type 0} (f h : A → A) (l : List A) → ((x : A) → f x ≡ h x) → change_last f l ≡ change_last h l
change_last-same f h [] same = refl
change_last-same f h (x ∷ []) same = ap (λ y. y ∷ []) (same x)
change_last-same f h (x ∷ y ∷ xs) same = ap (λ l. x ∷ l) (change_last-same f h (y ∷ xs) same)

pub change_last-none : {A : Type 0} (l : List (List A)) → change_last (λ t. t ++ []) l ≡ l
change_last-none [] = refl
change_last-none (t ∷ []) = ap (λ x. x ∷ []) (append-nil t)
change_last-none (t ∷ u ∷ l) = ap (λ x. t ∷ x) (change_last-none (u ∷ l))

pub change_last-itself : {A : Type 0} (f : A → A) (l : List A) → ((x : A) → f x ≡ x) → change_last f l ≡ l
change_last-itself f [] same = refl
change_last-itself f (x ∷ []) same = ap (λ y. y ∷ []) (same x)
change_last-itself f (x ∷ y ∷ xs) same = ap (λ l. x ∷ l) (change_last-itself f (y ∷ xs) same)

-- ---- what was said

none_of_none : (sent rest : List ℕ) → [] ≡ sent ++ rest → sent ≡ []
none_of_none [] rest is = refl
none_of_none (x ∷ sent) rest is = absurd cc

-- nothing was sent of nothing
pub sends_none : (ok : Bool) (sent : List ℕ) → Sends ok [] sent → sent ≡ []
sends_none ok sent sends = none_of_none sent sends.prefix.0 sends.prefix.1

pub sends_nothing : (ok : Bool) → Sends ok [] []
sends_nothing ok = record { prefix = ([], refl); whole = λ _. refl }

-- telling nothing changes nothing
pub tells_none : (ok : Bool) (q p : Left) → Tells ok [] q p → Unchanged q p
tells_none ok q p tells =
    let none : tells.told.0 ≡ [] = sends_none ok tells.told.0 tells.told.1 in
    let told : p.told ≡ q.told = tells.told.2 ∙ ap (λ sent. change_last (λ t. t ++ sent) q.told) none ∙ change_last-none q.told in
    rw (← told, ← tells.image) refl

pub none_told : (ok : Bool) (q p : Left) → Unchanged q p → Tells ok [] q p
none_told ok q p same = record {
  image = ap (λ (l : Left). l.image) same;
  told = ([], sends_nothing ok, ap (λ (l : Left). l.told) same ∙ sym (change_last-none q.told));
}

-- ---- connections

-- calls behind others, at their places
placed_behind : (x s : List ℕ) (c behind : Connection) → behind.heard ≡ c.heard ++ x → behind.told ≡ c.told ++ s → behind.unsaid ≡ c.unsaid
    → (more : List HearPart) → map (place_call behind) more ≡ map (place_call c) (map (part_behind x s) more)
placed_behind x s c behind heard told unsaid [] = refl
placed_behind x s c behind heard told unsaid (p ∷ more) =
    let first : place_call behind p ≡ place_call c (part_behind x s p) =
    rw (heard, told, unsaid, append_assoc c.heard x p.heard, append_assoc c.told s p.told) refl in
    ap (λ call. call ∷ map (place_call behind) more) first
    ∙ ap (λ calls. place_call c (part_behind x s p) ∷ calls) (placed_behind x s c behind heard told unsaid more)

listed_twice : (unheard : Bool) (calls first second both : List HearCall) → first ++ second ≡ both
    → (if unheard then (if unheard then calls else calls ++ first) else (if unheard then calls else calls ++ first) ++ second)
    ≡ (if unheard then calls else calls ++ both)
listed_twice true calls first second both is = refl
listed_twice false calls first second both is = append_assoc calls first second ∙ ap (λ l. calls ++ l) is

pub hearing_twice : (parts more : List HearPart) (x y s t : List ℕ) (ended unheard unsaid : Bool) (c : Connection)
    → after_hearing more y t ended unheard unsaid (after_hearing parts x s false false false c)
    ≡ after_hearing (parts ++ map (part_behind x s) more) (x ++ y) (s ++ t) ended unheard unsaid c
hearing_twice parts more x y s t ended unheard unsaid c =
    let first = after_hearing parts x s false false false c in
    let placed = placed_behind x s c first refl refl refl more in
    let both = sym (map-append (place_call c) parts (map (part_behind x s) more) ∙ ap (λ l. map (place_call c) parts ++ l) (sym placed)) in
    let calls = listed_twice c.unheard c.hearings (map (place_call c) parts) (map (place_call first) more)
    (map (place_call c) (parts ++ map (part_behind x s) more)) both in
    rw (append_assoc c.heard x y, append_assoc c.told s t, calls) refl

-- of calls of which none failed, and others behind them, only the last may have failed
pub parts_twice : (parts more : List HearPart) (x y : List ℕ) (said says unheard : Bool) → said && says ≡ false
    → AllByRecursion (IsPartOf x (interim_bytes said) false) parts → AllByRecursion (IsPartOf y (interim_bytes says) unheard) more
    → AllByRecursion (IsPartOf (x ++ y) (interim_bytes (said || says)) unheard) (parts ++ map (part_behind x (interim_bytes said)) more)
parts_twice parts more x y said says unheard once one two =
    each-append _ parts (map (part_behind x (interim_bytes said)) more)
    (each-weaker _ _ (λ p is. record {
      prefix = (is.prefix.0 ++ y, ap (λ l. l ++ y) is.prefix.1 ∙ append_assoc p.heard is.prefix.0 y);
      failed = λ failed. absurd (false≢true (is.failed failed).0);
    }) parts one)
    (each-behind more two)
  where
    told_all : (said says : Bool) → said && says ≡ false → interim_bytes said ++ interim_bytes says ≡ interim_bytes (said || says)
    told_all true true once = absurd (false≢true (sym once))
    told_all true false once = append-nil interim_text
    told_all false says once = refl

    each-behind : (ps : List HearPart) → AllByRecursion (IsPartOf y (interim_bytes says) unheard) ps
        → AllByRecursion (IsPartOf (x ++ y) (interim_bytes (said || says)) unheard) (map (part_behind x (interim_bytes said)) ps)
    each-behind [] all = tt
    each-behind (p ∷ ps) all = (
      record {
        prefix = (all.0.prefix.0, ap (λ l. x ++ l) all.0.prefix.1 ∙ sym (append_assoc x p.heard all.0.prefix.0));
        failed = λ failed.
            let last = all.0.failed failed in (
              last.0,
              ap (λ l. x ++ l) last.1,
              ap (λ l. interim_bytes said ++ l) last.2 ∙ told_all said says once,
            );
      },
      each-behind ps all.1,
    )

module _ (parts more : List HearPart) (x y : List ℕ) (whole held ended : Bool) (a b c : Device) where
  peers_twice : SamePeers a b → SamePeers b c → SamePeers a c
  peers_twice one two = record { peer_faults = two.peer_faults ∙ one.peer_faults; closed = two.closed ∙ one.closed; dials = two.dials ∙ one.dials }

  -- nothing was said before
  says_later : (says : Bool) → HearsAndSays parts x false true true false a b → HearsAndSays more y says whole held ended b c
      → HearsAndSays (parts ++ map (part_behind x []) more) (x ++ y) says whole held ended a c
  says_later says one two = record {
    call = record {
      same = same_device_twice a b c one.call.same two.call.same;
      faults = two.call.faults ∙ one.call.faults;
      seen = two.call.seen ∙ one.call.seen;
      handed = two.call.handed ∙ one.call.handed;
      counted = counted_twice held _ _ _ one.call.counted two.call.counted;
      time = elapses_weaker _ _ _ _ a c (elapses_twice _ _ _ _ a b c one.call.time two.call.time)
          (λ q p could steps. elim steps [
            | inl so_far ↦ unsaid q p so_far
            | inr both ↦ subst (λ m. Tells false (interim_bytes says) m p) (tells_none true q both.0 both.1) both.2
          ])
          (λ q p could left both. subst (λ m. Tells whole (interim_bytes says) m p) (tells_none true q both.0 both.1) both.2);
    };
    peers = peers_twice one.peers two.peers;
    under_way = two.under_way ∙ one.under_way;
    parts_are = parts_twice parts more x y false says (whole && not held) refl one.parts_are two.parts_are;
    connections = λ tells.
        let first = one.connections tells in
        let second = two.connections (one.call.same.tells ∙ tells) in
        let none : first.0 ≡ [] = sends_none true first.0 first.1 in (
          second.0,
          second.1,
          second.2 ∙ ap (change_last (after_hearing more y second.0 ended (whole && not held) (not whole))) first.2
              ∙ change_last-twice _ _ _ a.link.connections (hearing_twice parts more x y first.0 second.0 ended (whole && not held) (not whole))
              ∙ ap (λ sent. change_last (after_hearing (parts ++ map (part_behind x sent) more) (x ++ y) (sent ++ second.0) ended
              (whole && not held) (not whole)) a.link.connections) none,
        );
  }
    where
      unsaid : (q p : Left) → Tells false [] q p → Tells false (interim_bytes says) q p
      unsaid q p tells =
          let same = tells_none false q p tells in
          record {
            image = tells.image;
            told = (
              [],
              record { prefix = (interim_bytes says, refl); whole = λ no. absurd (false≢true no) },
              ap (λ (l : Left). l.told) same ∙ sym (change_last-none q.told),
            );
          }

  -- the interim response was said before
  said_before : HearsAndSays parts x true true true false a b → HearsAndSays more y false whole held ended b c
      → HearsAndSays (parts ++ map (part_behind x interim_text) more) (x ++ y) true whole held ended a c
  said_before one two = record {
    call = record {
      same = same_device_twice a b c one.call.same two.call.same;
      faults = two.call.faults ∙ one.call.faults;
      seen = two.call.seen ∙ one.call.seen;
      handed = two.call.handed ∙ one.call.handed;
      counted = counted_twice held _ _ _ one.call.counted two.call.counted;
      time = elapses_weaker _ _ _ _ a c (elapses_twice _ _ _ _ a b c one.call.time two.call.time)
          (λ q p could steps. elim steps [
            | inl so_far ↦ so_far
            | inr both ↦ part q p (subst (λ m. Tells true interim_text q m) (sym (tells_none false both.0 p both.2)) both.1)
          ])
          (λ q p could left both. whole_by q p (subst (λ m. Tells true interim_text q m) (sym (tells_none whole both.0 p both.2)) both.1));
    };
    peers = peers_twice one.peers two.peers;
    under_way = two.under_way ∙ one.under_way;
    parts_are = parts_twice parts more x y true false (whole && not held) refl one.parts_are two.parts_are;
    connections = λ tells.
        let first = one.connections tells in
        let second = two.connections (one.call.same.tells ∙ tells) in
        let none : second.0 ≡ [] = sends_none whole second.0 second.1 in (
          first.0,
          sends_any first.0 first.1,
          second.2 ∙ ap (change_last (after_hearing more y second.0 ended (whole && not held) (not whole))) first.2
              ∙ change_last-twice _ _ _ a.link.connections (hearing_twice parts more x y first.0 second.0 ended (whole && not held) (not whole))
              ∙ ap (λ sent. change_last (after_hearing (parts ++ map (part_behind x first.0) more) (x ++ y) sent ended (whole && not held) (not whole))
              a.link.connections) (ap (λ s. first.0 ++ s) none ∙ append-nil first.0)
              ∙ ap (λ sent. change_last (after_hearing (parts ++ map (part_behind x sent) more) (x ++ y) first.0 ended (whole && not held) (not whole))
              a.link.connections) (first.1.whole refl),
        );
  }
    where
      sends_any : {ok : Bool} (sent : List ℕ) → Sends true interim_text sent → Sends ok interim_text sent
      sends_any sent sends = record { prefix = sends.prefix; whole = λ _. sends.whole refl }

      part : (q p : Left) → Tells true interim_text q p → Tells false interim_text q p
      part q p tells = record { image = tells.image; told = (tells.told.0, sends_any tells.told.0 tells.told.1, tells.told.2) }

      whole_by : (q p : Left) → Tells true interim_text q p → Tells whole interim_text q p
      whole_by q p tells = record { image = tells.image; told = (tells.told.0, sends_any tells.told.0 tells.told.1, tells.told.2) }

  -- it is said at most once
  pub hears_twice : (said says : Bool) → said && says ≡ false → HearsAndSays parts x said true true false a b
      → HearsAndSays more y says whole held ended b c
      → HearsAndSays (parts ++ map (part_behind x (interim_bytes said)) more) (x ++ y) (said || says) whole held ended a c
  hears_twice false says once one two = says_later says one two
  hears_twice true false once one two = said_before one two
  hears_twice true true once one two = absurd (false≢true (sym once))

-- ---- single calls

-- no call at all
pub listed_none : (unheard : Bool) (calls : List HearCall) → (if unheard then calls else calls ++ []) ≡ calls
listed_none true calls = refl
listed_none false calls = append-nil calls

pub hears_nothing : (d : Device) → HearsAndSays [] [] false true true false d d
hears_nothing d = record {
  call = record {
    same = record { size = refl; honest = refl; shows = refl; tells = refl };
    faults = refl;
    seen = refl;
    handed = refl;
    counted = record { never_falls = omega arith; stays = λ _. refl; rises = λ no. absurd (false≢true (sym no)) };
    time = elapses_weaker _ _ _ _ d d (no_time Unchanged d (λ p. refl)) (λ q p could same. none_told false q p same)
        (λ q p could left same. none_told true q p same);
  };
  peers = record { peer_faults = refl; closed = refl; dials = refl };
  under_way = refl;
  parts_are = tt;
  connections = λ tells. (
    [],
    sends_nothing true,
    sym (change_last-itself _ d.link.connections (λ c. rw (append-nil c.heard, append-nil c.told, listed_none c.unheard c.hearings) refl)),
  );
}

-- a connection that was heard
heard_so : {E : Type 0} (r : Result ℕ E) (out : List ℕ) (c : Connection)
    → after_hear r out c ≡ after_hearing (one_part (hearing_end r)) (heard_bytes r out) [] (heard_end r) (true && not (is_ok r)) false c
heard_so (Ok zero) out c = rw (append-nil c.heard, append-nil c.told) refl
heard_so (Ok (suc n)) out c =
    let more : suc n == 0 ≡ false = search (arith, rules, nat_tests) in
    rw (append-nil c.heard, append-nil c.told, more) refl
heard_so (Err e) out c = rw (append-nil c.heard, append-nil c.told) refl

-- its one call is the last
one_is_last : {E : Type 0} (r : Result ℕ E) (out : List ℕ)
    → AllByRecursion (IsPartOf (heard_bytes r out) [] (true && not (is_ok r))) (one_part (hearing_end r))
one_is_last (Ok zero) out = (record { prefix = (_, refl); failed = λ failed. cc }, tt)
one_is_last (Ok (suc n)) out = (record { prefix = (_, refl); failed = λ failed. cc }, tt)
one_is_last (Err e) out = (record { prefix = (_, refl); failed = λ failed. (refl, refl, refl) }, tt)

pub hears_once : {E : Type 0} (r : Result ℕ E) (out : List ℕ) (old new : Device)
    → LinkCall Unchanged Unchanged (is_ok r) old new → SiteHeard r out old new
    → HearsAndSays (one_part (hearing_end r)) (heard_bytes r out) false true (is_ok r) (heard_end r) old new
hears_once r out old new call heard = record {
  call = record {
    same = call.same;
    faults = call.faults;
    seen = call.seen;
    handed = call.handed;
    counted = call.counted;
    time = elapses_weaker _ _ _ _ old new call.time (λ q p could same. none_told false q p same) (λ q p could left same. none_told true q p same);
  };
  peers = heard.peers;
  under_way = heard.under_way;
  parts_are = one_is_last r out;
  connections = λ tells. ([], sends_nothing true, heard.connections tells ∙ change_last-same _ _ old.link.connections (heard_so r out));
}

-- a connection to which something was said
or_not : (failed ok : Bool) → (failed || not ok) ≡ (not ok || failed)
or_not true true = refl
or_not true false = refl
or_not false true = refl
or_not false false = refl

and_not : (ok : Bool) → (ok && not ok) ≡ false
and_not true = refl
and_not false = refl

pub interim_written : interim_text ≡ codes "HTTP/1.1 100 Continue\r\n\r\n"
unfolding digits
interim_written = refl

pub says_once : (ok : Bool) (text : List ℕ) (old new : Device) → interim_text ≡ text → LinkCall (Tells false text) (Tells ok text) ok old new
    → Said ok text old new → HearsAndSays [] [] true ok ok false old new
says_once ok text old new is call said = record {
  call = rw is call;
  peers = said.peers;
  under_way = said.under_way;
  parts_are = tt;
  connections = λ tells.
      let told = said.connections tells in (
        told.0,
        rw is told.1,
        told.2 ∙ change_last-same _ _ old.link.connections
            (λ c. rw (append-nil c.heard, or_not c.unsaid ok, listed_none c.unheard c.hearings, and_not ok) refl),
      );
}

-- a hearing into the front of a buffer
pub hears_front : {E : Type 0} (r : Result ℕ E) (front free back : List ℕ) (old new : Device) → length free ≡ length front
    → IfOk r (λ count. count ≤ length front)
    → HearsAndSays (one_part (hearing_end r)) (heard_bytes r free) false true (is_ok r) (heard_end r) old new
    → HearsAndSays (one_part (hearing_end r)) (heard_bytes r (free ++ back)) false true (is_ok r) (heard_end r) old new
hears_front (Ok count) front free back old new same within hears = rw (take-append-le count free back (omega (arith, same, within))) hears
hears_front (Err e) front free back old new same within hears = hears

-- what was said before a hearing was said with it
pub says_then : (says whole held ended : Bool) (parts : List HearPart) (bytes : List ℕ) (a b c : Device) → HearsAndSays [] [] says true true false a b
    → HearsAndSays parts bytes false whole held ended b c
    → HearsAndSays (map (part_behind [] (interim_bytes says)) parts) bytes says whole held ended a c
says_then true whole held ended parts bytes a b c one two = hears_twice [] parts [] bytes whole held ended a b c true false refl one two
says_then false whole held ended parts bytes a b c one two = hears_twice [] parts [] bytes whole held ended a b c false false refl one two
