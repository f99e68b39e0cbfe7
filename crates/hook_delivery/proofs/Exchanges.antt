-- What the calls of an exchange leave, one after another.
use Rattle.std.proofs.Common.{◌≡◌, ℕ, zero, suc, ◌+◌, ◌<◌, ◌≤◌, Bool, true, false, List, [], ◌∷◌, ◌++◌, length, take, drop, refl, sym, ap, ◌∙◌, subst, arith, inl, inr, Ok, Err}
use Rattle.std.proofs.lemmas.List.{append-nil, length-take-le}
use Rattle.std.proofs.Math.Seq.{take-add}
use Rattle.disk_trait.specs.Calls.{IsCounted, Rose, Unchanged}
use Rattle.disk_trait.specs.Device.{Connection, Device, Left}
use Rattle.disk_trait.proofs.Theorems.{counted_twice, elapses_twice, elapses_weaker, no_time, same_device_twice}
use Rattle.site_edge.specs.Links.{AddsConnection, Closed, DialStep, HasDialled, LinkCall, Said, SamePeers, SiteHeard, Tells, after_hear, after_say, change_last, fresh}
use Rattle.hook_delivery.specs.Exchanging.{HasExchanged, HasTalked, IsAnswer, IsHeardOut, MayTell, SaysAnswer, has_held}
use Rattle.hook_delivery.specs.Within.Conversing.{HasAsked, HasHeard, HearsAnswer, HearsSoFar}
use Rattle.hook_delivery.specs.declared.exchanging.Answered.{Answered}
use Rattle.hook_delivery.specs.declared.exchanging.Answered.TheVariants.{Accepted, Other, Silent, Failed}

-- ---- calls of a link in a row

-- two calls, by what the steps of both come to
links_twice : (within1 ended1 within2 ended2 within ended : Left → Left → Type 0) (ok1 ok2 ok : Bool) (old mid new : Device)
    → LinkCall within1 ended1 ok1 old mid → LinkCall within2 ended2 ok2 mid new → IsCounted ok old.link.faults new.link.faults
    → ((q p : Left) → within1 q p → within q p) → ((q m p : Left) → ended1 q m → within2 m p → within q p)
    → ((q m p : Left) → ended1 q m → ended2 m p → ended q p) → LinkCall within ended ok old new
links_twice within1 ended1 within2 ended2 within ended ok1 ok2 ok old mid new first second counted begun later last = record {
  same = same_device_twice old mid new first.same second.same;
  faults = second.faults ∙ first.faults;
  seen = second.seen ∙ first.seen;
  handed = second.handed ∙ first.handed;
  counted = counted;
  time = elapses_weaker _ _ within ended old new (elapses_twice within1 ended1 within2 ended2 old mid new first.time second.time)
      (λ q p could steps. elim steps [ inl so_far ↦ begun q p so_far | inr both ↦ later q both.0 p both.1 both.2 ])
      (λ q p could left both. last q both.0 p both.1 both.2);
}

-- two calls that tell nothing
quiet_twice : (ok : Bool) (old mid new : Device) → LinkCall Unchanged Unchanged true old mid → LinkCall Unchanged Unchanged ok mid new
    → LinkCall Unchanged Unchanged ok old new
quiet_twice ok old mid new first second =
    links_twice Unchanged Unchanged Unchanged Unchanged Unchanged Unchanged true ok ok old mid new first second
    (counted_twice ok _ _ _ first.counted second.counted) (λ q p same. same) (λ q m p one two. two ∙ one) (λ q m p one two. two ∙ one)

-- a count over two calls, of which the second succeeds
counted_then : (ok : Bool) (before mid now : ℕ) → IsCounted ok before mid → IsCounted true mid now → IsCounted ok before now
counted_then ok before mid now first second = let same : now ≡ mid = second.stays refl in rw same first

peers_twice : (old mid new : Device) → SamePeers old mid → SamePeers mid new → SamePeers old new
peers_twice old mid new one two = record {
  peer_faults = two.peer_faults ∙ one.peer_faults;
  closed = two.closed ∙ one.closed;
  dials = two.dials ∙ one.dials;
}

-- the last of a list is the one behind the others
change_last-end : {A : Type 0} (f : A → A) (before : List A) (x : A) → change_last f (before ++ x ∷ []) ≡ before ++ f x ∷ []
change_last-end f [] x = refl
change_last-end f (y ∷ []) x = refl
change_last-end f (y ∷ z ∷ before) x = ap (λ l. y ∷ l) (change_last-end f (z ∷ before) x)

-- ---- answers

-- an answer that bytes say is no failure
held : (answer : Answered) (bytes : List ℕ) (ended : Bool) → SaysAnswer answer bytes ended → has_held answer ≡ true
held Accepted bytes ended says = refl
held (Other status) bytes ended says = refl
held Silent bytes ended says = refl
held Failed bytes ended says = absurd says

heard_out : (answer : Answered) (request : List ℕ) (c : Connection) (ended : Bool) {bytes : List ℕ} → SaysAnswer answer bytes ended
    → c.told ≡ request → c.unsaid ≡ false → c.unheard ≡ false → c.heard ≡ bytes → c.ended ≡ ended → IsHeardOut answer request c
heard_out answer request c ended says told unsaid unheard heard over =
    record { told = told; unsaid = unsaid; unheard = unheard; says = rw (heard, over) says }

-- a connection on which nothing failed has the answer that its bytes say
is_answer : (answer : Answered) (request : List ℕ) (c : Connection) (ended : Bool) {bytes : List ℕ} → SaysAnswer answer bytes ended
    → c.told ≡ request → c.unsaid ≡ false → c.unheard ≡ false → c.heard ≡ bytes → c.ended ≡ ended → IsAnswer answer request c
is_answer Accepted request c ended says told unsaid unheard heard over = heard_out Accepted request c ended says told unsaid unheard heard over
is_answer (Other status) request c ended says told unsaid unheard heard over =
    heard_out (Other status) request c ended says told unsaid unheard heard over
is_answer Silent request c ended says told unsaid unheard heard over = heard_out Silent request c ended says told unsaid unheard heard over
is_answer Failed request c ended says told unsaid unheard heard over = absurd says

-- ---- hearing

-- at first nothing was heard
pub hears_nothing : (d : Device) → HearsSoFar [] d d
hears_nothing d = record {
  call = record {
    same = record { size = refl; honest = refl; shows = refl; tells = refl };
    faults = refl;
    seen = refl;
    handed = refl;
    counted = record { never_falls = omega arith; stays = λ _. refl; rises = λ no. cc };
    time = no_time Unchanged d (λ p. refl);
  };
  peers = record { peer_faults = refl; closed = refl; dials = refl };
  under_way = refl;
  connections = λ tells before first is quiet. (first, is, quiet);
}

module _ {E : Type 0} (bytes out : List ℕ) (old mid new : Device) where
  -- some bytes more
  hears_more : (more : ℕ) → 0 < more → HearsSoFar bytes old mid → LinkCall Unchanged Unchanged true mid new
      → SiteHeard {E = E} (Ok more) out mid new → HearsSoFar (bytes ++ take more out) old new
  hears_more zero some so_far call heard = absurd (omega (arith, some))
  hears_more (suc n) some so_far call heard = record {
    call = quiet_twice true old mid new so_far.call call;
    peers = peers_twice old mid new so_far.peers heard.peers;
    under_way = heard.under_way ∙ so_far.under_way;
    connections = λ tells before first is quiet.
        let (c, at, has) = so_far.connections tells before first is quiet in (
          after_hear {E = E} (Ok (suc n)) out c,
          heard.connections (so_far.call.same.tells ∙ tells) ∙ ap (change_last (after_hear {E = E} (Ok (suc n)) out)) at ∙ change_last-end _ before c,
          record {
            told = has.told;
            heard = ap (λ l. l ++ take (suc n) out) has.heard;
            ended = has.ended;
            unsaid = has.unsaid;
            unheard = has.unheard;
          },
        );
  }

  -- the end of the peer's bytes
  hears_end : (answer : Answered) → SaysAnswer answer bytes true → HearsSoFar bytes old mid → LinkCall Unchanged Unchanged true mid new
      → SiteHeard {E = E} (Ok zero) out mid new → HearsAnswer answer old new
  hears_end answer says so_far call heard = record {
    call = rw (held answer bytes true says) (quiet_twice true old mid new so_far.call call);
    peers = peers_twice old mid new so_far.peers heard.peers;
    under_way = heard.under_way ∙ so_far.under_way;
    connections = λ tells before first is quiet.
        let (c, at, has) = so_far.connections tells before first is quiet in (
          after_hear {E = E} (Ok zero) out c,
          heard.connections (so_far.call.same.tells ∙ tells) ∙ ap (change_last (after_hear {E = E} (Ok zero) out)) at ∙ change_last-end _ before c,
          is_answer answer first.told (after_hear {E = E} (Ok zero) out c) true says has.told has.unsaid has.unheard has.heard refl,
        );
  }

  -- a hearing that failed
  pub hears_no_more : (why : E) → HearsSoFar bytes old mid → LinkCall Unchanged Unchanged false mid new → SiteHeard (Err why) out mid new
      → HearsAnswer Failed old new
  hears_no_more why so_far call heard = record {
    call = quiet_twice false old mid new so_far.call call;
    peers = peers_twice old mid new so_far.peers heard.peers;
    under_way = heard.under_way ∙ so_far.under_way;
    connections = λ tells before first is quiet.
        let (c, at, has) = so_far.connections tells before first is quiet in (
          after_hear (Err why) out c,
          heard.connections (so_far.call.same.tells ∙ tells) ∙ ap (change_last (after_hear (Err why) out)) at ∙ change_last-end _ before c,
          record { told = ([], sym has.told ∙ sym (append-nil c.told)); failed = rw has.unsaid refl },
        );
  }

-- some bytes more in a buffer, behind those that were heard
pub hears_behind : {E : Type 0} (count more : ℕ) (before after : List ℕ) (old mid new : Device) → take count after ≡ take count before
    → (more ≡ 0 → ⊥) → HearsSoFar (take count before) old mid → LinkCall Unchanged Unchanged true mid new
    → SiteHeard {E = E} (Ok more) (drop count after) mid new → HearsSoFar (take (count + more) after) old new
hears_behind count more before after old mid new front some so_far call heard =
    rw (take-add count more after, front)
    (hears_more (take count before) (drop count after) old mid new more (omega (arith, some)) so_far call heard)

-- the end of the peer's bytes, behind those that a buffer has
pub hears_last : {E : Type 0} (count more : ℕ) (before after : List ℕ) (old mid new : Device) (answer : Answered)
    → take count after ≡ take count before → more ≡ 0 → SaysAnswer answer (take count after) true → HearsSoFar (take count before) old mid
    → LinkCall Unchanged Unchanged true mid new → SiteHeard {E = E} (Ok more) (drop count after) mid new → HearsAnswer answer old new
hears_last {E} count more before after old mid new answer front none says so_far call heard =
    hears_end (take count before) (drop count after) old mid new answer (subst (λ bytes. SaysAnswer answer bytes true) front says) so_far call
    (subst (λ n. SiteHeard {E = E} (Ok n) (drop count after) mid new) none heard)

-- a front that is shorter than the room leaves some of it
pub leaves_room : (count : ℕ) (buffer : List ℕ) → count ≤ length buffer → length (take count buffer) < 16384 → count < 16384
leaves_room count buffer within short = rw (← length-take-le count buffer within) short

-- the bytes so far say enough
pub hears_enough : (bytes : List ℕ) (old new : Device) (answer : Answered) → SaysAnswer answer bytes false → HearsSoFar bytes old new
    → HearsAnswer answer old new
hears_enough bytes old new answer says so_far = record {
  call = rw (held answer bytes false says) so_far.call;
  peers = so_far.peers;
  under_way = so_far.under_way;
  connections = λ tells before first is quiet.
      let (c, at, has) = so_far.connections tells before first is quiet in
      (c, at, is_answer answer first.told c false says has.told has.unsaid has.unheard has.heard has.ended);
}

-- ---- saying

-- what was told whole was told
tells_so : (ok : Bool) (bytes : List ℕ) (q p : Left) → Tells true bytes q p → Tells ok bytes q p
tells_so ok bytes q p tells = record {
  image = tells.image;
  told = (tells.told.0, record { prefix = tells.told.1.prefix; whole = λ _. tells.told.1.whole refl }, tells.told.2);
}

module _ (request : List ℕ) (old mid new : Device) where
  -- a request that was said, and its answer
  pub asks : (answer : Answered) → LinkCall (Tells false request) (Tells true request) true old mid → Said true request old mid
      → HearsAnswer answer mid new → HasAsked request answer old new
  asks answer call said hears = record {
    call = links_twice _ _ _ _ (Tells false request) (Tells (has_held answer) request) true (has_held answer) (has_held answer) old mid new call
        hears.call (counted_twice _ _ _ _ call.counted hears.call.counted) (λ q p so_far. so_far)
        (λ q m p one two. rw two (tells_so false request q m one)) (λ q m p one two. rw two (tells_so (has_held answer) request q m one));
    peers = peers_twice old mid new said.peers hears.peers;
    connections = λ tells before is.
        let (sent, sends, at) = said.connections tells in
        let first : Connection = after_say true sent fresh in
        let stands = at ∙ ap (change_last (after_say true sent)) is ∙ change_last-end (after_say true sent) before fresh in
        let quiet : HasHeard first.told [] first = record { told = refl; heard = refl; ended = refl; unsaid = refl; unheard = refl } in
        let (c, c_at, answered) = hears.connections (call.same.tells ∙ tells) before first stands quiet in
        (c, c_at, subst (λ r. IsAnswer answer r c) (sends.whole refl) answered);
  }

-- a request that wasn't said whole
pub asks_in_vain : (request : List ℕ) (old new : Device) → LinkCall (Tells false request) (Tells false request) false old new
    → Said false request old new → HasAsked request Failed old new
asks_in_vain request old new call said = record {
  call = call;
  peers = said.peers;
  connections = λ tells before is.
      let (sent, sends, at) = said.connections tells in (
        after_say false sent fresh,
        at ∙ ap (change_last (after_say false sent)) is ∙ change_last-end (after_say false sent) before fresh,
        record { told = sends.prefix; failed = refl },
      );
}

-- ---- the exchange

-- a connection that began and was told something
begun_told : (ok : Bool) (request : List ℕ) (q m p : Left) → AddsConnection q m → (tells : Tells ok request m p)
    → p.told ≡ q.told ++ tells.told.0 ∷ []
begun_told ok request q m p begun tells =
    tells.told.2 ∙ ap (change_last (λ t. t ++ tells.told.0)) begun.told ∙ change_last-end (λ t. t ++ tells.told.0) q.told []

may_tell : (ok : Bool) (request : List ℕ) (q m p : Left) → AddsConnection q m → Tells ok request m p → MayTell request q p
may_tell ok request q m p begun tells = record {
  image = tells.image ∙ begun.image;
  told = inr (tells.told.0, tells.told.1.prefix, begun_told ok request q m p begun tells);
}

has_talked : (ok : Bool) (request : List ℕ) (q m p : Left) → AddsConnection q m → Tells ok request m p → HasTalked ok request q p
has_talked true request q m p begun tells = record {
  image = tells.image ∙ begun.image;
  told = begun_told true request q m p begun tells ∙ ap (λ sent. q.told ++ sent ∷ []) (tells.told.1.whole refl);
}
has_talked false request q m p begun tells = may_tell false request q m p begun tells

may_begin : (request : List ℕ) (q p : Left) → AddsConnection q p → MayTell request q p
may_begin request q p begun = record { image = begun.image; told = inr ([], (request, refl), begun.told) }

may_miss : (request : List ℕ) (q p : Left) → Unchanged q p → MayTell request q p
may_miss request q p same = record { image = ap (λ (l : Left). l.image) same; told = inl (ap (λ (l : Left). l.told) same) }

-- the port was dialled, the request was said and answered, and the connection was ended
exchanges : (port : ℕ) (request : List ℕ) (answer : Answered) (old begun asked new : Device)
    → LinkCall (DialStep true) (DialStep true) true old begun → HasDialled true port old begun → HasAsked request answer begun asked
    → LinkCall Unchanged Unchanged true asked new → Closed asked new → HasExchanged port request answer old new
exchanges port request answer old begun asked new dial dialled talk close closed =
    let ok = has_held answer in
    let talked : LinkCall (Tells false request) (Tells ok request) ok begun new =
    links_twice _ _ _ _ (Tells false request) (Tells ok request) ok true ok begun asked new talk.call close
    (counted_then ok _ _ _ talk.call.counted close.counted) (λ q p so_far. so_far) (λ q m p one two. rw two (part q m one))
    (λ q m p one two. rw two one) in
    record {
      call = links_twice _ _ _ _ (MayTell request) (HasTalked ok request) true ok ok old begun new dial talked
          (counted_twice ok _ _ _ dial.counted talked.counted) (may_begin request) (may_tell false request) (has_talked ok request);
      peer_faults = closed.peers.peer_faults ∙ talk.peers.peer_faults ∙ dialled.peer_faults;
      closed = closed.peers.closed ∙ talk.peers.closed ∙ dialled.closed;
      under_way = λ before. closed.under_way;
      dialled = λ tells.
          let (last, at, answered) = talk.connections (dial.same.tells ∙ tells) old.link.connections (dialled.connections tells) in
          inr (record {
            last = last;
            connections = closed.connections ∙ at;
            dials = closed.peers.dials ∙ talk.peers.dials ∙ dialled.dials tells;
            answered = answered;
          });
    }
  where
    part : (q m : Left) → Tells (has_held answer) request q m → Tells false request q m
    part q m tells = record {
      image = tells.image;
      told = (tells.told.0, record { prefix = tells.told.1.prefix; whole = λ no. cc }, tells.told.2);
    }

-- the same of a request by what was said
pub exchanges_with : (port : ℕ) (bytes request : List ℕ) (answer : Answered) (old begun asked new : Device) → bytes ≡ request
    → LinkCall (DialStep true) (DialStep true) true old begun → HasDialled true port old begun → HasAsked bytes answer begun asked
    → LinkCall Unchanged Unchanged true asked new → Closed asked new → HasExchanged port request answer old new
exchanges_with port bytes request answer old begun asked new same dial dialled talk close closed =
    subst (λ r. HasExchanged port r answer old new) same (exchanges port bytes answer old begun asked new dial dialled talk close closed)

-- the call of `dial` failed
pub misses : (port : ℕ) (request : List ℕ) (old new : Device) → LinkCall (DialStep false) (DialStep false) false old new
    → HasDialled false port old new → HasExchanged port request Failed old new
misses port request old new dial dialled = record {
  call = record {
    same = dial.same;
    faults = dial.faults;
    seen = dial.seen;
    handed = dial.handed;
    counted = dial.counted;
    time = elapses_weaker _ _ (MayTell request) (MayTell request) old new dial.time (λ q p could same. may_miss request q p same)
        (λ q p could left same. may_miss request q p same);
  };
  peer_faults = dialled.peer_faults;
  closed = dialled.closed;
  under_way = λ before. dialled.under_way ∙ before;
  dialled = λ tells. inl (record { failed = refl; connections = dialled.connections tells; dials = dialled.dials tells });
}

-- where an exchange failed the count of link faults rose
pub failed_rose : (port : ℕ) (request : List ℕ) (answer : Answered) (old new : Device) → HasExchanged port request answer old new
    → answer ≡ Failed → Rose old.link.faults new.link.faults
failed_rose port request answer old new exchanged failed = exchanged.call.counted.rises (ap has_held failed)
