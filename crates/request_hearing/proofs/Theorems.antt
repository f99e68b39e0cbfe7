-- What a service concludes from what was heard: where its run has come to, and the step that a request is.
use Rattle.std.proofs.Common.{◌≡◌, ◌≢◌, ◌<◌, ◌≤◌, ◌+◌, ◌-◌, ℕ, Bool, true, false, Result, Ok, Err, List, [], ◌∷◌, ◌++◌, length, map, drop, refl, sym, ap, ◌∙◌, subst, arith, length-append}
use Rattle.std.proofs.lemmas.List.{append-nil, append_assoc}
use Rattle.httparse.specs.Grammar.{RequestHead}
use Rattle.disk_trait.specs.Device.{Device, Left, may_leave}
use Rattle.disk_trait.specs.Calls.{Elapses, Unchanged}
use Rattle.disk_trait.proofs.Theorems.{elapses_weaker}
use Rattle.http_wire.specs.Agreeing.{MayTurn}
use Rattle.http_wire.specs.Feeds.{Fed, left_of, new_feed}
use Rattle.http_wire.specs.Framing.{is_media, judge}
use Rattle.http_wire.specs.Heads.{Front, IsHead, IsHeadBy, more, refused, whole}
use Rattle.http_wire.specs.Lines.{head_end}
use Rattle.http_wire.specs.Requests.{Got, IsNext, after_head, after_read, body_at, framed_body, given, opened, with_content}
use Rattle.http_wire.specs.declared.framing.Framing.{Framing}
use Rattle.http_wire.specs.declared.framing.Framing.TheVariants.{Chunked, Length}
use Rattle.http_wire.specs.declared.lines.Looked.{Looked}
use Rattle.http_wire.specs.declared.lines.Looked.TheVariants.{Ended, Still}
use Rattle.http_wire.specs.declared.framing.WireFault.{WireFault}
use Rattle.http_wire.specs.declared.stage.Head.{Head}
use Rattle.http_wire.specs.declared.stage.FeedStage.{FeedStage}
use Rattle.http_wire.specs.declared.stage.FeedStage.TheVariants as stages
use Rattle.http_wire.proofs.Hearings.{next_unique, stays_decided}
use Rattle.http_wire.proofs.Staying.{next_stays}
use Rattle.run_history.specs.Machine.{Machine}
use Rattle.run_history.specs.Sessions.{IsUnfinished, bytes_of_pieces}
use Rattle.run_history.specs.Steps.{Interim, interim_pieces}
use Rattle.run_history.specs.Traces.{Trace}
use Rattle.run_history.specs.Runs.{Beginning}
use Rattle.run_history.specs.Reaching.{Reached}
use Rattle.run_history.proofs.Invariant.{parts_suffice, quiet_calls, said_pieces}
use Rattle.tams_machine.specs.Answers.{heard_body}
use Rattle.tams_machine.specs.Machine.{tams_machine}
use Rattle.tams_machine.specs.Requests.{Heads, IsCut, IsRefused, IsWholeRequest, SpellsRequest, interim_text, media, other, waiting, within}
use Rattle.request_hearing.specs.Hearing.{GivesRequest, HearPart, HearsAndSays, OpensMedia, interim_bytes, interim_where, part_behind, with_interim}
use Rattle.request_hearing.specs.Laws.{MediaIsOpened, MediaUnsaidIsCut, RefusalsAreSteps, UnsaidIsCut, WaitingIsCut, WaitingIsUnfinished, WaitingOwesNothing, media_request}
use Rattle.request_hearing.proofs.SiteLemmas.{hears_twice, tells_none}

-- ---- what a crash leaves

-- a call that said nothing changes nothing of it
pub says_nothing : {parts : List HearPart} (bytes : List ℕ) (sent held ended : Bool) (old new : Device)
    → HearsAndSays parts bytes false sent held ended old new → Elapses Unchanged Unchanged old new
says_nothing bytes sent held ended old new h =
    elapses_weaker _ _ _ _ old new h.call.time (λ q p could tells. tells_none false q p tells) (λ q p could left tells. tells_none sent q p tells)

-- A run that has come so far has come as far behind a hearing, and the interim response with it where it was said.
pub reached_heard : {State Request : Type 0} (m : Machine State Request) (b : Beginning State) (t : Trace State) (writing : Bool) {parts : List HearPart}
    (bytes : List ℕ) (said sent held ended : Bool) (old new : Device) → Reached m b t true writing old
    → HearsAndSays parts bytes said sent held ended old new
    → Reached m b (with_interim said t) sent writing new
reached_heard {State} {Request} m b t writing bytes true sent held ended old new r h =
    said_pieces State Request m b t (Interim interim_text) sent writing old new (omega arith) r h.call.time
reached_heard {State} {Request} m b t writing bytes false true held ended old new r h =
    quiet_calls State Request m b t true writing old new r (says_nothing bytes true held ended old new h)
reached_heard {State} {Request} m b t writing bytes false false held ended old new r h =
    parts_suffice State Request m b t true writing new (quiet_calls State Request m b t true writing old new r (says_nothing bytes false held ended old new h))

-- each image that a crash may leave now is one that it might have left before
pub heard_images : {parts : List HearPart} (bytes : List ℕ) (said sent held ended : Bool) (old new : Device)
    → HearsAndSays parts bytes said sent held ended old new
    → (p : Left) → may_leave new p → (q : Left) × may_leave old q × (p.image ≡ q.image)
heard_images bytes said sent held ended old new h p could = let from = h.call.time.now p could in (from.0, from.1, from.2.image)

-- more is heard behind what was heard, and said
pub hears_on : (parts others : List HearPart) (bytes further : List ℕ) (said held ended : Bool) (old mid new : Device)
    → HearsAndSays parts bytes said true true false old mid → HearsAndSays others further false true held ended mid new
    → HearsAndSays (parts ++ map (part_behind bytes (interim_bytes said)) others) (bytes ++ further) said true held ended old new
hears_on parts others bytes further true held ended old mid new one two =
    hears_twice parts others bytes further true held ended old mid new true false refl one two
hears_on parts others bytes further false held ended old mid new one two =
    hears_twice parts others bytes further true held ended old mid new false false refl one two

-- a text goes on with what was handed on
pub text_on : (all text unread further piece rest : List ℕ) → all ≡ text ++ unread → unread ++ further ≡ piece ++ rest
    → all ++ further ≡ (text ++ piece) ++ rest
text_on all text unread further piece rest is on =
    ap (λ l. l ++ further) is ∙ append_assoc text unread further ∙ ap (λ l. text ++ l) on ∙ sym (append_assoc text piece rest)

-- ---- when the next request may be heard

may_open : (stage : FeedStage) (fed : Fed) → fed.stage ≡ stage → left_of stage ≡ 0 → ((fault : WireFault) → stage ≢ stages.Failed fault) → fed.ended ≡ false
    → MayTurn fed
may_open stage fed is none unrefused goes =
    record { handed_on = rw is none; unrefused = λ fault failed. unrefused fault (sym is ∙ failed); goes_on = goes }

-- at first
pub may_first : MayTurn new_feed
may_first = may_open stages.Open new_feed refl refl (λ fault failed. cc) refl

-- behind a request that doesn't end the connection
pub may_given : (taken : ℕ) (all : List ℕ) (said : Bool) (new : Fed) (shown : Head) → GivesRequest taken all said new shown → shown.ends ≡ false → MayTurn new
may_given taken all said new shown g goes =
    may_open stages.Open new g.behind.stage_is refl (λ fault failed. cc) (g.behind.ended_is ∙ goes)

-- and behind a media PUT, once all of its body was handed on
pub may_media : (fed : Fed) → fed.stage ≡ stages.Media 0 → fed.ended ≡ false → MayTurn fed
may_media fed is goes = may_open (stages.Media 0) fed is refl (λ fault failed. cc) goes

-- ---- the steps of requests that aren't answered

-- the wire refuses what was heard
pub refused_step : RefusalsAreSteps
refused_step base n s all said new fault r = record { fault = fault; next = r.next; interim = r.interim; response_is = refl }

-- a request is cut that isn't whole
pub waiting_step : WaitingIsCut
waiting_step base n s all said new some w = (some, waiting (interim_where said) w.next w.interim)

-- a request is cut whose interim response couldn't be said
pub unsaid_step : UnsaidIsCut
unsaid_step base n s all said u = (u.some, u.cut)

-- and a media PUT, which took its moment
pub media_unsaid_step : MediaUnsaidIsCut
media_unsaid_step base n s moment all said u = (u.some, u.cut)

-- ---- bytes that are no request

refused_front : (text rest : List ℕ) (all : List ℕ) → all ≡ text ++ rest → IsNext all more → (next : Got) (n : ℕ) → IsNext text (whole next n)
    → n ≤ length text → ⊥
refused_front text rest all is waits got n found inside =
    let same = next_unique all more (whole got n) waits (rw is (stays_decided text rest got n found inside)) in
    cc

none_refused : (base text rest all : List ℕ) → all ≡ text ++ rest → IsNext all more → (r : Rattle.run_history.specs.Machine.WireRefusal)
    → IsRefused base text r → ⊥
none_refused base text rest all is waits r refuses =
    let same = next_unique all more (refused refuses.fault) waits (rw is (next_stays text rest (refused refuses.fault) refuses.next tt)) in
    cc

none_whole : (text rest all : List ℕ) → all ≡ text ++ rest → IsNext all more → (head : RequestHead) (body : List ℕ) → IsWholeRequest text head body → ⊥
none_whole text rest all is waits head body (media n next size body_is) =
    refused_front text rest all is waits (opened head (length body)) n next (omega (arith, size))
none_whole text rest all is waits head body (other next) =
    refused_front text rest all is waits (given head body) (length text) next (omega arith)

-- where nothing whole stands as yet, none begins there, and nothing that is refused
pub unfinished : WaitingIsUnfinished
unfinished base n all waits = record {
  request = λ front rest r is spells. none_whole front rest all is waits r.head r.body spells.is_whole;
  refusal = λ front rest r is refuses. none_refused base front rest all is waits r refuses;
}

pub bytes-interim : (said : Bool) → bytes_of_pieces (interim_pieces (interim_where said)) ≡ interim_bytes said
bytes-interim true = append-nil interim_text
bytes-interim false = refl

-- and a hearing that begins there owes nothing
pub waiting_owes : WaitingOwesNothing
waiting_owes base n unread part w = record {
  cutting = record { interim = interim_where w.said; takes_moment = false };
  unfinished = unfinished base n (unread ++ part.heard) w.next;
  cuts = waiting (interim_where w.said) w.next w.interim;
  told_is = w.told ∙ sym (bytes-interim w.said);
}

-- ---- media PUTs

-- the heads of two are of one length, and their bodies of one length
opened_same : (head head_too : RequestHead) (size size_too n n_too : ℕ) → whole (opened head size) n ≡ whole (opened head_too size_too) n_too
    → (size ≡ size_too) × (n ≡ n_too)
opened_same head head_too size size_too n n_too same = (cc, cc)

-- in front of one that isn't whole stands no whole request
short_whole : (text : List ℕ) (head : RequestHead) (size n : ℕ) → IsNext text (whole (opened head size) n) → length text < n + size
    → (front rest : List ℕ) → text ≡ front ++ rest → (first : RequestHead) (body : List ℕ) → IsWholeRequest front first body → ⊥
short_whole text head size n found short front rest is first body (media k next long body_is) =
    let same = next_unique text (whole (opened head size) n) (whole (opened first (length body)) k) found
    (rw is (stays_decided front rest (opened first (length body)) k next (omega (arith, long)))) in
    let sizes = opened_same head first size (length body) n k same in
    omega (arith, short, long, sizes.0, sizes.1, ap length is, length-append front rest)
short_whole text head size n found short front rest is first body (other next) =
    let same = next_unique text (whole (opened head size) n) (whole (given first body) (length front)) found
    (rw is (stays_decided front rest (given first body) (length front) next (omega arith))) in
    absurd cc

-- and nothing that the wire refuses
short_refused : (text : List ℕ) (head : RequestHead) (size n : ℕ) → IsNext text (whole (opened head size) n) → (front rest : List ℕ) → text ≡ front ++ rest
    → (fault : WireFault) → IsNext front (refused fault) → ⊥
short_refused text head size n found front rest is fault next =
    let same = next_unique text (whole (opened head size) n) (refused fault) found (rw is (next_stays front rest (refused fault) next tt)) in
    absurd cc

-- the head of one ends where it is said to
ends_judged : (there : RequestHead) (at : ℕ) (rest : List ℕ) (judged : Result Framing WireFault) (head : RequestHead) (size n : ℕ)
    → after_head there at rest judged ≡ whole (opened head size) n → at ≡ n
ends_judged there at rest (Err fault) head size n e = cc
ends_judged there at rest (Ok framing) head size n e = ends_framed (is_media there.method there.target) framing e
  where
    no_content : (found : Front (List ℕ)) → with_content there at found ≡ whole (opened head size) n → ⊥
    no_content more e = cc
    no_content (refused fault) e = cc
    no_content (whole body m) e = cc

    ends_framed : (is_put : Bool) (framing : Framing) → framed_body is_put there at rest framing ≡ whole (opened head size) n → at ≡ n
    ends_framed true (Length m) e = cc
    ends_framed true Chunked e = cc
    ends_framed false framing e = absurd (no_content (body_at framing rest) e)

ends_by : (read : Front RequestHead) (text : List ℕ) (head : RequestHead) (size n : ℕ) → IsHead text read → after_read text read ≡ whole (opened head size) n
    → head_end text ≡ Ended n
ends_by more text head size n stands e = cc
ends_by (refused fault) text head size n stands e = cc
ends_by (whole there at) text head size n stands e =
    by_looked (head_end text) refl stands
  where
    same : at ≡ n
    same = ends_judged there at (drop at text) (judge there) head size n e

    by_looked : (found : Looked) → head_end text ≡ found → IsHeadBy found text (whole there at) → head_end text ≡ Ended n
    by_looked (Still place) is found = absurd found
    by_looked (Ended end) is found = is ∙ ap Ended (sym found.0 ∙ same)

-- so many bytes of its body were heard
heard_opened : {text : List ℕ} {head : RequestHead} {size n : ℕ} → IsNext text (whole (opened head size) n) → heard_body text ≡ length text - n
heard_opened {text} {head} {size} {n} next =
    rw (ends_by next.read text head size n next.head (sym next.is)) refl

module _ (taken : ℕ) (all : List ℕ) (said : Bool) (new : Fed) (shown : Head) (o : OpensMedia taken all said new shown) (part : List ℕ) where
  next_with : IsNext (o.text ++ part) (whole (opened o.head shown.length) (length o.text))
  next_with = stays_decided o.text part (opened o.head shown.length) (length o.text) o.next (omega arith)

  behind_head : part ≡ drop (length o.text) (o.text ++ part)
  behind_head = sym (drop-seam o.text)
    where
      drop-seam : (xs : List ℕ) → drop (length xs) (xs ++ part) ≡ part
      drop-seam [] = refl
      drop-seam (x ∷ xs) = drop-seam xs

  -- its body is whole
  media_spells : length part ≡ shown.length → SpellsRequest taken (o.text ++ part) (media_request o.head shown.ends part)
  media_spells size = record {
    is_whole = media (length o.text)
        (subst (λ n. IsNext (o.text ++ part) (whole (opened o.head n) (length o.text))) (sym size) next_with)
        (length-append o.text part) behind_head;
    ends_is = o.ends;
  }

  -- a part of it was heard
  media_heads : length part < shown.length → Heads taken (o.text ++ part) (media_request o.head shown.ends part)
  media_heads short = record {
    size = shown.length;
    at = length o.text;
    next = next_with;
    body_is = behind_head;
    part = short;
    ends_is = o.ends;
  }

  -- and it is cut there
  media_cut : length part < shown.length → IsCut (o.text ++ part) (record { interim = interim_where said; takes_moment = true })
  media_cut short =
      subst (λ i. IsCut (o.text ++ part) (record { interim = i; takes_moment = true })) (sym (ap interim_where o.interim))
      (within o.head shown.length (length o.text) next_with (omega (arith, length-append o.text part, short)))

  -- nothing whole stands in front of it there, and nothing that is refused
  media_unfinished : (base : List ℕ) → length part < shown.length → IsUnfinished (tams_machine base) taken (o.text ++ part)
  media_unfinished base short = record {
    request = λ front rest r is spells.
        short_whole (o.text ++ part) o.head shown.length (length o.text) next_with (omega (arith, length-append o.text part, short)) front rest is r.head
        r.body spells.is_whole;
    refusal = λ front rest r is refuses.
        short_refused (o.text ++ part) o.head shown.length (length o.text) next_with front rest is refuses.fault refuses.next;
  }

-- a media PUT by what was heard of its body
pub media_opened : MediaIsOpened
media_opened taken all said new shown o part = record {
  whole = media_spells taken all said new shown o part;
  begun = media_heads taken all said new shown o part;
  cut = media_cut taken all said new shown o part;
  unfinished = media_unfinished taken all said new shown o part;
  waits = λ base short. record {
    cutting = record { interim = interim_where said; takes_moment = true };
    unfinished = media_unfinished taken all said new shown o part base short;
    cuts = media_cut taken all said new shown o part short;
    told_is = sym (bytes-interim said);
  };
  heard = omega (arith, heard_opened next_with_part, length-append o.text part);
}
  where
    next_with_part : IsNext (o.text ++ part) (whole (opened o.head shown.length) (length o.text))
    next_with_part = next_with taken all said new shown o part
