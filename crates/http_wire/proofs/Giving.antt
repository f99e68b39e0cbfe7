-- What a feed leaves and tells when it gives a request.
use Rattle.std.proofs.Common.{◌≡◌, ℕ, ◌+◌, ◌<◌, ◌≤◌, Bool, true, List, length, take, drop, refl, sym, ap, ◌∙◌, arith, rules, nat_lt}
use Rattle.std.proofs.lemmas.Bool.Decides.{nat_tests}
use Rattle.std.proofs.lemmas.List.{drop-take, length-take-le, take-take, take_all}
use Rattle.std.proofs.Common.{length-drop}
use Rattle.http_wire.specs.Feeds.{Fed, Leaves, TellsHead, TellsBody, Turns, feed_room, is_last_request, no_place}
use Rattle.http_wire.specs.Heads.{refused, span_text}
use Rattle.http_wire.specs.Parts.{GivenParts, held}
use Rattle.http_wire.specs.Requests.{IsNext}
use Rattle.http_wire.specs.Within.Seeing.{IsFound, IsContentGiven, IsMediaOpened, ShowsHead}
use Rattle.http_wire.specs.declared.framing.WireFault.{WireFault}
use Rattle.http_wire.specs.declared.head.FoundHead.{FoundHead}
use Rattle.http_wire.specs.declared.head.FeedSpan.{FeedSpan}
use Rattle.http_wire.specs.declared.stage.Head.{Head}
use Rattle.http_wire.specs.declared.stage.FeedStage.{FeedStage}
use Rattle.http_wire.specs.declared.stage.FeedStage.TheVariants.{Failed, Media, Open}
use Rattle.http_wire.specs.declared.stage.FeedStep.TheVariants as steps
use Rattle.http_wire.proofs.Seeking.{text_at-take}

-- ---- places in the bytes that are given

kept_place : (span : FeedSpan) (n : ℕ) → span.start + span.length ≤ n → n ≤ 16384 → nat_lt span.start feed_room ≡ true
kept_place span n inside small =
    let below : span.start < feed_room = omega arith in
    search (arith, rules, nat_tests)

-- the target is in the head's bytes
pub tells_found : (unread : List ℕ) (n number size : ℕ) (found : FoundHead) (known : IsFound unread found) (body : FeedSpan) (shown : Head) (fed : Fed)
    → found.length ≤ n → n ≤ length unread → fed.last ≡ take n unread → ShowsHead found body size number shown
    → TellsHead fed known.head number shown
tells_found unread n number size found known body shown fed few inside last is =
    let low : nat_lt found.target.start feed_room ≡ true = kept_place found.target found.length known.tells.inside known.small in
    let shown_low : nat_lt shown.target.start feed_room ≡ true = rw is.target low in
    let long : length fed.last ≡ n = ap length last ∙ length-take-le n unread inside in
    let within : found.target.start + found.target.length ≤ n = omega (arith, known.tells.inside) in
    let there : span_text fed.last shown.target ≡ span_text unread found.target =
    rw (last, is.target) (text_at-take unread n found.target within) in
    let in_last : shown.target.start + shown.target.length ≤ length fed.last = rw (long, is.target) within in
    record {
      method = is.method ∙ known.tells.method;
      target_place = rw shown_low in_last;
      target = rw shown_low (there ∙ known.tells.target);
      interim = is.interim ∙ known.tells.interim;
      ends = is.ends ∙ ap (λ c. is_last_request c number) known.tells.closes;
    }

-- a body of so many bytes is behind them
pub tells_plain : (unread : List ℕ) (n size number : ℕ) (found : FoundHead) (place : FeedSpan) (shown : Head) (fed : Fed)
    → n ≤ 16384 → n + size ≤ length unread → fed.last ≡ take (n + size) unread → place ≡ record { start = n; length = size }
    → ShowsHead found place size number shown → TellsBody fed (take size (drop n unread)) shown
tells_plain unread n size number found place shown fed small inside last there is =
    let low : nat_lt n feed_room ≡ true = search (arith, rules, nat_tests) in
    let long : length fed.last ≡ n + size = ap length last ∙ length-take-le (n + size) unread inside in
    let body = is.body_is ∙ there in
    let whole_size : size ≤ length (drop n unread) = omega (arith, length-drop n unread) in
    let content : take size (drop n (take (n + size) unread)) ≡ take size (drop n unread) =
    rw (drop-take n size unread) (take-take size size (drop n unread) (omega arith)) in
    record {
      size = is.size_is ∙ sym (length-take-le size (drop n unread) whole_size);
      place = rw (body, low, long) (omega arith);
      content = rw (body, low, last) content;
    }

-- a decoded body is apart
pub tells_decoded : (size number : ℕ) (found : FoundHead) (place : FeedSpan) (shown : Head) (fed : Fed)
    → size ≡ length fed.body → place ≡ record { start = 8404993; length = size }
    → ShowsHead found place size number shown → TellsBody fed fed.body shown
tells_decoded size number found place shown fed long there is =
    let body = is.body_is ∙ there in
    record {
      size = is.size_is ∙ long;
      place = rw body (omega arith);
      content = rw body (take_all size fed.body (omega arith));
    }

-- ---- the turns of a feed

-- a feed by its parts
abbrev pub fed_of : GivenParts → List ℕ → FeedStage → ℕ → Bool → Fed
fed_of parts body stage requests ended = record {
  last = parts.last;
  unread = parts.unread;
  body = body;
  stage = stage;
  requests = requests;
  ended = ended;
}

leaves_by : (kept parts : GivenParts) (content body : List ℕ) (was stage other : FeedStage) (requests number n : ℕ) (had ended : Bool)
    → parts ≡ held n kept → stage ≡ other
    → Leaves (fed_of kept content was requests had) (fed_of parts body stage number ended) n other number ended
leaves_by kept parts content body was stage other requests number n had ended is same = record {
  last = rw is refl;
  unread = rw is refl;
  stage_is = same;
  requests_are = refl;
  ended_is = refl;
}

module _ (kept parts : GivenParts) (bytes content body : List ℕ) (was : FeedStage) (requests : ℕ) (had : Bool) (there : bytes ≡ kept.unread) where
  pub turn_refused : (fault : WireFault) → parts ≡ held 0 kept → IsNext bytes (refused fault)
      → Turns (fed_of kept content was requests had) (steps.Refused fault) (fed_of parts body (Failed fault) requests had)
  turn_refused fault is next = record {
    next = rw (← there) next;
    leaves = leaves_by kept parts content body was (Failed fault) (Failed fault) requests requests 0 had had is refl;
  }

  pub turn_opened : (found : FoundHead) (size : ℕ) (place : FeedSpan) (shown : Head) → parts ≡ held found.length kept → IsMediaOpened bytes found size
      → place ≡ no_place → ShowsHead found place size (requests + 1) shown
      → Turns (fed_of kept content was requests had) (steps.Head shown) (fed_of parts body (Media size) (requests + 1) shown.ends)
  turn_opened found size place shown is found_it at told = record {
    head = found_it.known.head;
    n = found.length;
    next = rw (← there, told.size_is) found_it.next;
    inside = rw (← there) found_it.known.inside;
    leaves = leaves_by kept parts content body was (Media size) (Media shown.length) requests (requests + 1) found.length had shown.ends is (ap (λ
        s. Media s) (sym told.size_is));
    tells = tells_found bytes found.length (requests + 1) size found found_it.known place shown _ (omega arith) found_it.known.inside (rw (
      is,
      there,
    ) refl) told;
    apart = told.body_is ∙ at;
  }

  pub turn_plain : (found : FoundHead) (size : ℕ) (place : FeedSpan) (shown : Head) → parts ≡ held (found.length + size) kept
      → IsContentGiven bytes (take size (drop found.length bytes)) found size → place ≡ record { start = found.length; length = size }
      → ShowsHead found place size (requests + 1) shown
      → Turns (fed_of kept content was requests had) (steps.Whole shown) (fed_of parts body Open (requests + 1) shown.ends)
  turn_plain found size place shown is found_it at told = record {
    head = found_it.known.head;
    body = take size (drop found.length bytes);
    n = found.length + size;
    next = rw (← there) found_it.next;
    inside = rw (← there) found_it.inside;
    leaves = leaves_by kept parts content body was Open Open requests (requests + 1) (found.length + size) had shown.ends is refl;
    tells = tells_found bytes (found.length + size) (requests + 1) size found found_it.known place shown _ (omega arith) found_it.inside (rw (
      is,
      there,
    ) refl) told;
    tells_body = tells_plain bytes found.length size (requests + 1) found place shown _ found_it.known.small found_it.inside (rw (is, there) refl)
        at told;
  }

  pub turn_decoded : (found : FoundHead) (size long : ℕ) (place : FeedSpan) (shown : Head) → parts ≡ held (found.length + size) kept
      → IsContentGiven bytes body found size → place ≡ record { start = 8404993; length = long } → long ≡ length body
      → ShowsHead found place long (requests + 1) shown
      → Turns (fed_of kept content was requests had) (steps.Whole shown) (fed_of parts body Open (requests + 1) shown.ends)
  turn_decoded found size long place shown is found_it at all told = record {
    head = found_it.known.head;
    body = body;
    n = found.length + size;
    next = rw (← there) found_it.next;
    inside = rw (← there) found_it.inside;
    leaves = leaves_by kept parts content body was Open Open requests (requests + 1) (found.length + size) had shown.ends is refl;
    tells = tells_found bytes (found.length + size) (requests + 1) long found found_it.known place shown _ (omega arith) found_it.inside (rw (
      is,
      there,
    ) refl) told;
    tells_body = tells_decoded long (requests + 1) found place shown _ all at told;
  }
