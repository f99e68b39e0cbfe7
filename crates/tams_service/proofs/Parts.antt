-- Parts of a body, taken one behind another.
use Rattle.std.proofs.Common.{◌≡◌, ◌<◌, ◌≤◌, ◌+◌, ◌-◌, ℕ, Bool, true, false, not, List, [], ◌∷◌, ◌++◌, length, map, take, drop, refl, sym, ap, ◌∙◌, subst, arith}
use Rattle.std.proofs.lemmas.List.{append-nil, append_assoc, length-append, length-take-le}
use Rattle.disk_trait.specs.Device.{Connection, Device, Link}
use Rattle.disk_trait.specs.Calls.{SameDevice}
use Rattle.site_edge.specs.Links.{change_last}
use Rattle.http_wire.specs.Feeds.{Fed, left_of, less_by}
use Rattle.http_wire.specs.declared.stage.FeedStage.{FeedStage}
use Rattle.http_wire.specs.declared.stage.FeedStage.TheVariants.{Failed, Media, Open}
use Rattle.std.specs.List.{AllByRecursion}
use Rattle.run_history.proofs.Hearings.{each-append}
use Rattle.request_hearing.specs.Hearing.{HearPart, HearsAndSays, HearsBare, IsBare, IsPiece, after_hearing, part_behind}
use Rattle.request_hearing.proofs.SiteLemmas.{change_last-itself, change_last-twice, hearing_twice, listed_none, parts_twice, sends_none}
use Rattle.tams_service.specs.Sites.{SiteCounts}
use Rattle.tams_service.specs.Taking.{HearsWithin, TakesOfBody}
use Rattle.tams_service.proofs.Counting.{counts_link}

-- ---- stages

-- what is left once so many bytes were handed on
pub left_less : (n : ℕ) (stage : FeedStage) → left_of (less_by n stage) ≡ left_of stage - n
left_less n Open = omega arith
left_less n (Media left) = refl
left_less n (Failed fault) = omega arith

less_twice : (n k : ℕ) (stage : FeedStage) → less_by k (less_by n stage) ≡ less_by (n + k) stage
less_twice n k Open = refl
less_twice n k (Media left) = ap Media (omega arith)
less_twice n k (Failed fault) = refl

less_none : (stage : FeedStage) → less_by 0 stage ≡ stage
less_none Open = refl
less_none (Media left) = ap Media (omega arith)
less_none (Failed fault) = refl

-- ---- connections

hearing_nothing : (c : Connection) → after_hearing [] [] [] false false false c ≡ c
hearing_nothing c = rw (append-nil c.heard, append-nil c.told, listed_none c.unheard c.hearings) refl

-- one hearing behind another, neither of which said anything
hearing_silent : (parts more : List HearPart) (x y : List ℕ) (ended failed : Bool) (c : Connection)
    → after_hearing more y [] ended failed false (after_hearing parts x [] false false false c)
    ≡ after_hearing (parts ++ map (part_behind x []) more) (x ++ y) [] ended failed false c
hearing_silent parts more x y ended failed c = hearing_twice parts more x y [] [] ended failed false c

-- a hearing says nothing
hears_silent : (parts : List HearPart) (bytes : List ℕ) (held ended : Bool) (old new : Device) → HearsAndSays parts bytes false true held ended old new
    → old.tells ≡ true → new.link.connections ≡ change_last (after_hearing parts bytes [] ended (not held) false) old.link.connections
hears_silent parts bytes held ended old new h tells =
    let told = h.connections tells in
    told.2 ∙ ap (λ sent. change_last (after_hearing parts bytes sent ended (not held) false) old.link.connections) (sends_none true told.0 told.1)

pub counts_hearing : {parts : List HearPart} (bytes : List ℕ) (held ended : Bool) (old new : Device)
    → HearsAndSays parts bytes false true held ended old new → SiteCounts held true old new
counts_hearing bytes held ended old new h = counts_link held old new h.call.same h.call.faults h.call.counted h.peers h.under_way

-- ---- parts

-- none at all
pub takes_none : (fed : Fed) (d : Device) → TakesOfBody [] false false fed fed d d
takes_none fed d = record {
  parts = [];
  bytes = [];
  parts_are = tt;
  waits = tt;
  text_is = append-nil fed.unread;
  few = omega arith;
  feed = ap (λ s. record fed { stage = s }) (sym (less_none fed.stage));
  connections = λ tells. sym (change_last-itself (after_hearing [] [] [] false false false) d.link.connections hearing_nothing);
}

-- one behind another
module _ (part more : List ℕ) (ended failed : Bool) (a b c : Fed) (x y z : Device) (same : SameDevice x y) (one : TakesOfBody part false false a b x y)
    (two : TakesOfBody more ended failed b c y z) where
  few_both : length (part ++ more) ≤ left_of a.stage
  few_both =
      let left : left_of b.stage ≡ left_of a.stage - length part = ap (λ (f : Fed). left_of f.stage) one.feed ∙ left_less (length part) a.stage in
      omega (arith, left, one.few, two.few, length-append part more)

  -- the calls of the second, behind those of the first
  within_both : (parts : List HearPart) → AllByRecursion (HearsWithin b) parts → AllByRecursion (HearsWithin a) (map (part_behind one.bytes []) parts)
  within_both [] all = tt
  within_both (p ∷ parts) all =
      let left : left_of b.stage ≡ left_of a.stage - length part = ap (λ (f : Fed). left_of f.stage) one.feed ∙ left_less (length part) a.stage in (
        record {
          short = omega (
            arith,
            left,
            one.few,
            all.0.short,
            ap length one.text_is,
            length-append a.unread one.bytes,
            length-append part b.unread,
            length-append b.unread p.heard,
            length-append a.unread (one.bytes ++ p.heard),
            length-append one.bytes p.heard,
          );
          told = all.0.told;
        },
        within_both parts all.1,
      )

  pub takes_twice : TakesOfBody (part ++ more) ended failed a c x z
  takes_twice = record {
    parts = one.parts ++ map (part_behind one.bytes []) two.parts;
    bytes = one.bytes ++ two.bytes;
    parts_are = parts_twice one.parts two.parts one.bytes two.bytes false false failed refl one.parts_are two.parts_are;
    waits = each-append _ one.parts (map (part_behind one.bytes []) two.parts) one.waits (within_both two.parts two.waits);
    text_is = sym (append_assoc a.unread one.bytes two.bytes)
        ∙ ap (λ l. l ++ two.bytes) one.text_is
        ∙ append_assoc part b.unread two.bytes
        ∙ ap (λ l. part ++ l) two.text_is
        ∙ sym (append_assoc part more c.unread);
    few = few_both;
    feed = two.feed
        ∙ ap (λ (f : Fed). record f { unread = c.unread; stage = less_by (length more) f.stage }) one.feed
        ∙ ap (λ s. record a { unread = c.unread; stage = s }) (less_twice (length part) (length more) a.stage)
        ∙ ap (λ n. record a { unread = c.unread; stage = less_by n a.stage }) (sym (length-append part more));
    connections = λ tells.
        two.connections (same.tells ∙ tells)
        ∙ ap (change_last (after_hearing two.parts two.bytes [] ended failed false)) (one.connections tells)
        ∙ change_last-twice (after_hearing two.parts two.bytes [] ended failed false) (after_hearing one.parts one.bytes [] false false false)
        (after_hearing (one.parts ++ map (part_behind one.bytes []) two.parts) (one.bytes ++ two.bytes) [] ended failed false) x.link.connections
        (hearing_silent one.parts two.parts one.bytes two.bytes ended failed);
  }

-- ---- a hearing

-- a call in front of all else, where nothing was unread, begins before the body is whole
within_bare : (old : Fed) → 0 < left_of old.stage → (parts : List HearPart) → AllByRecursion (HearsBare old) parts → AllByRecursion (HearsWithin old) parts
within_bare old left [] all = tt
within_bare old left (p ∷ parts) all = (
  record { short = omega (arith, left, length-append old.unread p.heard, ap length all.0.unread, ap length all.0.heard); told = all.0.told },
  within_bare old left parts all.1,
)

-- a piece of the body was heard
pub takes_piece : (old new : Fed) (parts : List HearPart) (bytes out : List ℕ) (count : ℕ) (held ended : Bool) (before now : Device)
    → IsPiece old bytes out count new → 0 < left_of old.stage → AllByRecursion (HearsBare old) parts
    → HearsAndSays parts bytes false true held ended before now → TakesOfBody (take count out) ended (not held) old new before now
takes_piece old new parts bytes out count held ended before now is left bare h =
    let size : length (take count out) ≡ count = length-take-le count out is.within in
    record {
      parts = parts;
      bytes = bytes;
      parts_are = h.parts_are;
      waits = within_bare old left parts bare;
      text_is = is.text_is;
      few = omega (arith, size, is.few);
      feed = subst (λ (f : Fed). f ≡ record old { unread = f.unread; stage = less_by (length (take count out)) old.stage }) (sym is.feed)
          (ap (λ n. record old { unread = drop count (old.unread ++ bytes); stage = less_by n old.stage }) (sym size));
      connections = hears_silent parts bytes held ended before now h;
    }

-- none was
pub takes_nothing : (old new : Fed) (parts : List HearPart) (bytes : List ℕ) (held ended : Bool) (before now : Device) → IsBare old bytes new
    → 0 < left_of old.stage → AllByRecursion (HearsBare old) parts
    → HearsAndSays parts bytes false true held ended before now → TakesOfBody [] ended (not held) old new before now
takes_nothing old new parts bytes held ended before now is left bare h = record {
  parts = parts;
  bytes = bytes;
  parts_are = h.parts_are;
  waits = within_bare old left parts bare;
  text_is = ap (λ l. l ++ bytes) is.none ∙ is.silent ∙ sym is.none ∙ ap (λ (f : Fed). f.unread) (sym is.feed);
  few = omega arith;
  feed = subst (λ (f : Fed). f ≡ record old { unread = f.unread; stage = less_by 0 old.stage }) (sym is.feed)
      (ap (λ s. record old { stage = s }) (sym (less_none old.stage)));
  connections = hears_silent parts bytes held ended before now h;
}

-- calls of the disk behind it leave what was heard
pub takes_then : (part : List ℕ) (ended failed : Bool) (old new : Fed) (before mid now : Device) → TakesOfBody part ended failed old new before mid
    → now.link ≡ mid.link → TakesOfBody part ended failed old new before now
takes_then part ended failed old new before mid now takes link = record {
  parts = takes.parts;
  bytes = takes.bytes;
  parts_are = takes.parts_are;
  waits = takes.waits;
  text_is = takes.text_is;
  few = takes.few;
  feed = takes.feed;
  connections = λ tells. ap (λ (l : Link). l.connections) link ∙ takes.connections tells;
}
