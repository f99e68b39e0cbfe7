-- A body, taken piece by piece.
use Rattle.std.proofs.Common.{◌≡◌, ◌<◌, ◌≤◌, ◌+◌, ◌-◌, ◌∙◌, ℕ, true, false, List, [], ◌∷◌, ◌++◌, length, take, Option, None, Some, refl, sym, ap, subst, arith}
use Rattle.std.specs.Prelude.{IfSome, is_some}
use Rattle.std.proofs.lemmas.Bool.{false≢true}
use Rattle.std.proofs.lemmas.List.{length-append, length-take-le}
use Rattle.disk_trait.specs.Device.{Device, IsDevice}
use Rattle.http_wire.specs.Feeds.{Fed, left_of}
use Rattle.http_wire.specs.declared.stage.FeedStage.TheVariants.{Media}
use Rattle.store_states.specs.Kept.{AgreesWith, StoreView}
use Rattle.store_writes.specs.Writes.{Keeps}
use Rattle.media_store.specs.Puts.{HandsOn, HasHashed, IsPutOf, MayTake, body_handed, plan_of}
use Rattle.media_store.specs.Stores.{PutSeen, StoreSeen}
use Rattle.media_store.proofs.PutFacts.{hashed_on}
use Rattle.request_hearing.specs.Hearing.{HearsBody}
use Rattle.request_hearing.specs.declared.heard.Body.TheVariants as bodies
use Rattle.tams_service.specs.Sites.{SiteCounts}
use Rattle.tams_service.specs.Taking.{HandedMost, HashedIf, HoldsIf, HoldsPart, IsPutBegun, IsFilled, TakesBody, TakesNext, TakesOfBody}
use Rattle.tams_service.specs.declared.body.PieceTaken.TheVariants as pieces
use Rattle.tams_service.specs.declared.body.BodyTaken.TheVariants as taken
use Rattle.tams_service.proofs.Counting.{counts_none, counts_twice}
use Rattle.tams_service.proofs.Handed.{body_few, body_none, body_twice}
use Rattle.tams_service.proofs.Holding.{holds_more, holds_none, stored_same, takes_from}
use Rattle.tams_service.proofs.Keeps.{keeps_none, keeps_twice}
use Rattle.tams_service.proofs.Parts.{left_less, takes_none, takes_nothing, takes_piece, takes_then, takes_twice}

-- a put goes on, to which a part of its bytes was handed
pub record HasPart (kept : StoreView) (size : ℕ) (part : List ℕ) (put : PutSeen) : Type 0 where
  pub of_store : IsPutOf kept put
  pub sized : put.size ≡ size
  pub handed : put.handed ≡ length part

-- Pieces so far, behind which so many bytes are left: each was heard and handed on, and no call failed.
pub record HasTaken (kept : StoreView) (store : StoreSeen) (size left : ℕ) (from now : Fed) (put next : Option PutSeen) (first last : Device) : Type 0 where
  pub unspent : store.spent ≡ false
  pub kept_is : store.kept ≡ kept
  pub part : List ℕ
  pub takes : TakesOfBody part false false from now first last
  pub sum : length part + left ≡ size
  pub counts : SiteCounts true true first last
  pub keeps : (held : List (List ℕ)) → AgreesWith first kept held → Keeps kept held first last
  pub plan : plan_of next ≡ plan_of put
  pub has : IfSome next (HasPart kept size part)
  pub holds : first.shows ≡ true → (held : List (List ℕ)) → AgreesWith first kept held
      → HoldsIf kept next part last.seen
  pub hashed : HashedIf next part
  pub handed : first.tells ≡ true → last.handed ≡ first.handed + body_handed (plan_of next) part

-- ---- a piece

-- where a put is under way, it may take as many bytes as are inside it
pub may_take : (put : Option PutSeen) (n : ℕ) → IfSome put (λ p. p.handed + n ≤ p.size) → is_some put ≡ true → MayTake put n
may_take None n inside some = absurd (false≢true some)
may_take (Some put) n inside some = inside

-- where none is, nothing is handed on
pub hands_none : (kept : StoreView) (piece : List ℕ) (put : Option PutSeen) (d : Device) → is_some put ≡ false → HandsOn kept piece put put d d
hands_none kept piece None d none = refl
hands_none kept piece (Some put) d none = absurd (false≢true (sym none))

pub none_handed : (put : Option PutSeen) (piece : List ℕ) (handed : ℕ) → is_some put ≡ false → handed ≡ handed + body_handed (plan_of put) piece
none_handed None piece handed none = omega arith
none_handed (Some put) piece handed none = absurd (false≢true (sym none))

hands_from : (kept : StoreView) (piece : List ℕ) (put next : Option PutSeen) (before mid now : Device) → mid.seen ≡ before.seen → mid.shows ≡ before.shows
    → HandsOn kept piece put next mid now → HandsOn kept piece put next before now
hands_from kept piece None next before mid now seen shows none = none
hands_from kept piece (Some put) next before mid now seen same on = record {
  later = on.later;
  is = on.is;
  goes = on.goes;
  of_store = on.of_store;
  takes = λ shows. takes_from kept put.plan piece put on.later before mid now seen (on.takes (same ∙ shows));
}

-- one that was heard and handed on
pub takes_next : (kept : StoreView) (old new : Fed) (out : List ℕ) (count : ℕ) (put next : Option PutSeen) (before mid now : Device)
    → HearsBody old new out before mid (bodies.Piece count) → 0 < left_of old.stage → HandsOn kept (take count out) put next mid now → now.link ≡ mid.link
    → (mid.tells ≡ true → now.handed ≡ mid.handed + body_handed (plan_of put) (take count out))
    → TakesNext kept old new put next before now (pieces.Of count)
takes_next kept old new out count put next before mid now hears left on link handed = record {
  part = take count out;
  takes = takes_then (take count out) false false old new before mid now
      (takes_piece old new hears.parts hears.bytes out count true false before mid hears.comes left hears.waits hears.leaves) link;
  comes = (
    hears.comes.some,
    length-take-le count out hears.comes.within,
    hands_from kept (take count out) put next before mid now hears.leaves.call.seen hears.leaves.call.same.shows on,
  );
  handed = λ stored tells.
      handed (hears.leaves.call.same.tells ∙ tells) ∙ ap (λ k. k + body_handed (plan_of put) (take count out)) hears.leaves.call.handed;
}

-- one that was heard, and that the disk didn't take
pub takes_stopped : (kept : StoreView) (old new : Fed) (out : List ℕ) (count : ℕ) (put next : Option PutSeen) (before mid now : Device)
    → HearsBody old new out before mid (bodies.Piece count) → 0 < left_of old.stage → now.link ≡ mid.link → TakesNext kept old new put next before now pieces.Failed
takes_stopped kept old new out count put next before mid now hears left link = record {
  part = take count out;
  takes = takes_then (take count out) false false old new before mid now
      (takes_piece old new hears.parts hears.bytes out count true false before mid hears.comes left hears.waits hears.leaves) link;
  comes = λ none. omega (arith, hears.comes.some, length-take-le count out hears.comes.within, ap length none);
  handed = λ stored tells. absurd (false≢true stored);
}

-- the peer's bytes ended in its place
pub takes_ended : (kept : StoreView) (old new : Fed) (out : List ℕ) (put next : Option PutSeen) (before now : Device)
    → HearsBody old new out before now bodies.Ended → 0 < left_of old.stage → TakesNext kept old new put next before now pieces.Ended
takes_ended kept old new out put next before now hears left = record {
  part = [];
  takes = takes_nothing old new hears.parts hears.bytes true true before now hears.comes left hears.waits hears.leaves;
  comes = (refl, ap (λ (f : Fed). f.unread) hears.comes.feed ∙ hears.comes.none);
  handed = λ stored tells. omega (arith, hears.leaves.call.handed, body_none (plan_of put));
}

-- or the hearing failed
pub takes_unheard : (kept : StoreView) (old new : Fed) (out : List ℕ) (put next : Option PutSeen) (before now : Device)
    → HearsBody old new out before now bodies.Unheard → 0 < left_of old.stage → TakesNext kept old new put next before now pieces.Unheard
takes_unheard kept old new out put next before now hears left = record {
  part = [];
  takes = takes_nothing old new hears.parts hears.bytes false false before now hears.comes left hears.waits hears.leaves;
  comes = (refl, ap (λ (f : Fed). f.unread) hears.comes.feed ∙ hears.comes.none);
  handed = λ stored tells. omega (arith, hears.leaves.call.handed, body_none (plan_of put));
}

-- ---- none at first

has_none : (kept : StoreView) (size : ℕ) (put : Option PutSeen) → IfSome put (IsPutBegun kept size) → IfSome put (HasPart kept size [])
has_none kept size None begun = tt
has_none kept size (Some put) begun = record { of_store = begun.of_store; sized = begun.sized; handed = begun.none }

pub begun_of : (kept : StoreView) (size : ℕ) (put : Option PutSeen) → IfSome put (IsPutBegun kept size) → IfSome put (IsPutOf kept)
begun_of kept size None begun = tt
begun_of kept size (Some put) begun = begun.of_store

hashed_first : (kept : StoreView) (size : ℕ) (put : Option PutSeen) → IfSome put (IsPutBegun kept size) → HashedIf put []
hashed_first kept size None begun = tt
hashed_first kept size (Some put) begun = begun.unhashed

holds_first : (kept : StoreView) (size : ℕ) (put : Option PutSeen) (seen : List ℕ) → IfSome put (IsPutBegun kept size) → HoldsIf kept put [] seen
holds_first kept size None seen begun = tt
holds_first kept size (Some put) seen begun = holds_none kept put put.plan seen (rw begun.sized begun.same)

pub taken_first : (kept : StoreView) (store : StoreSeen) (size : ℕ) (fed : Fed) (put : Option PutSeen) (d : Device) → store.put ≡ put
    → store.kept ≡ kept → store.spent ≡ false → IfSome put (IsPutBegun kept size) → HasTaken kept store size size fed fed put store.put d d
taken_first kept store size fed put d put_is kept_is unspent begun = rw put_is record {
  unspent = unspent;
  kept_is = kept_is;
  part = [];
  takes = takes_none fed d;
  sum = omega arith;
  counts = counts_none d;
  keeps = λ held agrees. keeps_none kept held d agrees;
  plan = refl;
  has = has_none kept size put begun;
  holds = λ shows held agrees. holds_first kept size put d.seen begun;
  hashed = hashed_first kept size put begun;
  handed = λ tells. omega (arith, body_none (plan_of put));
}

-- ---- the next piece

-- how much is left, by the stage
pub left_now : (kept : StoreView) (store : StoreSeen) (size left : ℕ) (from now : Fed) (put next : Option PutSeen) (first last : Device)
    → HasTaken kept store size left from now put next first last → from.stage ≡ Media size → left_of now.stage ≡ left
left_now kept store size left from now put next first last so_far stage =
    let less : left_of now.stage ≡ left_of from.stage - length so_far.part =
    ap (λ (f : Fed). left_of f.stage) so_far.takes.feed ∙ left_less (length so_far.part) from.stage in
    omega (arith, less, ap left_of stage, so_far.sum)

-- a put takes what is left, and no more
pub put_inside : (kept : StoreView) (size left : ℕ) (part : List ℕ) (put : Option PutSeen) → IfSome put (HasPart kept size part)
    → length part + left ≡ size → IfSome put (λ p. p.handed + left ≤ p.size)
put_inside kept size left part None has sum = tt
put_inside kept size left part (Some put) has sum = omega (arith, has.sized, has.handed, sum)

has_more : (kept : StoreView) (size : ℕ) (part piece : List ℕ) (put next : Option PutSeen) (old new : Device) → IfSome put (HasPart kept size part)
    → HandsOn kept piece put next old new → IfSome next (HasPart kept size (part ++ piece))
has_more kept size part piece None next old new has none = rw none tt
has_more kept size part piece (Some put) next old new has on =
    rw on.is
    (record {
      of_store = on.of_store;
      sized = on.goes.sized ∙ has.sized;
      handed = on.goes.handed ∙ ap (λ n. n + length piece) has.handed ∙ sym (length-append part piece);
    })

hashed_more : (kept : StoreView) (part piece : List ℕ) (put next : Option PutSeen) (old new : Device) → HashedIf put part
    → HandsOn kept piece put next old new → HashedIf next (part ++ piece)
hashed_more kept part piece None next old new hashed none = rw none tt
hashed_more kept part piece (Some put) next old new hashed on =
    rw on.is (subst (λ plan. HasHashed plan on.later.hasher (part ++ piece)) (sym on.goes.plan)
    (hashed_on put.plan put.hasher on.later.hasher part piece on.goes.hashed hashed))

plan_more : (kept : StoreView) (piece : List ℕ) (put next : Option PutSeen) (old new : Device) → HandsOn kept piece put next old new
    → plan_of next ≡ plan_of put
plan_more kept piece None next old new none = ap plan_of none
plan_more kept piece (Some put) next old new on = ap plan_of on.is ∙ ap Some on.goes.plan

module _ (kept : StoreView) (size : ℕ) (part piece : List ℕ) (old new : Device) (old_sound : IsDevice old) (new_sound : IsDevice new)
    (counts : SiteCounts true true old new) (shows : old.shows ≡ true) (held : List (List ℕ))
    (before : AgreesWith old kept held) (after : AgreesWith new kept held) where
  holds_on : (put next : Option PutSeen) → IfSome put (HasPart kept size part) → HoldsIf kept put part old.seen → HandsOn kept piece put next old new
      → HoldsIf kept next (part ++ piece) new.seen
  holds_on None next has holds none = rw none tt
  holds_on (Some put) next has holds on =
      let stays = stored_same old new kept held old_sound new_sound counts.same.shows shows before after in
      rw on.is
      (subst (λ plan. HoldsPart kept on.later plan (part ++ piece) new.seen) (sym on.goes.plan)
      (holds_more kept put on.later put.plan part piece put.object put.size put.moment old new has.handed on.goes has.of_store.extent stays holds
      (on.takes shows)))

module _ (kept : StoreView) (store : StoreSeen) (size left : ℕ) (from now : Fed) (put next : Option PutSeen) (first last new : Device)
    (so_far : HasTaken kept store size left from now put next first last) where
  keeps_on : ((held : List (List ℕ)) → AgreesWith last store.kept held → Keeps store.kept held last new) → (held : List (List ℕ))
      → AgreesWith first kept held → Keeps kept held last new
  keeps_on keeps held agrees =
      subst (λ k. Keeps k held last new) so_far.kept_is
      (keeps held (subst (λ k. AgreesWith last k held) (sym so_far.kept_is) (so_far.keeps held agrees).agrees))

  -- what is kept stays behind it
  pub keeps_so : ((held : List (List ℕ)) → AgreesWith last store.kept held → Keeps store.kept held last new) → (held : List (List ℕ))
      → AgreesWith first kept held → Keeps kept held first new
  keeps_so keeps held agrees = keeps_twice kept held first last new (so_far.keeps held agrees) (keeps_on keeps held agrees)

module _ (kept : StoreView) (store : StoreSeen) (size left : ℕ) (from now fed : Fed) (put next later : Option PutSeen) (first last new : Device)
    (so_far : HasTaken kept store size left from now put next first last) where
  -- A piece more was taken.
  pub taken_more : (store_next : StoreSeen) (count : ℕ) → IsDevice last → IsDevice new
      → TakesNext store.kept now fed next later last new (pieces.Of count) → SiteCounts true true last new
      → ((held : List (List ℕ)) → AgreesWith last store.kept held → Keeps store.kept held last new) → count ≤ left → store_next.kept ≡ store.kept
      → store_next.spent ≡ false → HasTaken kept store_next size (left - count) from fed put later first new
  taken_more store_next count last_sound new_sound piece counts keeps few same unspent =
      let on : HandsOn kept piece.part next later last new =
      subst (λ k. HandsOn k piece.part next later last new) so_far.kept_is piece.comes.2 in
      record {
        unspent = unspent;
        kept_is = same ∙ so_far.kept_is;
        part = so_far.part ++ piece.part;
        takes = takes_twice so_far.part piece.part false false from now fed first last new so_far.counts.same so_far.takes piece.takes;
        sum = omega (arith, length-append so_far.part piece.part, piece.comes.1, so_far.sum, few);
        counts = counts_twice true true first last new so_far.counts counts;
        keeps = keeps_so kept store size left from now put next first last new so_far keeps;
        plan = plan_more kept piece.part next later last new on ∙ so_far.plan;
        has = has_more kept size so_far.part piece.part next later last new so_far.has on;
        holds = λ shows held agrees.
            let stands = so_far.keeps held agrees in
            holds_on kept size so_far.part piece.part last new last_sound new_sound counts (so_far.counts.same.shows ∙ shows) held stands.agrees
            (keeps_on kept store size left from now put next first last new so_far keeps held agrees).agrees next later so_far.has
            (so_far.holds shows held agrees) on;
        hashed = hashed_more kept so_far.part piece.part next later last new so_far.hashed on;
        handed = λ tells.
            let before = so_far.handed tells in
            let now = piece.handed refl (so_far.counts.same.tells ∙ tells) in
            let sum = body_twice (plan_of next) so_far.part piece.part in
            let plan = ap (λ q. body_handed q (so_far.part ++ piece.part)) (plan_more kept piece.part next later last new on) in
            omega (arith, before, now, sum, plan);
      }

  -- no more was handed on than was taken
  handed_by_now : (piece : List ℕ) → (last.tells ≡ true → new.handed ≡ last.handed + body_handed (plan_of next) piece) → first.tells ≡ true
      → HandedMost (length (so_far.part ++ piece)) first new
  handed_by_now piece on tells =
      let before = so_far.handed tells in
      let now = on (so_far.counts.same.tells ∙ tells) in
      let few = body_few (plan_of next) so_far.part in
      let few_more = body_few (plan_of next) piece in
      record {
        never_falls = omega (arith, before, now);
        few = omega (arith, before, now, few, few_more, length-append so_far.part piece);
      }

  -- The peer's bytes ended.
  pub taken_ended : TakesNext store.kept now fed next later last new pieces.Ended → 0 < left → TakesBody kept size from fed later first new taken.Ended
  taken_ended piece some = record {
    part = so_far.part ++ piece.part;
    takes = takes_twice so_far.part piece.part true false from now fed first last new so_far.counts.same so_far.takes piece.takes;
    comes = (omega (arith, length-append so_far.part piece.part, ap length piece.comes.0, so_far.sum, some), piece.comes.1);
    holds = λ no. absurd cc;
    hashed = λ no. absurd cc;
    handed = λ stored. handed_by_now piece.part (piece.handed refl);
    handed_whole = λ no. absurd cc;
  }

  -- A hearing failed.
  pub taken_unheard : TakesNext store.kept now fed next later last new pieces.Unheard → 0 < left
      → TakesBody kept size from fed later first new taken.Unheard
  taken_unheard piece some = record {
    part = so_far.part ++ piece.part;
    takes = takes_twice so_far.part piece.part false true from now fed first last new so_far.counts.same so_far.takes piece.takes;
    comes = (omega (arith, length-append so_far.part piece.part, ap length piece.comes.0, so_far.sum, some), piece.comes.1);
    holds = λ no. absurd cc;
    hashed = λ no. absurd cc;
    handed = λ stored. handed_by_now piece.part (piece.handed refl);
    handed_whole = λ no. absurd cc;
  }

  -- The disk failed.
  pub taken_failed : TakesNext store.kept now fed next later last new pieces.Failed → TakesBody kept size from fed later first new taken.Failed
  taken_failed piece = record {
    part = so_far.part ++ piece.part;
    takes = takes_twice so_far.part piece.part false false from now fed first last new so_far.counts.same so_far.takes piece.takes;
    comes = λ none. piece.comes (later_none so_far.part piece.part none);
    holds = λ no. absurd cc;
    hashed = λ no. absurd cc;
    handed = λ stored. absurd (false≢true stored);
    handed_whole = λ no. absurd cc;
  }
    where
      later_none : (xs ys : List ℕ) → xs ++ ys ≡ [] → ys ≡ []
      later_none [] ys is = is
      later_none (x ∷ xs) ys is = absurd cc

-- ---- all of it

filled_by : (kept : StoreView) (size : ℕ) (part : List ℕ) (put : Option PutSeen) → length part ≡ size → IfSome put (HasPart kept size part)
    → IfSome put (IsFilled kept size)
filled_by kept size part None all has = tt
filled_by kept size part (Some put) all has =
    record { of_store = has.of_store; sized = has.sized; filled = has.handed ∙ all ∙ sym has.sized }

module _ (kept : StoreView) (store : StoreSeen) (size left : ℕ) (from now : Fed) (put next : Option PutSeen) (first last : Device)
    (so_far : HasTaken kept store size left from now put next first last) (none : left ≤ 0) where
  all_there : length so_far.part ≡ size
  all_there = omega (arith, so_far.sum, none)

  pub taken_whole : TakesBody kept size from now next first last taken.Whole
  taken_whole = record {
    part = so_far.part;
    takes = so_far.takes;
    comes = all_there;
    holds = λ whole. so_far.holds;
    hashed = λ whole. so_far.hashed;
    handed = λ stored tells.
        let now = so_far.handed tells in
        let few = body_few (plan_of next) so_far.part in
        record { never_falls = omega (arith, now); few = omega (arith, now, few) };
    handed_whole = λ whole. so_far.handed;
  }

  pub taken_filled : IfSome next (IsFilled kept size)
  taken_filled = filled_by kept size so_far.part next all_there so_far.has
