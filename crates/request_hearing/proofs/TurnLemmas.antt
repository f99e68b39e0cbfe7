-- What a turn of hearing a request comes to.
use Rattle.std.proofs.Common.{◌≡◌, ◌≢◌, ◌<◌, ◌+◌, ℕ, zero, suc, Bool, true, false, not, ◌&&◌, ◌||◌, ◌==◌, List, [], ◌∷◌, ◌++◌, length, map, take, drop, Some, IsTrue, rules, refl, sym, ap, ◌∙◌, subst, arith, length-append, take-append-drop}
use Rattle.std.specs.Prelude.{◌↔◌}
use Rattle.std.proofs.lemmas.Bool.{false≢true}
use Rattle.std.proofs.lemmas.Bool.Decides.{nat_tests}
use Rattle.std.proofs.lemmas.List.{append-nil, append_assoc, length-take-le}
use Rattle.httparse.specs.Grammar.{RequestHead}
use Rattle.std.specs.List.{AllByRecursion}
use Rattle.disk_trait.specs.Device.{Device, HearEnd, Unheard}
use Rattle.http_wire.specs.Agreeing.{MayTurn}
use Rattle.http_wire.specs.Feeds.{AnswersBy, Fed, GivesHead, GivesWhole, IsInterimDue, StepsTo, Turns, feed_room, heard, kept_count}
use Rattle.http_wire.specs.Feeds as feeds
use Rattle.http_wire.specs.Framing.{ends_connection, is_media, wants_interim}
use Rattle.http_wire.specs.Heads.{Front, IsHead, more, refused, whole}
use Rattle.http_wire.specs.Requests.{Got, IsNext, given, opened}
use Rattle.http_wire.specs.declared.framing.WireFault.{WireFault}
use Rattle.http_wire.specs.declared.stage.Head.{Head}
use Rattle.http_wire.specs.declared.stage.FeedStage.{FeedStage}
use Rattle.http_wire.specs.declared.stage.FeedStage.TheVariants as stages
use Rattle.http_wire.specs.declared.stage.FeedStep.{FeedStep}
use Rattle.http_wire.specs.declared.stage.FeedStep.TheVariants as steps
use Rattle.http_wire.proofs.Alone.{HasHead, due_head, due_later, given_head, heads_wait, media_opens, opened_head, stands_alone}
use Rattle.http_wire.proofs.Interims.{same_head}
use Rattle.http_wire.proofs.Room.{head_has_room, waits_with_room}
use Rattle.tams_machine.specs.Requests.{HadInterim, IsCut, ends_behind, interim_of, interim_text, other, waiting, within}
use Rattle.run_history.proofs.Hearings.{each-append}
use Rattle.request_hearing.specs.Hearing.{GivesRequest, HearPart, HearsAndSays, HearsRequest, HearsWaiting, IsHeardAs, IsRefusedByWire, IsUnsaid, IsWaiting, OpensMedia, interim_bytes, interim_where, part_behind}
use Rattle.request_hearing.specs.Turning.{FollowsTurn, HearingGoesOn, HasHeard, HearsBytes, IsDueBy, TurnsTo, end_of, one_part, turn_ended, turn_held, turn_said, unsaid_of}
use Rattle.request_hearing.specs.declared.heard.Heard.{Heard}
use Rattle.request_hearing.specs.declared.heard.Heard.TheVariants as heards
use Rattle.request_hearing.specs.declared.heard.Turn.{Turn}
use Rattle.request_hearing.specs.declared.heard.Turn.TheVariants.{Done, Waits}
use Rattle.request_hearing.proofs.SiteLemmas.{hears_nothing, hears_twice, says_then}

-- ---- the feed's answers

turn_by : (stage : FeedStage) (old new : Fed) (step : FeedStep) → ((fault : WireFault) → stage ≢ stages.Failed fault) → feeds.AnswersBy stage old step new
    → Turns old step new
turn_by stages.Open old new step unrefused answers = answers
turn_by (stages.Media left) old new step unrefused answers = answers
turn_by (stages.Failed fault) old new step unrefused answers = absurd (unrefused fault refl)

-- where nothing was refused the feed takes a turn
pub steps_turn : (old new : Fed) (step : FeedStep) → MayTurn old → StepsTo old step new → Turns old step new
steps_turn old new step may answers = turn_by old.stage old new step may.unrefused answers

-- ---- interims

due_by : (due wants : Bool) → (IsTrue due → wants ≡ true) → (wants ≡ true → IsTrue due) → due ≡ wants
due_by true wants to from = sym (to refl)
due_by false true to from = from refl
due_by false false to from = refl

-- it is due where the head that stands there wants it
pub due_is : (bytes : List ℕ) (head : RequestHead) (media due : Bool) → HasHead bytes head media → (IsTrue due ↔ IsInterimDue bytes) → due ≡ wants_interim head
due_is bytes head media due has tells =
    due_by due (wants_interim head) (λ so_is. due_head bytes head media has (tells.0 so_is)) (λ wants. tells.1 (head, has.at, has.stands, wants))

-- a step tells whether it is due
pub due_step : (old new : Fed) (step : FeedStep) (due : Bool) → Turns old step new → IsDueBy new step due → IsTrue due ↔ IsInterimDue old.unread
due_step old new steps.More due waits by = rw waits.leaves.unread at by
due_step old new (steps.Refused fault) due refuses by = rw refuses.leaves.unread at by
due_step old new (steps.Whole shown) due gives by =
    let has = given_head old.unread gives.head gives.body gives.n gives.next in
    let same : due ≡ wants_interim gives.head = by ∙ gives.tells.interim in
    (λ so_is. (gives.head, has.at, has.stands, sym same ∙ so_is), λ is_due. same ∙ due_head old.unread gives.head false has is_due)
due_step old new (steps.Head shown) due gives by =
    let has = opened_head old.unread gives.head shown.length gives.n gives.next in
    let same : due ≡ wants_interim gives.head = by ∙ gives.tells.interim in
    (λ so_is. (gives.head, has.at, has.stands, sym same ∙ so_is), λ is_due. same ∙ due_head old.unread gives.head true has is_due)

-- what was said by then
had_interim : (due : Bool) (bytes : List ℕ) → (IsTrue due ↔ IsInterimDue bytes) → HadInterim bytes (interim_where due)
had_interim true bytes tells = (tells.0 refl, refl)
had_interim false bytes tells = λ is_due. false≢true (tells.1 is_due)

due_said : (due : Bool) (bytes : List ℕ) → HadInterim bytes (interim_where due) → due ≡ true → IsInterimDue bytes
due_said true bytes had so_is = had.0
due_said false bytes had so_is = absurd (false≢true so_is)

-- none is due to no bytes
silent_by : (due : Bool) → HadInterim [] (interim_where due) → due ≡ false
silent_by true (is_due, said) = absurd is_due.2
silent_by false had = refl

silent : (due : Bool) (bytes : List ℕ) → HadInterim bytes (interim_where due) → bytes ≡ [] → due ≡ false
silent due bytes had none = silent_by due (subst (λ b. HadInterim b (interim_where due)) none had)

-- ---- a request that isn't whole

pub is_waiting : (old new : Fed) (due : Bool) → Turns old steps.More new → (IsTrue due ↔ IsInterimDue old.unread) → IsWaiting new.unread due new
is_waiting old new due waits tells =
    let same = waits.leaves.unread in
    let had : HadInterim new.unread (interim_where due) = rw same (had_interim due old.unread tells) in
    record { next = rw same waits.next; interim = had; silent = silent due new.unread had; unread = refl }

pub may_more : (old new : Fed) → MayTurn old → Turns old steps.More new → MayTurn new
may_more old new may waits = record {
  handed_on = rw waits.leaves.stage_is refl;
  unrefused = λ fault failed. open_only fault (sym waits.leaves.stage_is ∙ failed);
  goes_on = waits.leaves.ended_is ∙ may.goes_on;
}
  where
    open_only : (fault : WireFault) → stages.Open ≡ stages.Failed fault → ⊥
    open_only fault e = cc

pub room_more : (old new : Fed) → Turns old steps.More new → kept_count new < feed_room
room_more old new waits = waits_with_room old new waits

and_true : (b : Bool) → (b && not false) ≡ b
and_true true = refl
and_true false = refl

pub none_long : (bytes : List ℕ) → length bytes ≡ 0 → bytes ≡ []
none_long [] is = refl
none_long (x ∷ bytes) is = absurd (omega (arith, is))

module _ (old new : Fed) (due : Bool) (before now : Device) (waits : IsWaiting old.unread due old) where
  -- more was heard
  -- a call of `hear` in front of all else
  one_waits : (end : HearEnd) → AllByRecursion (HearsWaiting old.unread (interim_bytes (due && not false))) (one_part end)
  one_waits end = (
    record {
      said = due;
      told = append-nil (interim_bytes (due && not false)) ∙ ap interim_bytes (and_true due);
      next = rw (append-nil old.unread) waits.next;
      interim = rw (append-nil old.unread) waits.interim;
    },
    tt,
  )

  pub turns_on : MayTurn old → (count : ℕ) → count ≢ 0 → HearsBytes count old new before now
      → FollowsTurn false due old.requests old.unread new before now (Waits due)
  turns_on may zero some h = absurd (some refl)
  turns_on may (suc count) some h = record {
    parts = one_part h.end;
    bytes = h.bytes;
    waits = one_waits h.end;
    leaves = let more_is : suc count == 0 ≡ false = search (arith, rules, nat_tests) in rw more_is at h.leaves;
    comes = (
      refl,
      omega (arith, h.size),
      omega (arith, h.size, h.few, length-append old.unread h.bytes),
      subst (HearingGoesOn old.requests (old.unread ++ h.bytes) due) (sym h.feed) (record {
        unread = refl;
        requests = refl;
        may = record { handed_on = may.handed_on; unrefused = may.unrefused; goes_on = may.goes_on };
        due = λ so_is. due_later old.unread h.bytes (due_said due old.unread waits.interim so_is);
      }),
    );
  }

  still : (bytes : List ℕ) → bytes ≡ [] → new.unread ≡ old.unread ++ bytes → IsWaiting (old.unread ++ bytes) due new
  still bytes none is = record {
    next = rw (none, append-nil old.unread) waits.next;
    interim = rw (none, append-nil old.unread) waits.interim;
    silent = rw (none, append-nil old.unread) waits.silent;
    unread = is;
  }

  ended_by : (bytes all : List ℕ) → old.unread ++ bytes ≡ all → IsWaiting (old.unread ++ bytes) due new → {end : HearEnd}
      → HearsAndSays (one_part end) bytes false true true true before now
      → FollowsTurn false due old.requests old.unread new before now (Done (end_of all))
  ended_by bytes [] is waits_still {end} leaves =
      record { parts = one_part end; bytes = bytes; leaves = leaves; waits = one_waits end; comes = (is, waits_still) }
  ended_by bytes (x ∷ all) is waits_still {end} leaves =
      record { parts = one_part end; bytes = bytes; leaves = leaves; waits = one_waits end; comes = (λ none. absurd (let same : x ∷ all ≡ [] = sym is ∙ none in cc), waits_still) }

  -- the peer's bytes ended
  pub turns_end : HearsBytes 0 old new before now → FollowsTurn false due old.requests old.unread new before now (Done (end_of new.unread))
  turns_end h =
      let is : new.unread ≡ old.unread ++ h.bytes = ap (λ (f : Fed). f.unread) h.feed in
      ended_by h.bytes new.unread (sym is) (still h.bytes (none_long h.bytes h.size) is) h.leaves

  -- the hearing failed
  pub turns_unheard : new ≡ old → HearsAndSays (one_part Unheard) [] false true false false before now
      → FollowsTurn false due old.requests old.unread new before now (Done heards.Unheard)
  turns_unheard same leaves = record {
    parts = one_part Unheard;
    bytes = [];
    leaves = leaves;
    waits = one_waits Unheard;
    comes = still [] refl (ap (λ (f : Fed). f.unread) same ∙ sym (append-nil old.unread));
  }

-- ---- what the feed gives

last_number : (taken : ℕ) (head : RequestHead) → feeds.is_last_request (ends_connection head) (taken + 1) ≡ ends_behind taken head
last_number taken head = let same : taken + 1 ≡ suc taken = omega arith in rw same refl

module _ (old new : Fed) (due : Bool) (tells : IsTrue due ↔ IsInterimDue old.unread) where
  split : (n : ℕ) → new.unread ≡ drop n old.unread → old.unread ++ [] ≡ take n old.unread ++ new.unread
  split n is = append-nil old.unread ∙ sym (take-append-drop n old.unread) ∙ ap (λ l. take n old.unread ++ l) (sym is)

  pub comes_whole : (shown : Head) → GivesWhole old new shown → GivesRequest old.requests (old.unread ++ []) due new shown
  comes_whole shown g =
      let size : length (take g.n old.unread) ≡ g.n = length-take-le g.n old.unread g.inside in
      let ends : shown.ends ≡ ends_behind old.requests g.head = g.tells.ends ∙ last_number old.requests g.head in
      record {
        text = take g.n old.unread;
        request = record { head = g.head; body = g.body; ends = shown.ends };
        text_is = split g.n g.leaves.unread;
        spells = record { is_whole = other (rw size (stands_alone old.unread (given g.head g.body) g.n g.next)); ends_is = ends };
        other = (given_head old.unread g.head g.body g.n g.next).media_is;
        interim = due_is old.unread g.head false due (given_head old.unread g.head g.body g.n g.next) tells;
        ends = refl;
        tells = g.tells;
        tells_body = g.tells_body;
        behind = record { stage_is = g.leaves.stage_is; requests_are = g.leaves.requests_are; ended_is = g.leaves.ended_is };
      }

  pub comes_media : (shown : Head) → GivesHead old new shown → OpensMedia old.requests (old.unread ++ []) due new shown
  comes_media shown g =
      let size : length (take g.n old.unread) ≡ g.n = length-take-le g.n old.unread g.inside in
      record {
        text = take g.n old.unread;
        head = g.head;
        text_is = split g.n g.leaves.unread;
        next = rw size (stands_alone old.unread (opened g.head shown.length) g.n g.next);
        interim = due_is old.unread g.head true due (opened_head old.unread g.head shown.length g.n g.next) tells;
        ends = g.tells.ends ∙ last_number old.requests g.head;
        tells = g.tells;
        behind = record { stage_is = g.leaves.stage_is; requests_are = g.leaves.requests_are; ended_is = g.leaves.ended_is };
        room = omega (arith, head_has_room old new shown g);
      }

  pub comes_refused : (fault : WireFault) → Turns old (steps.Refused fault) new → IsRefusedByWire (old.unread ++ []) due new fault
  comes_refused fault r = record {
    next = rw (append-nil old.unread) r.next;
    interim = rw (append-nil old.unread) (had_interim due old.unread tells);
    unread = r.leaves.unread ∙ sym (append-nil old.unread);
  }

-- ---- an interim response that couldn't be said

some_bytes : (text : List ℕ) → 0 < length text → text ≢ []
some_bytes [] some none = omega (arith, some)
some_bytes (x ∷ text) some none = cc

unsaid_other : (bytes : List ℕ) (head : RequestHead) (n : ℕ) → IsHead bytes (whole head n) → wants_interim head ≡ true
    → is_media head.method head.target ≡ false
    → IsUnsaid (bytes ++ []) true false
unsaid_other bytes head n stands wants media =
    let w = heads_wait bytes head n stands wants in
    record {
      text = take n bytes;
      rest = drop n bytes;
      text_is = append-nil bytes ∙ sym (take-append-drop n bytes);
      some = some_bytes (take n bytes) w.some;
      said_is = refl;
      cut = waiting (Some interim_text) (w.other media) (w.due, refl);
    }

unsaid_media : (bytes : List ℕ) (head : RequestHead) (n : ℕ) → IsHead bytes (whole head n) → wants_interim head ≡ true → is_media head.method head.target ≡ true
    → IsUnsaid (bytes ++ []) true true
unsaid_media bytes head n stands wants media =
    let w = heads_wait bytes head n stands wants in
    let (size, some, next) = w.media media in
    let interim : interim_of head ≡ Some interim_text = rw wants refl in
    record {
      text = take n bytes;
      rest = drop n bytes;
      text_is = append-nil bytes ∙ sym (take-append-drop n bytes);
      some = some_bytes (take n bytes) w.some;
      said_is = refl;
      cut = subst (λ i. IsCut (take n bytes) (record { interim = i; takes_moment = true })) interim
          (within head size (length (take n bytes)) next (omega (arith, some)));
    }

unsaid_by : (media : Bool) (bytes : List ℕ) (head : RequestHead) (n : ℕ) (next : Front Got) → IsNext bytes next → IsHead bytes (whole head n)
    → wants_interim head ≡ true → is_media head.method head.target ≡ media → ((size : ℕ) → next ≢ whole (opened head size) n)
    → IsUnsaid (bytes ++ []) true false
unsaid_by false bytes head n next found stands wants media none = unsaid_other bytes head n stands wants media
unsaid_by true bytes head n next found stands wants media none =
    let (size, is) = media_opens bytes next head n found stands wants media in
    absurd (none size is)

pub comes_unsaid : (old new : Fed) (step : FeedStep) → Turns old step new → IsInterimDue old.unread
    → IsHeardAs old.requests (old.unread ++ []) true new (unsaid_of step)
comes_unsaid old new steps.More waits (head, n, stands, wants) =
    unsaid_by (is_media head.method head.target) old.unread head n more waits.next stands wants refl (λ size e. cc)
comes_unsaid old new (steps.Refused fault) r (head, n, stands, wants) =
    unsaid_by (is_media head.method head.target) old.unread head n (refused fault) r.next stands wants refl (λ size e. cc)
comes_unsaid old new (steps.Whole shown) g (head, n, stands, wants) =
    unsaid_by (is_media head.method head.target) old.unread head n (whole (given g.head g.body) g.n) g.next stands wants refl (λ size e. cc)
comes_unsaid old new (steps.Head shown) g (head, n, stands, wants) =
    let has = opened_head old.unread g.head shown.length g.n g.next in
    let same = (same_head old.unread g.head head has.at n has.stands stands).0 in
    unsaid_media old.unread head n stands wants (ap (λ (h : RequestHead). is_media h.method h.target) (sym same) ∙ has.media_is)

and_first : (a b : Bool) → a && b ≡ true → a ≡ true
and_first true b e = refl
and_first false b e = absurd (false≢true e)

follows_unsaid : (old new : Fed) (step : FeedStep) (says : Bool) (before now : Device) → Turns old step new → IsInterimDue old.unread
    → HearsAndSays [] [] says false false false before now → FollowsTurn says true old.requests old.unread new before now (Done (unsaid_of step))
follows_unsaid old new steps.More says before now turns is_due leaves =
    record { parts = []; bytes = []; leaves = leaves; waits = tt; comes = comes_unsaid old new steps.More turns is_due }
follows_unsaid old new (steps.Refused fault) says before now turns is_due leaves =
    record { parts = []; bytes = []; leaves = leaves; waits = tt; comes = comes_unsaid old new (steps.Refused fault) turns is_due }
follows_unsaid old new (steps.Whole shown) says before now turns is_due leaves =
    record { parts = []; bytes = []; leaves = leaves; waits = tt; comes = comes_unsaid old new (steps.Whole shown) turns is_due }
follows_unsaid old new (steps.Head shown) says before now turns is_due leaves =
    record { parts = []; bytes = []; leaves = leaves; waits = tt; comes = comes_unsaid old new (steps.Head shown) turns is_due }

-- what was said of it before and within a turn
said_in_all : (said due : Bool) → (said ≡ true → due ≡ true)
    → interim_bytes (due && not (due && not said)) ++ interim_bytes (due && not said) ≡ interim_bytes (due && not false)
said_in_all true true stays = append-nil interim_text
said_in_all true false stays = refl
said_in_all false true stays = refl
said_in_all false false stays = refl

-- calls that waited behind what was heard and told waited in all
waits_behind : (unread before told heard said : List ℕ) (parts : List HearPart) → before ++ said ≡ told → (there : List ℕ) → unread ++ heard ≡ there
    → AllByRecursion (HearsWaiting there told) parts → AllByRecursion (HearsWaiting unread before) (map (part_behind heard said) parts)
waits_behind unread before told heard said [] is there at all = tt
waits_behind unread before told heard said (p ∷ parts) is there at all =
    let on : there ++ p.heard ≡ unread ++ (heard ++ p.heard) = ap (λ u. u ++ p.heard) (sym at) ∙ append_assoc unread heard p.heard in (
      record {
        said = all.0.said;
        told = sym (append_assoc before said p.told) ∙ ap (λ t. t ++ p.told) is ∙ all.0.told;
        next = rw (← on) all.0.next;
        interim = rw (← on) all.0.interim;
      },
      waits_behind unread before told heard said parts is there at all.1,
    )

-- ---- a whole turn

module _ (old mid new : Fed) (said due : Bool) (before between after : Device) (tells : IsTrue due ↔ IsInterimDue old.unread)
    (was : said ≡ true → IsInterimDue old.unread) where
  stays : said ≡ true → due ≡ true
  stays so_is = tells.1 (was so_is)

  pub turned_whole : (shown : Head) → GivesWhole old mid shown → HearsAndSays [] [] (due && not said) true true false before between
      → TurnsTo said old.requests old.unread mid before between (Done (heards.Whole shown))
  turned_whole shown gives leaves =
      record { due = due; stays = stays; follows = record { parts = []; bytes = []; leaves = leaves; waits = tt; comes = comes_whole old mid due tells shown gives } }

  pub turned_media : (shown : Head) → GivesHead old mid shown → HearsAndSays [] [] (due && not said) true true false before between
      → TurnsTo said old.requests old.unread mid before between (Done (heards.Media shown))
  turned_media shown gives leaves =
      record { due = due; stays = stays; follows = record { parts = []; bytes = []; leaves = leaves; waits = tt; comes = comes_media old mid due tells shown gives } }

  pub turned_refused : (fault : WireFault) → Turns old (steps.Refused fault) mid → HearsAndSays [] [] (due && not said) true true false before between
      → TurnsTo said old.requests old.unread mid before between (Done (heards.Refused fault))
  turned_refused fault refuses leaves =
      record { due = due; stays = stays; follows = record { parts = []; bytes = []; leaves = leaves; waits = tt; comes = comes_refused old mid due tells fault refuses } }

  pub turned_unsaid : (step : FeedStep) → Turns old step mid → (due && not said) ≡ true → HearsAndSays [] [] (due && not said) false false false before between
      → TurnsTo said old.requests old.unread mid before between (Done (unsaid_of step))
  turned_unsaid step turns asked leaves =
      let so_is : due ≡ true = and_first due (not said) asked in
      record {
        due = due;
        stays = stays;
        follows = subst (λ d. FollowsTurn (due && not said) d old.requests old.unread mid before between (Done (unsaid_of step))) (sym so_is)
            (follows_unsaid old mid step (due && not said) before between turns (tells.0 so_is) leaves);
      }

  pub turned_more : (turn : Turn) → Turns old steps.More mid → HearsAndSays [] [] (due && not said) true true false before between
      → FollowsTurn false due mid.requests mid.unread new between after turn → TurnsTo said old.requests old.unread new before after turn
  turned_more turn waits says more_heard =
      let here : FollowsTurn false due old.requests old.unread new between after turn =
      subst (λ n. FollowsTurn false due n old.unread new between after turn) waits.leaves.requests_are
      (subst (λ u. FollowsTurn false due mid.requests u new between after turn) waits.leaves.unread more_heard) in
      record {
        due = due;
        stays = stays;
        follows = record {
          parts = map (part_behind [] (interim_bytes (due && not said))) here.parts;
          bytes = here.bytes;
          leaves = says_then (due && not said) (turn_said turn) (turn_held turn) (turn_ended turn) here.parts here.bytes before between after says
              here.leaves;
          waits = waits_behind old.unread (interim_bytes (due && not (due && not said))) (interim_bytes (due && not false)) []
              (interim_bytes (due && not said)) here.parts (said_in_all said due stays) old.unread (append-nil old.unread) here.waits;
          comes = here.comes;
        };
      }

-- ---- turns in a row

said_by_then : (said due : Bool) → (said ≡ true → due ≡ true) → (said || (due && not said)) ≡ due
said_by_then true due stays = sym (stays refl)
said_by_then false true stays = refl
said_by_then false false stays = refl

said_before_it : (said due : Bool) → (said ≡ true → due ≡ true) → said ≡ (due && not (due && not said))
said_before_it true true stays = refl
said_before_it true false stays = absurd (false≢true (stays refl))
said_before_it false true stays = refl
said_before_it false false stays = refl

at_most_once : (said due : Bool) → said && (due && not said) ≡ false
at_most_once true true = refl
at_most_once true false = refl
at_most_once false due = refl

pub heard_first : (first : Fed) (d : Device) → MayTurn first → HasHeard first first d d false 0
heard_first first d may = record {
  parts = [];
  bytes = [];
  leaves = hears_nothing d;
  waits = tt;
  goes = record { unread = sym (append-nil first.unread); requests = refl; may = may; due = λ no. absurd (false≢true no) };
  moved = omega arith;
  few = omega arith;
}

module _ (first now new : Fed) (before between after : Device) (said : Bool) (turns : ℕ) (h : HasHeard first now before between said turns) where
  all_bytes : (bytes : List ℕ) → now.unread ++ bytes ≡ first.unread ++ (h.bytes ++ bytes)
  all_bytes bytes = ap (λ u. u ++ bytes) h.goes.unread ∙ append_assoc first.unread h.bytes bytes

  -- the calls of `hear` so far, and those of the turn
  abbrev parts_by : (turn : Turn) (t : TurnsTo said now.requests now.unread new between after turn) → List HearPart
  parts_by turn t = h.parts ++ map (part_behind h.bytes (interim_bytes said)) t.follows.parts

  waits_by : (turn : Turn) (t : TurnsTo said now.requests now.unread new between after turn)
      → AllByRecursion (HearsWaiting first.unread []) (parts_by turn t)
  waits_by turn t =
      each-append _ h.parts _ h.waits
      (waits_behind first.unread [] (interim_bytes (t.due && not (t.due && not said))) h.bytes (interim_bytes said) t.follows.parts
      (ap interim_bytes (said_before_it said t.due t.stays)) now.unread (sym h.goes.unread) t.follows.waits)

  leaves_by : (turn : Turn) (t : TurnsTo said now.requests now.unread new between after turn)
      → HearsAndSays (parts_by turn t) (h.bytes ++ t.follows.bytes) t.due (turn_said turn) (turn_held turn) (turn_ended turn) before after
  leaves_by turn t =
      subst (λ s. HearsAndSays (parts_by turn t) (h.bytes ++ t.follows.bytes) s (turn_said turn) (turn_held turn) (turn_ended turn) before after)
      (said_by_then said t.due t.stays)
      (hears_twice h.parts t.follows.parts h.bytes t.follows.bytes (turn_said turn) (turn_held turn) (turn_ended turn) before between after said (t.due && not said)
      (at_most_once said t.due) h.leaves t.follows.leaves)

  pub heard_more : (later : Bool) → TurnsTo said now.requests now.unread new between after (Waits later)
      → HasHeard first new before after later (turns + 1)
  heard_more later t =
      let (same, some, few, goes) = t.follows.comes in
      let longer = length-append h.bytes t.follows.bytes in
      record {
        parts = parts_by (Waits later) t;
        bytes = h.bytes ++ t.follows.bytes;
        leaves = rw same (leaves_by (Waits later) t);
        waits = waits_by (Waits later) t;
        goes = rw same (subst (λ n. HearingGoesOn n (first.unread ++ (h.bytes ++ t.follows.bytes)) t.due new) h.goes.requests
            (subst (λ u. HearingGoesOn now.requests u t.due new) (all_bytes t.follows.bytes) goes));
        moved = omega (arith, h.moved, some, longer);
        few = omega (arith, few, ap length (all_bytes t.follows.bytes), length-append first.unread (h.bytes ++ t.follows.bytes));
      }

  pub heard_done : (result : Heard) → TurnsTo said now.requests now.unread new between after (Done result) → HearsRequest first new before after result
  heard_done result t = record {
    parts = parts_by (Done result) t;
    bytes = h.bytes ++ t.follows.bytes;
    said = t.due;
    leaves = leaves_by (Done result) t;
    waits = waits_by (Done result) t;
    comes = subst (λ n. IsHeardAs n (first.unread ++ (h.bytes ++ t.follows.bytes)) t.due new result) h.goes.requests
        (subst (λ u. IsHeardAs now.requests u t.due new result) (all_bytes t.follows.bytes) t.follows.comes);
  }
