-- Laws of said bytes and disk calls in a row, over any site.
use Rattle.std.proofs.Common.{◌≡◌, ◌≤◌, ◌++◌, ◌∷◌, [], ◌∙◌, ℕ, Bool, true, false, List, length, inl, inr, refl, sym, ap, arith}
use Rattle.std.proofs.lemmas.List.{append_assoc, append-nil}
use Rattle.disk_trait.specs.Device.{Device, IsDevice, Left, told_by}
use Rattle.disk_trait.specs.Calls.{DiskCall, Elapses, TornWrite, Unchanged}
use Rattle.disk_trait.specs.DiskMoments.{Then, WithinTwo}
use Rattle.disk_trait.proofs.Theorems.{elapses_twice}
use Rattle.site_edge.specs.Links.{AddsConnection, LinkCall, Sends, Tells, change_last}
use Rattle.site_edge.specs.Saying.{ArePrefixes, IsPrefix, IsToldToLast, KeepsTold, SaidAtMost, SaidSince, said_also}

-- How pairs grow by a disk call and a `say` behind it: the disk call changes images, the `say` adds each
-- prefix of its bytes to what was told.
pub elapses_call_and_say : (step : Left → Left → Type 0) (done ok : Bool) (bytes : List ℕ) (old mid new : Device) → DiskCall step done old mid
    → LinkCall (Tells false bytes) (Tells ok bytes) ok mid new → Elapses (WithinTwo step step (Tells false bytes)) (Then step (Tells ok bytes)) old new
elapses_call_and_say step done ok bytes old mid new call say =
    elapses_twice step step (Tells false bytes) (Tells ok bytes) old mid new call.time say.time

-- and by a `say` and a disk call behind it
pub elapses_say_and_call : (step : Left → Left → Type 0) (done ok : Bool) (bytes : List ℕ) (old mid new : Device)
    → LinkCall (Tells false bytes) (Tells ok bytes) ok old mid → DiskCall step done mid new
    → Elapses (WithinTwo (Tells false bytes) (Tells ok bytes) step) (Then (Tells ok bytes) step) old new
elapses_say_and_call step done ok bytes old mid new say call =
    elapses_twice (Tells false bytes) (Tells ok bytes) step step old mid new say.time call.time

pub keeps_told_unchanged : KeepsTold Unchanged
keeps_told_unchanged old new same = ap (λ p. p.told) same

pub keeps_told_torn : (at n : ℕ) → KeepsTold (TornWrite at n)
keeps_told_torn at n old new torn = torn.told

-- a prefix of a text is one of a longer text
pub prefix_longer : (front text more : List ℕ) → IsPrefix front text → IsPrefix front (text ++ more)
prefix_longer front text more is = (is.0 ++ more, ap (λ s. s ++ more) is.1 ∙ append_assoc front is.0 more)

pub prefixes_longer : (told said : List (List ℕ)) (more : List ℕ) → ArePrefixes told said → ArePrefixes told (said_also more said)
prefixes_longer [] said more are = tt
prefixes_longer (t ∷ told) [] more are = absurd are
prefixes_longer (t ∷ []) (s ∷ []) more are = (prefix_longer t s more are.0, tt)
prefixes_longer (t ∷ u ∷ told) (s ∷ []) more are = absurd are.1
prefixes_longer (t ∷ told) (s ∷ r ∷ said) more are = (are.0, prefixes_longer told (r ∷ said) more are.1)

-- prefixes, and one more connection behind them
pub prefixes_push : (told said : List (List ℕ)) (t s : List ℕ) → length told ≡ length said → ArePrefixes told said → IsPrefix t s
    → ArePrefixes (told ++ t ∷ []) (said ++ s ∷ [])
prefixes_push [] [] t s same are is = (is, tt)
prefixes_push [] (r ∷ said) t s same are is = absurd (omega (arith, same))
prefixes_push (u ∷ told) [] t s same are is = absurd are
prefixes_push (u ∷ told) (r ∷ said) t s same are is = (are.0, prefixes_push told said t s (omega (arith, same)) are.1 is)

pub change_last_push : {A : Type 0} (f : A → A) (xs : List A) (x : A) → change_last f (xs ++ x ∷ []) ≡ xs ++ f x ∷ []
change_last_push f [] x = refl
change_last_push f (y ∷ []) x = refl
change_last_push f (y ∷ z ∷ xs) x = ap (λ ys. y ∷ ys) (change_last_push f (z ∷ xs) x)

-- the last connection was told a prefix of the bytes more
pub prefixes_told : (told said : List (List ℕ)) (bytes sent : List ℕ) → Sends false bytes sent → IsToldToLast told said
    → ArePrefixes (change_last (λ t. t ++ sent) told) (said_also bytes said)
prefixes_told told said bytes sent sends is =
    let more : IsPrefix (is.last ++ sent) (is.last ++ bytes) =
    (sends.prefix.0, ap (λ b. is.last ++ b) sends.prefix.1 ∙ sym (append_assoc is.last sent sends.prefix.0)) in
    let told_now = ap (change_last (λ t. t ++ sent)) is.told_is ∙ change_last_push (λ t. t ++ sent) is.told_before is.last in
    let said_now = ap (said_also bytes) is.said_is ∙ change_last_push (λ s. s ++ bytes) is.said_before is.last in
    rw (told_now, said_now) (prefixes_push is.told_before is.said_before (is.last ++ sent) (is.last ++ bytes) is.same_length is.prefixes more)

-- or all of them
pub told_whole : (told said : List (List ℕ)) (bytes : List ℕ) → IsToldToLast told said
    → IsToldToLast (change_last (λ t. t ++ bytes) told) (said_also bytes said)
told_whole told said bytes is = record {
  told_before = is.told_before;
  said_before = is.said_before;
  last = is.last ++ bytes;
  told_is = ap (change_last (λ t. t ++ bytes)) is.told_is ∙ change_last_push (λ t. t ++ bytes) is.told_before is.last;
  said_is = ap (said_also bytes) is.said_is ∙ change_last_push (λ s. s ++ bytes) is.said_before is.last;
  same_length = is.same_length;
  prefixes = is.prefixes;
}

-- all that was told is a prefix of what was said, the last connection's too
pub prefixes_of_whole : (told said : List (List ℕ)) → IsToldToLast told said → ArePrefixes told said
prefixes_of_whole told said is =
    rw (is.told_is, is.said_is) (prefixes_push is.told_before is.said_before is.last is.last is.same_length is.prefixes ([], sym (append-nil is.last)))

-- a disk call leaves told what was told
pub said_over_disk_call : (step : Left → Left → Type 0) (done : Bool) (t : ℕ) (said : List (List ℕ)) (old new : Device) → KeepsTold step → t ≤ old.moment
    → DiskCall step done old new → SaidSince t said old → SaidSince t said new
said_over_disk_call step done t said old new keeps le call is = record {
  since = λ p left. elim (call.time.since t p le left) [
    | inl was ↦ is.since p was
    | inr so_far ↦ rw (keeps so_far.0 p so_far.2) (prefixes_of_whole so_far.0.told said (is.now so_far.0 so_far.1))
  ];
  now = λ p left.
      let before = call.time.now p left in
      rw (keeps before.0 p before.2) (is.now before.0 before.1);
}

-- Each pair since the moment has prefixes of what was said, with the bytes of a `say` added to the last
-- connection, whether it succeeds or fails.
pub prefixes_over_say : (ok : Bool) (bytes : List ℕ) (t : ℕ) (said : List (List ℕ)) (old new : Device) → t ≤ old.moment
    → LinkCall (Tells false bytes) (Tells ok bytes) ok old new → SaidSince t said old → (p : Left) → new.left_since t p
    → ArePrefixes p.told (said_also bytes said)
prefixes_over_say ok bytes t said old new le call is p left = elim (call.time.since t p le left) [
  | inl was ↦ prefixes_longer p.told said bytes (is.since p was)
  | inr so_far ↦
      let tells = so_far.2 in
      rw tells.told.2 (prefixes_told so_far.0.told said bytes tells.told.0 tells.told.1 (is.now so_far.0 so_far.1))
]

-- a `say` that succeeds has told all its bytes
pub said_over_say : (bytes : List ℕ) (t : ℕ) (said : List (List ℕ)) (old new : Device) → t ≤ old.moment
    → LinkCall (Tells false bytes) (Tells true bytes) true old new → SaidSince t said old → SaidSince t (said_also bytes said) new
said_over_say bytes t said old new le call is = record {
  since = prefixes_over_say true bytes t said old new le call is;
  now = λ p left.
      let before = call.time.now p left in
      let tells = before.2 in
      let whole = tells.told.1.whole refl in
      rw (tells.told.2, whole) (told_whole before.0.told said bytes (is.now before.0 before.1));
}

-- two calls of `say` with a disk call in between
pub prefixes_over_says : (step : Left → Left → Type 0) (done ok : Bool) (first second : List ℕ) (t : ℕ) (said : List (List ℕ)) (old told written new : Device)
    → KeepsTold step → t ≤ old.moment → LinkCall (Tells false first) (Tells true first) true old told → DiskCall step done told written
    → LinkCall (Tells false second) (Tells ok second) ok written new → SaidSince t said old → (p : Left) → new.left_since t p
    → ArePrefixes p.told (said_also second (said_also first said))
prefixes_over_says step done ok first second t said old told written new keeps le one call two is =
    let after_one = said_over_say first t said old told le one is in
    let le_told : t ≤ told.moment = omega (arith, le, one.time.later) in
    let after_call = said_over_disk_call step done t (said_also first said) told written keeps le_told call after_one in
    prefixes_over_say ok second t (said_also first said) written new (omega (arith, le_told, call.time.later)) two after_call

-- one more connection on both sides
pub push_length : (told said : List (List ℕ)) (t s : List ℕ) → length told ≡ length said → length (told ++ t ∷ []) ≡ length (said ++ s ∷ [])
push_length [] [] t s same = refl
push_length [] (r ∷ said) t s same = absurd (omega (arith, same))
push_length (u ∷ told) [] t s same = absurd (omega (arith, same))
push_length (u ∷ told) (r ∷ said) t s same =
    let longer = push_length told said t s (omega (arith, same)) in
    cc

-- prefixes of what was said stay such where one more connection may have begun
pub prefixes_more : (told said : List (List ℕ)) (s : List ℕ) → ArePrefixes told said → ArePrefixes told (said ++ s ∷ [])
prefixes_more [] said s are = tt
prefixes_more (t ∷ told) [] s are = absurd are
prefixes_more (t ∷ told) (r ∷ said) s are = (are.0, prefixes_more told said s are.1)

-- as many connections were told as there was something said on
pub told_length : (told said : List (List ℕ)) → IsToldToLast told said → length told ≡ length said
told_length told said is = rw (is.told_is, is.said_is) (push_length is.told_before is.said_before is.last is.last is.same_length)

-- and so where the last one was told only a part
pub part_length : (told said : List (List ℕ)) (bytes sent : List ℕ) → IsToldToLast told said
    → length (change_last (λ t. t ++ sent) told) ≡ length (said_also bytes said)
part_length told said bytes sent is =
    let told_now = ap (change_last (λ t. t ++ sent)) is.told_is ∙ change_last_push (λ t. t ++ sent) is.told_before is.last in
    let said_now = ap (said_also bytes) is.said_is ∙ change_last_push (λ s. s ++ bytes) is.said_before is.last in
    rw (told_now, said_now) (push_length is.told_before is.said_before (is.last ++ sent) (is.last ++ bytes) is.same_length)

-- all that was said may be a part
pub said_at_most : (t : ℕ) (said : List (List ℕ)) (d : Device) → SaidSince t said d → SaidAtMost t said d
said_at_most t said d is = record {
  since = is.since;
  now = λ p left. (prefixes_of_whole p.told said (is.now p left), told_length p.told said (is.now p left));
}

-- a `say` that fails may have told a part of its bytes
pub said_over_failed_say : (bytes : List ℕ) (t : ℕ) (said : List (List ℕ)) (old new : Device) → t ≤ old.moment
    → LinkCall (Tells false bytes) (Tells false bytes) false old new → SaidSince t said old → SaidAtMost t (said_also bytes said) new
said_over_failed_say bytes t said old new le call is = record {
  since = prefixes_over_say false bytes t said old new le call is;
  now = λ p left.
      let before = call.time.now p left in
      let tells = before.2 in
      let whole = is.now before.0 before.1 in (
        rw tells.told.2 (prefixes_told before.0.told said bytes tells.told.0 tells.told.1 whole),
        rw tells.told.2 (part_length before.0.told said bytes tells.told.0 whole),
      );
}

-- a peer that comes was told nothing yet, whatever became of the connection before it
pub said_over_next_peer : (t : ℕ) (said : List (List ℕ)) (old new : Device) → t ≤ old.moment → LinkCall AddsConnection AddsConnection true old new
    → SaidAtMost t said old → SaidSince t (said ++ [] ∷ []) new
said_over_next_peer t said old new le call is = record {
  since = λ p left. elim (call.time.since t p le left) [
    | inl was ↦ prefixes_more p.told said [] (is.since p was)
    | inr so_far ↦
        let before = is.now so_far.0 so_far.1 in
        rw so_far.2.told (prefixes_push so_far.0.told said [] [] before.1 before.0 ([], refl))
  ];
  now = λ p left.
      let so_far = call.time.now p left in
      let before = is.now so_far.0 so_far.1 in
      record {
        told_before = so_far.0.told;
        said_before = said;
        last = [];
        told_is = so_far.2.told;
        said_is = refl;
        same_length = before.1;
        prefixes = before.0;
      };
}

prefixes_itself : (texts : List (List ℕ)) → ArePrefixes texts texts
prefixes_itself [] = tt
prefixes_itself (t ∷ texts) = (([], sym (append-nil t)), prefixes_itself texts)

-- from now on, what an honest device was told counts as said
pub said_from_now : (d : Device) → IsDevice d → d.honest ≡ true → d.tells ≡ true → SaidAtMost d.moment (told_by d) d
said_from_now d law honest tells = record {
  since = λ p left. rw (law.told honest tells p left) (prefixes_itself (told_by d));
  now = λ p left. (rw (law.told honest tells p left) (prefixes_itself (told_by d)), ap length (law.told honest tells p left));
}

-- a call that tells nothing, as a disk call, a `hear` or the end of a connection, leaves it so
pub said_over_quiet_call : (within ended : Left → Left → Type 0) (t : ℕ) (said : List (List ℕ)) (old new : Device) → KeepsTold within → KeepsTold ended
    → t ≤ old.moment → Elapses within ended old new → SaidAtMost t said old → SaidAtMost t said new
said_over_quiet_call within ended t said old new so_far_keeps keeps le time is = record {
  since = λ p left. elim (time.since t p le left) [
    | inl was ↦ is.since p was
    | inr so_far ↦ rw (so_far_keeps so_far.0 p so_far.2) ((is.now so_far.0 so_far.1).0)
  ];
  now = λ p left.
      let before = time.now p left in
      rw (keeps before.0 p before.2) (is.now before.0 before.1);
}
