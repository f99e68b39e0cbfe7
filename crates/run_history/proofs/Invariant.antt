-- How each call of a run keeps its invariant.
use Rattle.std.proofs.Common.{◌≡◌, ◌≤◌, ◌-◌, ℕ, Bool, true, false, List, [], ◌∷◌, ◌++◌, length, map, refl, sym, ap, ◌∙◌, subst, inl, inr, arith}
use Rattle.std.proofs.lemmas.List.{append_assoc, append-nil, length-append}
use Rattle.std.proofs.lemmas.Bool.{false≢true}
use Rattle.std.proofs.Math.Seq.{take-length}
use Rattle.disk_trait.specs.Device.{Connection, Device, Left, may_leave}
use Rattle.disk_trait.specs.Calls.{Elapses, Unchanged}
use Rattle.site_edge.specs.Links.{AddsConnection, Sends, Tells, change_last}
use Rattle.site_edge.specs.Saying.{ArePrefixes, IsToldToLast}
use Rattle.site_edge.proofs.Theorems.{change_last_push, part_length, prefixes_push, prefixes_told, push_length, told_whole}
use Rattle.run_history.specs.Machine.{Machine}
use Rattle.run_history.specs.Steps.{Piece, last_or, piece_bytes}
use Rattle.run_history.specs.Sessions.{bytes_of_pieces}
use Rattle.run_history.specs.Traces.{Trace, state_after, state_now, trace_of}
use Rattle.run_history.specs.Runs.{AllRight, Beginning, IsRight, StandsNow}
use Rattle.run_history.specs.Laws.{DurableChanges, PartsSuffice, PeersCome, QuietCalls, RunsBegin, SaidPieces, TornChanges, Writes, Wrote}
use Rattle.run_history.specs.Growing.{CountAtMost, then_change, with_connection, with_piece}
use Rattle.run_history.specs.Reaching.{IsNow, Reached, sure_changes, told_first}
use Rattle.run_history.proofs.Pieces.{begun-most, bytes-connection, bytes-piece, count-connection, count-more, count-piece}
use Rattle.run_history.proofs.Pairs.{all_grown, calls_add_up, right_grows, state_after-change}

-- ---- the states of a trace

pub state_now-after : {State : Type 0} (t : Trace State) → state_after (length t.changes) t ≡ state_now t
state_now-after t = ap (last_or t.first) (take-length t.changes)

last_or-push : {State : Type 0} (s x : State) (xs : List State) → last_or s (xs ++ x ∷ []) ≡ x
last_or-push s x [] = refl
last_or-push s x (y ∷ ys) = last_or-push y x ys

pub state_now-change : {State : Type 0} (t : Trace State) (s : State) → state_now (then_change s t) ≡ s
state_now-change t s = last_or-push t.first s t.changes

state_before-change : {State : Type 0} (t : Trace State) (s : State) → state_after (length (then_change s t).changes - 1) (then_change s t) ≡ state_now t
state_before-change t s =
    let count : length (t.changes ++ s ∷ []) - 1 ≡ length t.changes = omega (arith, length-append t.changes (s ∷ [])) in
    ap (λ n. state_after n (then_change s t)) count
    ∙ state_after-change t s (length t.changes) (omega arith)
    ∙ state_now-after t

-- an image that stands for the last state, or the one before it, stands for one after so many changes
-- that what surely stands is among them
stands-count : {State Request : Type 0} (m : Machine State Request) (image : List ℕ) (t : Trace State) (writing : Bool) → StandsNow m image t writing
    → (n : ℕ) × (sure_changes t writing ≤ n) × (n ≤ length t.changes) × m.stands image (state_after n t)
stands-count m image t false stands =
    (length t.changes, omega arith, omega arith, subst (m.stands image) (sym (state_now-after t)) stands)
stands-count m image t true (inl last) =
    (length t.changes, omega arith, omega arith, subst (m.stands image) (sym (state_now-after t)) last)
stands-count m image t true (inr before) = (length t.changes - 1, omega arith, omega arith, before)

-- what a crash leaves now is right
right-now : {State Request : Type 0} (m : Machine State Request) (b : Beginning State) (t : Trace State) (writing : Bool) (told : List (List ℕ)) (p : Left)
    → CountAtMost (sure_changes t writing) t.scripts → p.told ≡ told_first b ++ told → ArePrefixes told (map bytes_of_pieces t.scripts)
    → StandsNow m p.image t writing
    → IsRight m b t p
right-now m b t writing told p counts told_is prefixes stands =
    let at = stands-count m p.image t writing stands in
    let most = begun-most t.scripts told (sure_changes t writing) counts in
    record {
      told = told;
      told_is = told_is;
      left = record { count = at.0; within = at.2; stands = at.3; acknowledged = omega (arith, most, at.1); prefixes = prefixes };
    }

pub runs_begin : RunsBegin
runs_begin State Request m b d sound honest tells connections moment stands =
    let told : (p : Left) → may_leave d p → p.told ≡ told_first b ++ [] =
    λ p could. sound.told honest tells p could ∙ ap (map (λ (c : Connection). c.told)) connections ∙ sym (append-nil (told_first b)) in
    record {
      counts = tt;
      right = record {
        begun = omega (arith, moment);
        since = λ p left.
            let could : may_leave d p = subst (λ n. d.left_since n p) (sym moment) left in
            right-now m b (trace_of m b.state []) false [] p tt (told p could) tt (stands p could);
      };
      now = λ p could. record {
        told = [];
        told_is = told p could;
        prefixes = tt;
        same_length = refl;
        all = λ e. absurd (false≢true e);
        stands = stands p could;
      };
    }

pub parts_suffice : PartsSuffice
parts_suffice State Request m b t whole writing d r = record {
  counts = r.counts;
  right = r.right;
  now = λ p could.
      let n = r.now p could in
      record {
        told = n.told;
        told_is = n.told_is;
        prefixes = n.prefixes;
        same_length = n.same_length;
        all = λ e. absurd (false≢true e);
        stands = n.stands;
      };
}

pub quiet_calls : QuietCalls
quiet_calls State Request m b t whole writing old new r time = record {
  counts = r.counts;
  right = calls_add_up State Request m b t Unchanged Unchanged old new r.right time (λ q p could same.
      let n = r.now q could in
      right-now m b t writing n.told p r.counts (ap (λ (x : Left). x.told) same ∙ n.told_is) n.prefixes
      (subst (λ (x : Left). StandsNow m x.image t writing) (sym same) n.stands));
  now = λ p could. let from = time.now p could in subst (IsNow m b t whole writing) (sym from.2) (r.now from.0 from.1);
}

-- what is told stays, and the image stands for a state of a longer trace
now-change : {State Request : Type 0} (m : Machine State Request) (b : Beginning State) (t : Trace State) (s : State) (whole writing : Bool) (q p : Left)
    → IsNow m b t whole false q → p.told ≡ q.told → StandsNow m p.image (then_change s t) writing → IsNow m b (then_change s t) whole writing p
now-change m b t s whole writing q p n told stands = record {
  told = n.told;
  told_is = told ∙ n.told_is;
  prefixes = n.prefixes;
  same_length = n.same_length;
  all = n.all;
  stands = stands;
}

-- while a record is being written, each crash leaves what is right with its change
right-change : {State Request : Type 0} (m : Machine State Request) (b : Beginning State) (t : Trace State) (s : State) (whole : Bool) (ended : Left → Left
    → Type 0)
    (old new : Device) → Reached m b t whole false old → Elapses (Writes m t s) ended old new → AllRight m b (then_change s t) new
right-change {State} {Request} m b t s whole ended old new r time =
    let longer = length-append t.changes (s ∷ []) in
    let counts = count-more t.scripts (length t.changes) (sure_changes (then_change s t) true) (omega (arith, longer)) r.counts in
    calls_add_up State Request m b (then_change s t) (Writes m t s) ended old new
    (all_grown m b t (then_change s t) old (λ p right. (right_grows State Request m b t p right).change s) r.right) time
    (λ q p could writes.
    let n = r.now q could in
    right-now m b (then_change s t) true n.told p counts (writes.told ∙ n.told_is) n.prefixes writes.image)

pub durable_changes : DurableChanges
durable_changes State Request m b t s whole old new r time = record {
  counts = count-more t.scripts (length t.changes) (length (t.changes ++ s ∷ [])) (omega (arith, length-append t.changes (s ∷ []))) r.counts;
  right = right-change m b t s whole (Wrote m s) old new r time;
  now = λ p could.
      let from = time.now p could in
      now-change m b t s whole false from.0 p (r.now from.0 from.1) from.2.told
      (subst (m.stands p.image) (sym (state_now-change t s)) from.2.image);
}

pub torn_changes : TornChanges
torn_changes State Request m b t s whole old new r time = record {
  counts = count-more t.scripts (length t.changes) (length (t.changes ++ s ∷ []) - 1) (omega (arith, length-append t.changes (s ∷ []))) r.counts;
  right = right-change m b t s whole (Writes m t s) old new r time;
  now = λ p could.
      let from = time.now p could in
      now-change m b t s whole true from.0 p (r.now from.0 from.1) from.2.told from.2.image;
}

-- ---- saying

-- the last connection is behind those before the run
change_last-behind : {A : Type 0} (f : A → A) (front xs ys : List A) (x : A) → xs ≡ ys ++ x ∷ [] → change_last f (front ++ xs) ≡ front ++ change_last f xs
change_last-behind f front xs ys x is =
    ap (λ l. change_last f (front ++ l)) is
    ∙ ap (change_last f) (sym (append_assoc front ys (x ∷ [])))
    ∙ change_last_push f (front ++ ys) x
    ∙ append_assoc front ys (f x ∷ [])
    ∙ ap (λ l. front ++ l) (sym (change_last_push f ys x))
    ∙ ap (λ l. front ++ change_last f l) (sym is)

-- a trace with a piece more has the states that it had
stands-piece : {State Request : Type 0} (m : Machine State Request) (image : List ℕ) (t : Trace State) (p : Piece) (writing : Bool)
    → StandsNow m image t writing
    → StandsNow m image (with_piece p t) writing
stands-piece m image t p false stands = stands
stands-piece m image t p true stands = stands

sure-piece : {State : Type 0} (t : Trace State) (p : Piece) (writing : Bool) → sure_changes (with_piece p t) writing ≡ sure_changes t writing
sure-piece t p false = refl
sure-piece t p true = refl

-- what was told when a saying has ended, or so far
now-piece : {State Request : Type 0} (m : Machine State Request) (b : Beginning State) (t : Trace State) (piece : Piece) (ok writing : Bool) (q p : Left)
    → IsNow m b t true writing q → Tells ok (piece_bytes piece) q p → IsNow m b (with_piece piece t) ok writing p
now-piece m b t piece ok writing q p n tells =
    let last = n.all refl in
    let sent = tells.told.0 in
    let sends = tells.told.1 in
    let said = map bytes_of_pieces t.scripts in
    let part : Sends false (piece_bytes piece) sent = record { prefix = sends.prefix; whole = λ e. absurd (false≢true e) } in
    record {
      told = change_last (λ x. x ++ sent) n.told;
      told_is = tells.told.2 ∙ ap (change_last (λ x. x ++ sent)) n.told_is ∙ change_last-behind (λ x. x ++ sent) (told_first b) n.told last.told_before
          last.last last.told_is;
      prefixes = subst (ArePrefixes (change_last (λ x. x ++ sent) n.told)) (sym (bytes-piece t.scripts piece))
          (prefixes_told n.told said (piece_bytes piece) sent part last);
      same_length = part_length n.told said (piece_bytes piece) sent last ∙ ap length (sym (bytes-piece t.scripts piece));
      all = λ e.
          let whole : sent ≡ piece_bytes piece = sends.whole e in
          subst (λ b. IsToldToLast (change_last (λ x. x ++ b) n.told) (map bytes_of_pieces (with_piece piece t).scripts)) (sym whole)
          (subst (IsToldToLast (change_last (λ x. x ++ piece_bytes piece) n.told)) (sym (bytes-piece t.scripts piece))
          (told_whole n.told said (piece_bytes piece) last));
      stands = stands-piece m p.image t piece writing (subst (λ i. StandsNow m i t writing) (sym tells.image) n.stands);
    }

pub said_pieces : SaidPieces
said_pieces State Request m b t piece ok writing old new counted r time =
    let sure = sure-piece t piece writing in
    let counts = subst (λ n. CountAtMost n (with_piece piece t).scripts) (sym sure) (count-piece t.scripts piece (sure_changes t writing) r.counts counted) in
    record {
      counts = counts;
      right = calls_add_up State Request m b (with_piece piece t) (Tells false (piece_bytes piece)) (Tells ok (piece_bytes piece)) old new
          (all_grown m b t (with_piece piece t) old (λ p right. (right_grows State Request m b t p right).piece piece) r.right) time
          (λ q p could tells.
          let n = now-piece m b t piece false writing q p (r.now q could) tells in
          right-now m b (with_piece piece t) writing n.told p counts n.told_is n.prefixes n.stands);
      now = λ p could.
          let from = time.now p could in
          now-piece m b t piece ok writing from.0 p (r.now from.0 from.1) from.2;
    }

-- ---- a peer comes

stands-connection : {State Request : Type 0} (m : Machine State Request) (image : List ℕ) (t : Trace State) (writing : Bool) → StandsNow m image t writing
    → StandsNow m image (with_connection t) writing
stands-connection m image t false stands = stands
stands-connection m image t true stands = stands

sure-connection : {State : Type 0} (t : Trace State) (writing : Bool) → sure_changes (with_connection t) writing ≡ sure_changes t writing
sure-connection t false = refl
sure-connection t true = refl

now-connection : {State Request : Type 0} (m : Machine State Request) (b : Beginning State) (t : Trace State) (whole writing : Bool) (q p : Left)
    → IsNow m b t whole writing q → AddsConnection q p → IsNow m b (with_connection t) true writing p
now-connection m b t whole writing q p n adds =
    let said = map bytes_of_pieces t.scripts in
    let more = bytes-connection t.scripts in
    record {
      told = n.told ++ [] ∷ [];
      told_is = adds.told ∙ ap (λ l. l ++ [] ∷ []) n.told_is ∙ append_assoc (told_first b) n.told ([] ∷ []);
      prefixes = subst (ArePrefixes (n.told ++ [] ∷ [])) (sym more) (prefixes_push n.told said [] [] n.same_length n.prefixes ([], refl));
      same_length = push_length n.told said [] [] n.same_length ∙ ap length (sym more);
      all = λ e. record {
        told_before = n.told;
        said_before = said;
        last = [];
        told_is = refl;
        said_is = more;
        same_length = n.same_length;
        prefixes = n.prefixes;
      };
      stands = stands-connection m p.image t writing (subst (λ i. StandsNow m i t writing) (sym adds.image) n.stands);
    }

pub peers_come : PeersCome
peers_come State Request m b t whole writing old new r time =
    let sure = sure-connection t writing in
    let counts = subst (λ n. CountAtMost n (with_connection t).scripts) (sym sure) (count-connection t.scripts (sure_changes t writing) r.counts) in
    record {
      counts = counts;
      right = calls_add_up State Request m b (with_connection t) AddsConnection AddsConnection old new
          (all_grown m b t (with_connection t) old (λ p right. (right_grows State Request m b t p right).connection) r.right) time
          (λ q p could adds.
          let n = now-connection m b t whole writing q p (r.now q could) adds in
          right-now m b (with_connection t) writing n.told p counts n.told_is n.prefixes n.stands);
      now = λ p could.
          let from = time.now p could in
          now-connection m b t whole writing from.0 p (r.now from.0 from.1) from.2;
    }
