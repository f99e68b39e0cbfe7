-- The calls of `hear` of a request that has begun: each began when nothing was owed.
use Rattle.std.proofs.Common.{◌≡◌, ℕ, Bool, true, false, List, [], ◌∷◌, ◌++◌, length, map, refl, sym, ap, ◌∙◌, subst}
use Rattle.std.specs.List.{AllByRecursion}
use Rattle.std.proofs.lemmas.Bool.{false≢true}
use Rattle.std.proofs.lemmas.List.{append-nil, append_assoc}
use Rattle.std.proofs.lemmas.List.Concat.{flat_map-append}
use Rattle.disk_trait.specs.Device.{Connection, HearCall}
use Rattle.run_history.specs.Machine.{Machine}
use Rattle.run_history.specs.Steps.{Stage, Step, interim_pieces, is_last, piece_bytes}
use Rattle.run_history.specs.Sessions.{IsLastHearing, IsUnfinished, OwesNothing, bytes_of_pieces, texts_of}
use Rattle.run_history.specs.Serving.{AreOnTime, connection_with}
use Rattle.run_history.specs.Parts.{pieces_of}
use Rattle.run_history.proofs.Hearings.{EndsOnTime, each-append, on_time-heard, on_time-last, on_time-owes}
use Rattle.request_hearing.specs.Asking.{WaitsFor}
use Rattle.request_hearing.specs.Hearing.{HearPart, IsPartOf, after_hearing, place_call}

-- A connection under way behind n requests, by its steps; what is unread of it; and what it was told behind the script of its steps.
module _ {State Request : Type 0} (m : Machine State Request) (at : Stage State) (steps : List (Step Request))
    (stay : AllByRecursion (λ step. is_last m step ≡ false) steps) (n : ℕ) (count : n ≡ length steps) (unread before : List ℕ) where
  abbrev script : List ℕ
  script = bytes_of_pieces (pieces_of m at steps)

  -- what each of these calls waited for
  abbrev pub Waiting : List HearPart → Type 0
  Waiting = AllByRecursion (λ part. WaitsFor m n (unread ++ part.heard) (before ++ part.told))

  module _ (bytes total : List ℕ) (unheard : Bool) (c : Connection) (heard_is : c.heard ≡ texts_of steps ++ unread) (told_is : c.told ≡ script ++ before)
      (unsaid_is : c.unsaid ≡ false) where
    owes_part : (p : HearPart) → IsPartOf bytes total unheard p → WaitsFor m n (unread ++ p.heard) (before ++ p.told)
        → OwesNothing m at (texts_of steps ++ (unread ++ bytes)) steps (place_call c p)
    owes_part p is w = record {
      front = steps;
      rear = [];
      part = unread ++ p.heard;
      cutting = w.cutting;
      steps_are = sym (append-nil steps);
      stay = stay;
      prefix = (
        is.prefix.0,
        ap (λ b. texts_of steps ++ (unread ++ b)) is.prefix.1 ∙ ap (λ b. texts_of steps ++ b) (sym (append_assoc unread p.heard is.prefix.0))
            ∙ sym (append_assoc (texts_of steps) (unread ++ p.heard) is.prefix.0),
      );
      unfinished = subst (λ k. IsUnfinished m k (unread ++ p.heard)) count w.unfinished;
      cuts = w.cuts;
      heard_is = ap length (ap (λ h. h ++ p.heard) heard_is ∙ append_assoc (texts_of steps) unread p.heard);
      told_is = ap length (ap (λ t. t ++ p.told) told_is ∙ append_assoc script before p.told ∙ ap (λ t. script ++ t) w.told_is
          ∙ sym (flat_map-append piece_bytes (pieces_of m at steps) (interim_pieces w.cutting.interim)));
      said = unsaid_is;
    }

    owe_parts : (parts : List HearPart) → AllByRecursion (IsPartOf bytes total unheard) parts → Waiting parts
        → AllByRecursion (OwesNothing m at (texts_of steps ++ (unread ++ bytes)) steps) (map (place_call c) parts)
    owe_parts [] are waits = tt
    owe_parts (p ∷ parts) are waits = (owes_part p are.0 waits.0, owe_parts parts are.1 waits.1)

    on_time_parts : unheard ≡ false → (parts : List HearPart) → AllByRecursion (IsPartOf bytes total unheard) parts → Waiting parts
        → AreOnTime m at (texts_of steps ++ (unread ++ bytes)) steps (map (place_call c) parts)
    on_time_parts none [] are waits = tt
    on_time_parts none (p ∷ parts) are waits = (
      (owes_part p are.0 waits.0, λ failed. false≢true (sym none ∙ (are.0.failed failed).0)),
      on_time_parts none parts are.1 waits.1,
    )

    last_parts : (after : Connection) (sent : List ℕ) → (unheard ≡ true → sent ≡ total) → after.heard ≡ c.heard ++ bytes → after.told ≡ c.told ++ sent
        → (parts : List HearPart) → AllByRecursion (IsPartOf bytes total unheard) parts → AllByRecursion (IsLastHearing after) (map (place_call c) parts)
    last_parts after sent all heard told [] are = tt
    last_parts after sent all heard told (p ∷ parts) are = (
      record {
        heard = λ failed. ap (λ h. length (c.heard ++ h)) (are.0.failed failed).1 ∙ ap length (sym heard);
        told = λ failed.
            let last = are.0.failed failed in
            ap (λ t. length (c.told ++ t)) (last.2 ∙ sym (all last.0)) ∙ ap length (sym told);
      },
      last_parts after sent all heard told parts are.1,
    )

  module _ (hearings : List HearCall) (on_time : AreOnTime m at (texts_of steps ++ unread) steps hearings) (told : List ℕ)
      (told_is : told ≡ script ++ before) (bytes total : List ℕ) (parts : List HearPart) (waits : Waiting parts) where
    abbrev under : Connection
    under = connection_with (texts_of steps ++ unread) told hearings

    -- It goes on: none of the calls failed.
    pub goes_parts : AllByRecursion (IsPartOf bytes total false) parts
        → AreOnTime m at (texts_of steps ++ (unread ++ bytes)) steps (hearings ++ map (place_call under) parts)
    goes_parts are =
        each-append _ hearings (map (place_call under) parts)
        (subst (λ h. AreOnTime m at h steps hearings) (append_assoc (texts_of steps) unread bytes)
        (on_time-heard m at (texts_of steps ++ unread) steps bytes hearings on_time))
        (on_time_parts bytes total false under refl told_is refl refl parts are waits)

    -- It ends: the last of the calls may have failed.
    pub ends_parts : (unheard unsaid ended : Bool) (sent : List ℕ) → (unheard ≡ true → sent ≡ total) → AllByRecursion (IsPartOf bytes total unheard) parts
        → EndsOnTime m at steps (after_hearing parts bytes sent ended unheard unsaid under)
    ends_parts unheard unsaid ended sent all are =
        let after = after_hearing parts bytes sent ended unheard unsaid under in
        let before_end = on_time-heard m at (texts_of steps ++ unread) steps bytes hearings on_time in
        record {
          owes = each-append _ hearings (map (place_call under) parts)
              (on_time-owes m at ((texts_of steps ++ unread) ++ bytes) steps hearings before_end)
              (subst (λ h. AllByRecursion (OwesNothing m at h steps) (map (place_call under) parts)) (sym (append_assoc (texts_of steps) unread bytes))
              (owe_parts bytes total unheard under refl told_is refl parts are waits));
          last = each-append _ hearings (map (place_call under) parts)
              (on_time-last m at ((texts_of steps ++ unread) ++ bytes) steps after hearings before_end)
              (last_parts bytes total unheard under refl told_is refl after sent all refl refl parts are);
        }
