-- Calls of `hear` that began when nothing was owed, while their connection goes on and when it has ended.
use Rattle.std.proofs.Common.{ℕ, List, [], ◌∷◌, ◌++◌, ap, ◌∙◌}
use Rattle.std.specs.List.{AllByRecursion}
use Rattle.std.proofs.lemmas.List.{append_assoc}
use Rattle.disk_trait.specs.Device.{Connection, HearCall}
use Rattle.run_history.specs.Machine.{Machine}
use Rattle.run_history.specs.Steps.{Stage, Step}
use Rattle.run_history.specs.Sessions.{IsLastHearing, OwesNothing, texts_of}
use Rattle.run_history.specs.Serving.{AreOnTime}

-- ---- what is true of each member of a list

pub each-weaker : {A : Type 0} (P Q : A → Type 0) → ((x : A) → P x → Q x) → (xs : List A) → AllByRecursion P xs → AllByRecursion Q xs
each-weaker P Q f [] all = tt
each-weaker P Q f (x ∷ xs) all = (f x all.0, each-weaker P Q f xs all.1)

pub each-append : {A : Type 0} (P : A → Type 0) (xs ys : List A) → AllByRecursion P xs → AllByRecursion P ys → AllByRecursion P (xs ++ ys)
each-append P [] ys all also = also
each-append P (x ∷ xs) ys all also = (all.0, each-append P xs ys all.1 also)

-- ---- while a connection goes on

module _ {State Request : Type 0} (m : Machine State Request) (at : Stage State) (heard : List ℕ) (steps : List (Step Request)) where
  owes-heard : (more : List ℕ) (call : HearCall) → OwesNothing m at heard steps call → OwesNothing m at (heard ++ more) steps call
  owes-heard more call o = record {
    front = o.front;
    rear = o.rear;
    part = o.part;
    cutting = o.cutting;
    steps_are = o.steps_are;
    stay = o.stay;
    prefix = (o.prefix.0 ++ more, ap (λ h. h ++ more) o.prefix.1 ∙ append_assoc (texts_of o.front ++ o.part) o.prefix.0 more);
    unfinished = o.unfinished;
    cuts = o.cuts;
    heard_is = o.heard_is;
    told_is = o.told_is;
    said = o.said;
  }

  owes-steps : (later : List (Step Request)) (call : HearCall) → OwesNothing m at heard steps call → OwesNothing m at heard (steps ++ later) call
  owes-steps later call o = record {
    front = o.front;
    rear = o.rear ++ later;
    part = o.part;
    cutting = o.cutting;
    steps_are = ap (λ s. s ++ later) o.steps_are ∙ append_assoc o.front o.rear later;
    stay = o.stay;
    prefix = o.prefix;
    unfinished = o.unfinished;
    cuts = o.cuts;
    heard_is = o.heard_is;
    told_is = o.told_is;
    said = o.said;
  }

  -- the calls so far, once more was heard
  pub on_time-heard : (more : List ℕ) (calls : List HearCall) → AreOnTime m at heard steps calls → AreOnTime m at (heard ++ more) steps calls
  on_time-heard more calls all = each-weaker _ _ (λ call o. (owes-heard more call o.0, o.1)) calls all

  -- and once more steps were made
  pub on_time-steps : (later : List (Step Request)) (calls : List HearCall) → AreOnTime m at heard steps calls → AreOnTime m at heard (steps ++ later) calls
  on_time-steps later calls all = each-weaker _ _ (λ call o. (owes-steps later call o.0, o.1)) calls all

  pub owe-steps : (later : List (Step Request)) (calls : List HearCall) → AllByRecursion (OwesNothing m at heard steps) calls
      → AllByRecursion (OwesNothing m at heard (steps ++ later)) calls
  owe-steps later calls all = each-weaker _ _ (λ call o. owes-steps later call o) calls all

  -- ---- once it has ended

  pub on_time-owes : (calls : List HearCall) → AreOnTime m at heard steps calls → AllByRecursion (OwesNothing m at heard steps) calls
  on_time-owes calls all = each-weaker _ _ (λ call o. o.0) calls all

  -- none of them failed, so none is the last for that
  pub on_time-last : (c : Connection) (calls : List HearCall) → AreOnTime m at heard steps calls → AllByRecursion (IsLastHearing c) calls
  on_time-last c calls all =
      each-weaker _ _ (λ call o. record { heard = λ failed. absurd (o.1 failed); told = λ failed. absurd (o.1 failed) }) calls all

-- A connection of which each hearing began when nothing was owed, and behind a failed one of which nothing came.
pub record EndsOnTime {State Request : Type 0} (m : Machine State Request) (at : Stage State) (steps : List (Step Request))
    (c : Connection) : Type 0 where
  pub owes : AllByRecursion (OwesNothing m at c.heard steps) c.hearings
  pub last : AllByRecursion (IsLastHearing c) c.hearings

-- with steps more
pub ends-steps : {State Request : Type 0} (m : Machine State Request) (at : Stage State) (steps later : List (Step Request)) (c : Connection)
    → EndsOnTime m at steps c → EndsOnTime m at (steps ++ later) c
ends-steps m at steps later c e = record { owes = owe-steps m at c.heard steps later c.hearings e.owes; last = e.last }

-- the hearings of a connection under way are those of one that ends
pub ends-on_time : {State Request : Type 0} (m : Machine State Request) (at : Stage State) (steps : List (Step Request)) (c : Connection)
    → AreOnTime m at c.heard steps c.hearings → EndsOnTime m at steps c
ends-on_time m at steps c all =
    record { owes = on_time-owes m at c.heard steps c.hearings all; last = on_time-last m at c.heard steps c c.hearings all }
