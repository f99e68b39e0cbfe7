-- How a session serves each of the worked connections.
use Rattle.std.proofs.Common.{◌≡◌, ◌≤◌, ℕ, true, false, List, [], ◌∷◌, ◌++◌, length, get_or, Some, None, refl, ap, inl, arith}
use Rattle.std.proofs.lemmas.List.{length-append}
use Rattle.disk_trait.specs.Device.{AtEnd, Connection, Gave, HearEnd}
use Rattle.run_history.proofs.Ends.{heard-marks, said-marks}
use Rattle.run_history.specs.Steps.{Interim, Reply, Stage, Step}
use Rattle.run_history.specs.Sessions.{Hearing, IsLastHearing, IsUnfinished, OwesNothing, Saying, Whole}
use Rattle.run_history.specs.Traces.{start_of}
use Rattle.run_history.specs.Worked.{Demand, adder, hears}
use Rattle.history_examples.proofs.Owing.{two_bytes}
use Rattle.history_examples.specs.Served.{EachIsServed, cut_short, shown}

-- nothing whole stands in front of no byte
unfinished_none : (n : ℕ) → IsUnfinished adder n []
unfinished_none n = record {
  request = λ front rest d is spelled. absurd (omega (arith, ap length is, length-append front rest, ap length spelled, two_bytes d));
  refusal = λ front rest r is refused. absurd (omega (arith, ap length is, length-append front rest, ap length refused.0));
}

-- nor of the head of an addition
unfinished_head : (n : ℕ) → IsUnfinished adder n (101 ∷ [])
unfinished_head n = record {
  request = λ front rest d is spelled. absurd (omega (arith, ap length is, length-append front rest, ap length spelled, two_bytes d));
  refusal = λ front rest r is refused. not_nine front rest is refused.0;
}
  where
    not_nine : (front rest : List ℕ) → 101 ∷ [] ≡ front ++ rest → front ≡ 9 ∷ [] → ⊥
    not_nine [] rest is nine = absurd (omega (arith, ap length nine))
    not_nine (x ∷ front) rest is nine = absurd (omega (arith, ap (λ l. get_or l 0 0) is, ap (λ l. get_or l 0 0) nine))

-- the first hearing owes nothing
owes_first : (at : Stage ℕ) (heard : List ℕ) (steps : List (Step Demand)) (end : HearEnd) → OwesNothing adder at heard steps (hears 0 0 end)
owes_first at heard steps end = record {
  front = [];
  rear = steps;
  part = [];
  cutting = record { interim = None; takes_moment = false };
  steps_are = refl;
  stay = tt;
  prefix = (heard, refl);
  unfinished = unfinished_none 0;
  cuts = refl;
  heard_is = refl;
  told_is = refl;
  said = refl;
}

-- nor does one behind an answer, nor one behind an interim
owes_shown : (end : HearEnd) → OwesNothing adder (start_of 3) (100 ∷ 0 ∷ []) (shown ∷ []) (hears 2 2 end)
owes_shown end = record {
  front = shown ∷ [];
  rear = [];
  part = [];
  cutting = record { interim = None; takes_moment = false };
  steps_are = refl;
  stay = (refl, tt);
  prefix = ([], refl);
  unfinished = unfinished_none 1;
  cuts = refl;
  heard_is = refl;
  told_is = refl;
  said = refl;
}

owes_cut : (end : HearEnd) → OwesNothing adder (start_of 3) (101 ∷ []) (cut_short ∷ []) (hears 1 1 end)
owes_cut end = record {
  front = [];
  rear = cut_short ∷ [];
  part = 101 ∷ [];
  cutting = record { interim = Some (1 ∷ []); takes_moment = false };
  steps_are = refl;
  stay = tt;
  prefix = ([], refl);
  unfinished = unfinished_head 0;
  cuts = (refl, refl);
  heard_is = refl;
  told_is = refl;
  said = refl;
}

-- a hearing that gave bytes, or the end, isn't the last for a failure
gave : (c : Connection) (heard told count : ℕ) → IsLastHearing c (hears heard told (Gave count))
gave c heard told count = record { heard = λ failed. cc; told = λ failed. cc }

at_end : (c : Connection) (heard told : ℕ) → IsLastHearing c (hears heard told AtEnd)
at_end c heard told = record { heard = λ failed. cc; told = λ failed. cc }

few : 1 ≤ 1000000
few = omega arith

pub each_is_served : EachIsServed
each_is_served = record {
  answered = record {
    rest = [];
    steps = ((refl, tt), λ e. refl, tt);
    few = few;
    heard = refl;
    told = refl;
    ends = λ e. record { none_left = λ e. refl; to_the_end = λ e. refl };
    unheard = heard-marks Whole false refl;
    unsaid = said-marks Whole false refl;
    owes = (owes_first _ _ _ _, (owes_shown _, tt));
    last = (gave _ 0 0 2, (at_end _ 2 2, tt));
  };
  answered_unheard = record {
    rest = [];
    steps = ((refl, tt), λ e. refl, tt);
    few = few;
    heard = refl;
    told = refl;
    ends = λ e. record { none_left = λ e. refl; to_the_end = λ e. absurd cc };
    unheard = heard-marks Hearing true refl;
    unsaid = said-marks Hearing false refl;
    owes = (owes_first _ _ _ _, (owes_shown _, tt));
    last = (gave _ 0 0 2, (record { heard = λ e. refl; told = λ e. refl }, tt));
  };
  answered_unsaid = record {
    rest = [];
    steps = ((refl, tt), λ e. refl, tt);
    few = few;
    heard = refl;
    told = record {
      front = [];
      last = Reply (100 ∷ 3 ∷ []) 0;
      part = 100 ∷ [];
      pieces_are = refl;
      told_is = refl;
      prefix = (3 ∷ [], refl);
      some = omega arith;
    };
    ends = λ e. record { none_left = λ e. refl; to_the_end = λ e. absurd cc };
    unheard = heard-marks Saying false refl;
    unsaid = said-marks Saying true refl;
    owes = (owes_first _ _ _ _, tt);
    last = (gave _ 0 0 2, tt);
  };
  cut = record {
    rest = [];
    steps = ((λ e. absurd cc, (refl, refl)), λ e. refl, tt);
    few = omega arith;
    heard = refl;
    told = refl;
    ends = (record { none_left = λ e. refl; to_the_end = λ e. refl }, λ e. unfinished_head 0, λ e. absurd cc);
    unheard = heard-marks Whole false refl;
    unsaid = said-marks Whole false refl;
    owes = (owes_first _ _ _ _, (owes_cut _, tt));
    last = (gave _ 0 0 1, (at_end _ 1 1, tt));
  };
  cut_unheard = record {
    rest = [];
    steps = ((λ e. absurd cc, (refl, refl)), λ e. refl, tt);
    few = omega arith;
    heard = refl;
    told = refl;
    ends = (record { none_left = λ e. refl; to_the_end = λ e. absurd cc }, λ e. unfinished_head 0, λ e. absurd cc);
    unheard = heard-marks Hearing true refl;
    unsaid = said-marks Hearing false refl;
    owes = (owes_first _ _ _ _, (owes_cut _, tt));
    last = (gave _ 0 0 1, (record { heard = λ e. refl; told = λ e. refl }, tt));
  };
  cut_unsaid = record {
    rest = [];
    steps = ((λ e. absurd cc, (refl, refl)), λ e. refl, tt);
    few = omega arith;
    heard = refl;
    told = record {
      front = [];
      last = Interim (1 ∷ []);
      part = [];
      pieces_are = refl;
      told_is = refl;
      prefix = (1 ∷ [], refl);
      some = omega arith;
    };
    ends = (record { none_left = λ e. refl; to_the_end = λ e. absurd cc }, λ e. unfinished_head 0, λ e some. absurd cc);
    unheard = heard-marks Saying false refl;
    unsaid = said-marks Saying true refl;
    owes = (owes_first _ _ _ _, tt);
    last = (gave _ 0 0 1, tt);
  };
  refused = record {
    rest = [];
    steps = ((refl, refl), λ e. refl, tt);
    few = few;
    heard = refl;
    told = refl;
    ends = tt;
    unheard = heard-marks Whole false refl;
    unsaid = said-marks Whole false refl;
    owes = (owes_first _ _ _ _, tt);
    last = (gave _ 0 0 1, tt);
  };
  starved = record {
    rest = [];
    steps = (inl refl, λ e. refl, tt);
    few = few;
    heard = refl;
    told = refl;
    ends = tt;
    unheard = heard-marks Whole false refl;
    unsaid = said-marks Whole false refl;
    owes = (owes_first _ _ _ _, tt);
    last = (gave _ 0 0 2, tt);
  };
  stopped = record {
    rest = [];
    steps = ((tt, inl refl), λ e. refl, tt);
    few = few;
    heard = refl;
    told = refl;
    ends = tt;
    unheard = heard-marks Whole false refl;
    unsaid = said-marks Whole false refl;
    owes = (owes_first _ _ _ _, tt);
    last = (gave _ 0 0 2, tt);
  };
}
