use Rattle.std.proofs.Common.{◌≡◌, ◌≤◌, ◌∷◌, [], true, false, length, refl, ap, arith}
use Rattle.std.proofs.lemmas.List.{length-append}
use Rattle.run_history.specs.Machine.{BeforeAnswer, InAnswer}
use Rattle.run_history.specs.Sessions.{Whole, bytes_of_pieces}
use Rattle.run_history.proofs.Ends.{heard-marks, said-marks}
use Rattle.run_history.proofs.WorkedHearings.{first_stays, owes_first}
use Rattle.run_history.proofs.laws.failing.Goals as goal

elsewhere : InAnswer ≡ BeforeAnswer true → ⊥
elsewhere same = cc

pub returns : goal.returns
returns c =
    let few : 1 ≤ 1000000 = omega arith in
    record {
      within = record {
        rest = [];
        steps = ((tt, refl), λ e. refl, tt);
        few = few;
        heard = refl;
        told = record {
          front = [];
          last = _;
          part = 100 ∷ [];
          pieces_are = refl;
          told_is = refl;
          prefix = (2 ∷ [], refl);
          some = omega arith;
        };
        ends = tt;
        unheard = heard-marks Whole false refl;
        unsaid = said-marks Whole false refl;
        owes = (owes_first _ _, tt);
        last = (first_stays _, tt);
      };
      mute = λ link served.
          let part = served.told in
          absurd (omega (arith, part.some, ap length part.told_is, length-append (bytes_of_pieces part.front) part.part));
      not_within = λ served. elsewhere served.steps.0.0;
      writing = (refl, (refl, λ none. cc));
      unchanged = λ fails. fails.1.1 refl;
    }
