use Rattle.std.proofs.Common.{◌≡◌, ◌≤◌, ℕ, false, List, [], ◌∷◌, ◌++◌, length, refl, sym, ap, inl, arith}
use Rattle.std.proofs.lemmas.Bool.{false≢true}
use Rattle.std.proofs.lemmas.List.{length-append}
use Rattle.run_history.specs.Steps.{Piece, piece_bytes}
use Rattle.run_history.specs.Sessions.{Whole, bytes_of_pieces}
use Rattle.run_history.proofs.Ends.{heard-marks, said-marks}
use Rattle.run_history.proofs.WorkedHearings.{first_stays, not_batch, not_dropped, not_late, owes_first, owes_head}
use Rattle.run_history.proofs.laws.serving.Goals as goal

front_size : List Piece → ℕ
front_size [] = 0
front_size (p ∷ pieces) = length (piece_bytes p)

-- of three pieces, the first of which has a byte, two weren't told where nothing was
none_told : (a b c : Piece) (front : List Piece) (last : Piece) (part : List ℕ) → 1 ≤ length (piece_bytes a)
    → a ∷ b ∷ c ∷ [] ≡ front ++ last ∷ [] → [] ≡ bytes_of_pieces front ++ part → ⊥
unfolding front_size
none_told a b c [] last part some is none = absurd (omega (arith, ap length is))
none_told a b c (p ∷ front) last part some is none =
    omega (
      arith,
      some,
      ap front_size is,
      ap length none,
      length-append (piece_bytes p ++ bytes_of_pieces front) part,
      length-append (piece_bytes p)
          (bytes_of_pieces front),
    )

pub returns : goal.returns
returns c =
    let few : 2 ≤ 1000000 = omega arith in
    record {
      starved = record {
        rest = 7 ∷ [];
        steps = ((refl, tt), λ e. absurd (false≢true e), (inl refl, λ e. refl, tt));
        few = few;
        heard = refl;
        told = refl;
        ends = tt;
        unheard = heard-marks Whole false refl;
        unsaid = said-marks Whole false refl;
        owes = (owes_first _ _, (owes_head _ _, tt));
        last = (first_stays _, (first_stays _, tt));
      };
      late = λ served.
          let o = served.owes.1.0 in
          not_late o.front o.rear o.part o.cutting.interim _ (sym o.steps_are) o.heard_is o.told_is o.cuts;
      batch = λ served.
          let o = served.owes.1.0 in
          not_batch o.front o.rear o.part o.cutting.interim o.prefix.0 _ (sym o.steps_are) o.heard_is o.told_is o.prefix.1 o.unfinished;
      unanswered = λ served. absurd (omega (arith, ap length served.heard, ap length (served.ends.none_left (λ e. cc))));
      dropped = λ link served.
          let o = served.owes.1.0 in
          not_dropped o.front o.rear o.part o.prefix.0 (sym o.steps_are) o.heard_is o.prefix.1 o.unfinished;
      silent = λ served.
          let part = served.told in
          none_told _ _ _ part.front part.last part.part (omega arith) part.pieces_are part.told_is;
    }
