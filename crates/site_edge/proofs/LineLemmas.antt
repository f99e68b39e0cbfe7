-- What a connection in memory has heard after one more piece.
use Rattle.std.proofs.Common.{◌≡◌, ◌≢◌, ◌+◌, ◌≤◌, ◌++◌, ◌∷◌, [], ℕ, zero, suc, Bool, List, Option, Some, None, length, map, take, drop, if◌then◌else◌, refl, ap, ◌∙◌, arith}
use Rattle.std.specs.Prelude.{is_some}
use Rattle.std.proofs.Math.Seq.{take-add}
use Rattle.std.proofs.lemmas.List.{map-append, take_at, length-take-le, length-drop}
use Rattle.disk_trait.specs.Device.{Connection, Gave, HearEnd}
use Rattle.site_edge.specs.Links.{hearings_with}
use Rattle.site_edge.specs.Lines.{given_end, heard_more, noted_as, noted_calls}
use Rattle.site_edge.specs.declared.heard_piece.HeardPiece.{HeardPiece}

-- a piece that isn't empty is added to what was heard
pub heard_piece : (count : ℕ) (out : List ℕ) (c : Connection) → count ≢ 0
    → heard_more count out c ≡ record c { heard = c.heard ++ take count out; hearings = hearings_with (given_end count) c }
heard_piece zero out c some = absurd (some refl)
heard_piece (suc n) out c some = refl

-- so many bytes from a place on, put into the front of a buffer
pub hears_on : (n m : ℕ) (sends tail : List ℕ) → n + m ≤ length sends → take n sends ++ take m (take m (drop n sends) ++ tail) ≡ take (n + m) sends
hears_on n m sends tail within =
    rw (take_at (take m (drop n sends)) tail m (length-take-le m (drop n sends) (omega (arith, length-drop n sends))), take-add n m sends) refl

-- a hearing more, which is listed unless one failed before it
noted_more : (pieces now : List HeardPiece) (unheard : Option HeardPiece) (p : HeardPiece) → now ≡ (if is_some unheard then pieces else pieces ++ p ∷ [])
    → noted_calls now unheard ≡ (if is_some unheard then noted_calls pieces unheard else noted_calls pieces unheard ++ noted_as (given_end p.count) p ∷ [])
noted_more pieces now None p is = ap (λ ps. noted_calls ps None) is ∙ map-append (λ (q : HeardPiece). noted_as (given_end q.count) q) pieces (p ∷ [])
noted_more pieces now (Some q) p is = ap (λ ps. noted_calls ps (Some q)) is

-- the hearings of a connection in memory after one more
pub hearings_more : (sends told : List ℕ) (heard count : ℕ) (ended unsaid : Bool) (pieces now : List HeardPiece) (unheard : Option HeardPiece)
    → heard ≤ length sends
    → now ≡ (if is_some unheard then pieces
    else pieces ++ record { heard = heard; told = length told; unsaid = unsaid; count = count } ∷ [])
    → noted_calls now unheard ≡ hearings_with (given_end count) (record {
      heard = take heard sends;
      told = told;
      ended = ended;
      unheard = is_some unheard;
      unsaid = unsaid;
      hearings = noted_calls pieces unheard;
    })
hearings_more sends told heard count ended unsaid pieces now unheard within is =
    noted_more pieces now unheard (record { heard = heard; told = length told; unsaid = unsaid; count = count }) is
    ∙ rw (length-take-le heard sends within) refl
