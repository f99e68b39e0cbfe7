-- What a crash left stays right while a trace grows, and over a call.
use Rattle.std.proofs.Common.{◌≡◌, ◌≤◌, ℕ, List, [], ◌∷◌, length, map, sym, ap, subst, inl, inr, arith}
use Rattle.std.proofs.lemmas.List.{length-append, take-append-le}
use Rattle.disk_trait.specs.Device.{Device, Left}
use Rattle.site_edge.specs.Saying.{ArePrefixes}
use Rattle.site_edge.proofs.Theorems.{prefixes_longer, prefixes_more}
use Rattle.run_history.specs.Machine.{Machine}
use Rattle.run_history.specs.Steps.{Piece, last_or, piece_bytes}
use Rattle.run_history.specs.Sessions.{bytes_of_pieces}
use Rattle.run_history.specs.Traces.{IsLeft, Trace, state_after}
use Rattle.run_history.specs.Runs.{AllRight, Beginning, IsRight}
use Rattle.run_history.specs.Laws.{CallsAddUp, RightGrows}
use Rattle.run_history.specs.Growing.{then_change, with_connection, with_piece}
use Rattle.run_history.proofs.Pieces.{begun-connection, begun-piece, bytes-connection, bytes-piece}

-- the states that were there stay where they are
pub state_after-change : {State : Type 0} (t : Trace State) (s : State) (n : ℕ) → n ≤ length t.changes
    → state_after n (then_change s t) ≡ state_after n t
state_after-change t s n le = ap (last_or t.first) (take-append-le n t.changes (s ∷ []) le)

left_change : (State Request : Type 0) (m : Machine State Request) (t : Trace State) (s : State) (told : List (List ℕ)) (image : List ℕ)
    → IsLeft m t told image → IsLeft m (then_change s t) told image
left_change State Request m t s told image l = record {
  count = l.count;
  within = omega (arith, l.within, length-append t.changes (s ∷ []));
  stands = subst (m.stands image) (sym (state_after-change t s l.count l.within)) l.stands;
  acknowledged = l.acknowledged;
  prefixes = l.prefixes;
}

left_piece : (State Request : Type 0) (m : Machine State Request) (t : Trace State) (p : Piece) (told : List (List ℕ)) (image : List ℕ)
    → IsLeft m t told image → IsLeft m (with_piece p t) told image
left_piece State Request m t p told image l =
    let same = begun-piece t.scripts p told l.prefixes in
    record {
      count = l.count;
      within = l.within;
      stands = l.stands;
      acknowledged = omega (arith, same, l.acknowledged);
      prefixes = subst (ArePrefixes told) (sym (bytes-piece t.scripts p)) (prefixes_longer told (map bytes_of_pieces t.scripts) (piece_bytes p) l.prefixes);
    }

left_connection : (State Request : Type 0) (m : Machine State Request) (t : Trace State) (told : List (List ℕ)) (image : List ℕ)
    → IsLeft m t told image → IsLeft m (with_connection t) told image
left_connection State Request m t told image l =
    let same = begun-connection t.scripts told in
    record {
      count = l.count;
      within = l.within;
      stands = l.stands;
      acknowledged = omega (arith, same, l.acknowledged);
      prefixes = subst (ArePrefixes told) (sym (bytes-connection t.scripts)) (prefixes_more told (map bytes_of_pieces t.scripts) [] l.prefixes);
    }

pub right_grows : RightGrows
right_grows State Request m b t p r = record {
  change = λ s. record { told = r.told; told_is = r.told_is; left = left_change State Request m t s r.told p.image r.left };
  piece = λ piece. record { told = r.told; told_is = r.told_is; left = left_piece State Request m t piece r.told p.image r.left };
  connection = record { told = r.told; told_is = r.told_is; left = left_connection State Request m t r.told p.image r.left };
}

pub calls_add_up : CallsAddUp
calls_add_up State Request m b t within ended old new r time holds = record {
  begun = omega (arith, r.begun, time.later);
  since = λ p left. elim (time.since b.moment p r.begun left) [
    | inl was ↦ r.since p was
    | inr from ↦ holds from.0 p from.1 from.2
  ];
}

-- the same of a trace that has grown
pub all_grown : {State Request : Type 0} (m : Machine State Request) (b : Beginning State) (t u : Trace State) (d : Device)
    → ((p : Left) → IsRight m b t p → IsRight m b u p) → AllRight m b t d → AllRight m b u d
all_grown m b t u d grows r = record { begun = r.begun; since = λ p left. grows p (r.since p left) }
