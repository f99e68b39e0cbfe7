use Rattle.std.proofs.Common.{◌<◌, ℕ, List, length, sym, subst}
use Rattle.store_plans.proofs.Spelled.{some_payload}
use Rattle.store_plans.proofs.room.record_of.Goals as goal

-- a spelling has a byte
pub behind_rows-requires : goal.behind_rows-requires
behind_rows-requires c = record { some = some_payload c.in_ok-payload.payload _ c.in_ok-payload.ensures }

pub new-requires-clause-some : goal.new-requires-clause-some
new-requires-clause-some c =
    subst (λ (bytes : List ℕ). 0 < length bytes) (sym c.bytes-2.ensures) (some_payload c.in_ok-payload.payload _ c.in_ok-payload.ensures)
