use Rattle.std.proofs.Common.{◌≡◌, Option, Some, None, ap, refl}
use Rattle.std.specs.Prelude.{option_map}
use Rattle.std.proofs.lemmas.Bool.{false≢true}
use Rattle.media_rows.specs.Ids.{id_of}
use Rattle.media_rows.proofs.ids.read_id.Goals as goal

pub returns-in-Ok : goal.returns-in-Ok
unfolding id_of
returns-in-Ok c = rw (← c.in-Ok.ensures.bytes) (ap Some c.as_u128.ensures)

-- what has no value has none under a function
option_map-none : {A B : Type 0} (f : A → B) (o : Option A) → ((u : A) → o ≡ Some u → ⊥) → None ≡ option_map f o
option_map-none f None h = refl
option_map-none f (Some u) h = absurd (h u refl)

pub returns-in-Err : goal.returns-in-Err
unfolding id_of
returns-in-Err c = option_map-none _ _ (λ u e. false≢true (c.in-Err.ensures.ok.1 (u, e)))
