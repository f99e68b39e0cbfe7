use Rattle.core_registry.proofs.Happening.{ending_told, going_told}
use Rattle.core_registry.proofs.laws.going_is_told.Goals as goal

pub returns : goal.returns
returns c = record { segments = going_told; flows = ending_told }
