use Rattle.core_registry.proofs.Happening.{forgets}
use Rattle.core_registry.proofs.laws.going_flows_forget.Goals as goal

pub returns : goal.returns
returns c = forgets
