use Rattle.disk_trait.specs.Numbers.{u64_bytes}
use Rattle.disk_trait.proofs.numbers.u64_bytes.Goals as goal

pub returns : goal.returns
unfolding u64_bytes
returns c = c.to_be_bytes.ensures
