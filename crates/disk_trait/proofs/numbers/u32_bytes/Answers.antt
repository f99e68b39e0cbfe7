use Rattle.disk_trait.specs.Numbers.{u32_bytes}
use Rattle.disk_trait.proofs.numbers.u32_bytes.Goals as goal

pub returns : goal.returns
unfolding u32_bytes
returns c = c.to_be_bytes.ensures
