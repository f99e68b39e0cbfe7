use Rattle.std.proofs.Common.{refl}
use Rattle.disk_trait.specs.Numbers.{u128_bytes}
use Rattle.disk_trait.proofs.numbers.u128_bytes.Goals as goal

pub returns : goal.returns
unfolding u128_bytes
returns c = rw (c.copy_from_slice.ensures.after, c.copy_from_slice-2.ensures.after, c.u64_bytes.ensures, c.u64_bytes-2.ensures) refl
