use Rattle.std.proofs.Common.{arith}
use Rattle.std.proofs.lemmas.Nat.{be_bytes_4}
use Rattle.disk_trait.specs.Numbers.{u32_bytes}
use Rattle.disk_trait.proofs.numbers.read_u32.Goals as goal

pub returns : goal.returns
unfolding u32_bytes
returns c = be_bytes_4 _ _ c.requires (λ i. omega (arith, c.type_inv.bytes i)) (rw c.copy_from_slice.ensures.after at c.from_be_bytes.ensures)
