use Rattle.std.proofs.Common.{arith}
use Rattle.std.proofs.lemmas.Nat.{be_bytes_8}
use Rattle.disk_trait.specs.Numbers.{u64_bytes}
use Rattle.disk_trait.proofs.numbers.read_u64.Goals as goal

pub returns : goal.returns
unfolding u64_bytes
returns c = be_bytes_8 _ _ c.requires (λ i. omega (arith, c.type_inv.bytes i)) (rw c.copy_from_slice.ensures.after at c.from_be_bytes.ensures)
