use Rattle.std.proofs.Common.{refl}
use Rattle.disk_trait.specs.Numbers.{u32_bytes, u64_bytes}
use Rattle.field_codec.specs.Leaves.{u32_spelling, u64_spelling}
use Rattle.change_codec.specs.Rows.{row_spelling}
use Rattle.store_commands.specs.Formatting.{empty_rows}
use Rattle.store_commands.proofs.formatting.empty_rows.Goals as goal

-- The fields' bytes are those of the numbers.
pub returns : goal.returns
unfolding empty_rows row_spelling u32_spelling u64_spelling u32_bytes u64_bytes
returns c = refl
