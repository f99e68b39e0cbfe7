use Rattle.std.proofs.Common.{take, ◌∙◌, arith, rules}
use Rattle.disk_trait.proofs.OverwriteLemmas.{bytes_at-bytes_at}
use Rattle.media_journal.specs.File.{HasOpenHeader}
use Rattle.media_journal.proofs.HeaderLemmas.{header_text-parts}
use Rattle.media_journal.proofs.header.header_of.Goals as goal

-- The parts that were cut are those of a header's text.
pub returns : goal.returns
returns c =
    let bytes = c.args.bytes.now in
    let has : HasOpenHeader bytes = search rules in
    let begins = bytes_at-bytes_at bytes 0 40 0 8 (omega arith) ∙ has.begins in
    record {
      gate = has.gate;
      text = header_text-parts (take 40 bytes) _ begins (cc) (cc) (cc);
      blocks = c.read_u64.type_inv;
      half = c.read_u64-2.type_inv;
      id = c.read_u128.type_inv;
    }
