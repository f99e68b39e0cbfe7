use Rattle.change_codec.proofs.PartLemmas.{source_asks, source_wrote}
use Rattle.change_codec.proofs.parts.write_source_part.Goals as goal

pub write_to-requires : goal.write_to-requires
write_to-requires c = source_asks c.args.part.now c.requires

pub returns : goal.returns
returns c = source_wrote c.args.out.now c.write_to.new.out c.args.part.now c.requires c.in_ok-write_to.ensures
