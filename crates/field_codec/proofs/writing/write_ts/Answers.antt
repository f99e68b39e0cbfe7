use Rattle.field_codec.proofs.WritingLaws.{ts_wrote}
use Rattle.field_codec.proofs.writing.write_ts.Goals as goal

pub returns-clause-ok : goal.returns-clause-ok
returns-clause-ok c = ts_wrote c.args.out.now c.write_u128.new.out c.args.ts c.nanos-nanos.ensures.within (rw c.bits_of.ensures at c.in_ok-write_u128.ensures.ok)
