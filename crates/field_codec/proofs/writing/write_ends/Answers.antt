use Rattle.std.proofs.Common.{length, ap}
use Rattle.field_codec.proofs.WritingLaws.{end_back}
use Rattle.field_codec.proofs.writing.write_ends.Goals as goal

-- the first end goes where there is no memory for the second
pub returns-in-Err-clause-err : goal.returns-in-Err-clause-err
returns-in-Err-clause-err c =
    end_back c.args.out.now c.write_end.new.out c.write_end-2.new.out c.cut_back.new.out c.args.low _ (ap length c.bytes-before.ensures)
    c.in_ok-write_end.ensures.ok c.in-Err.ensures.err c.cut_back.ensures
