use Rattle.std.proofs.Common.{◌≤◌, ◌+◌, ◌*◌, length, refl, ap, ◌∙◌, arith}
use Rattle.std.proofs.lemmas.Bool.{le-leb}
use Rattle.change_codec.specs.Fitting.{snapshot_size}
use Rattle.store_states.proofs.Snapshots.{size_of, text_of}
use Rattle.store_plans.proofs.room.behind_rows.Goals as goal

-- the rows are the text of the library, and there is room behind them
pub returns-clause-found : goal.returns-clause-found
returns-clause-found c =
    let library = c.args.core.now.library in
    let text = c.in_ok-rows.rows in
    let size = size_of library text c.in_ok-rows.ensures in
    let room : snapshot_size library + length c.args.payload.now + 14 ≤ 4096 * c.args.journal.now.half =
    omega (arith, size, ap length c.bytes.ensures, ap length c.bytes-2.ensures, c.if-taken-half.false, c.if-size-half.false, c.half-half.ensures.half) in
    record {
      place = le-leb (snapshot_size library + length c.args.payload.now + 14) (4096 * c.args.journal.now.half) room;
      frame = c.in_ok-new.ensures ∙ c.bytes-3.ensures;
      text = text;
      rows = refl;
      snapshot = text_of c.rows_give_the_library.ensures c.good_is_tested.ensures library c.keeps_good.ensures text c.in_ok-rows.ensures;
      size = size;
    }
