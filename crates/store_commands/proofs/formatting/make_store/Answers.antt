use Rattle.std.proofs.Common.{refl, arith}
use Rattle.store_commands.proofs.FormattingLemmas.{formatting_each, new_stands}
use Rattle.store_commands.proofs.formatting.make_store.Goals as goal

-- The store was made, and stands for the empty library.
pub returns-in-Ok-clause-ends : goal.returns-in-Ok-clause-ends
returns-in-Ok-clause-ends g c =
    let answer = rw c.empty_rows.ensures at c.in-Ok.ensures.answer in record {
      blocks_is = refl;
      half_is = refl;
      media_is = c.saturating_sub.ensures;
      none = λ shows. (answer shows).0;
      fits = λ shows. (answer shows).1;
      stands = λ shows. new_stands _ _ (answer shows).2;
    }

pub returns-in-Ok-clause-moments : goal.returns-in-Ok-clause-moments
returns-in-Ok-clause-moments g c = record {
  each = λ honest shows settled bare p left.
      let moments = rw c.empty_rows.ensures at c.in-Ok.ensures.moments (record { honest = honest; shows = shows; settled = settled }) bare in
      formatting_each (g.X.Disk.device c.args.site.now) (g.X.Disk.device c.format_device.new.disk) _ _ moments settled bare p left;
  settled = λ honest done. c.in-Ok.ensures.durable honest;
}

-- A call of the disk failed.
pub returns-in-Err-Disk-clause-moments : goal.returns-in-Err-Disk-clause-moments
returns-in-Err-Disk-clause-moments g c = record {
  each = λ honest shows settled bare p left.
      let moments = rw c.empty_rows.ensures at c.in-Err-Disk.ensures.moments (record { honest = honest; shows = shows; settled = settled }) bare in
      formatting_each (g.X.Disk.device c.args.site.now) (g.X.Disk.device c.format_device.new.disk) _ _ moments settled bare p left;
  settled = λ honest done. absurd (omega (arith, done));
}

-- The numbers or the rows don't fit.
pub returns-in-Err-TooSmall-clause-moments : goal.returns-in-Err-TooSmall-clause-moments
returns-in-Err-TooSmall-clause-moments g c = record {
  each = λ honest shows settled bare p left.
      let moments = rw c.empty_rows.ensures at c.in-Err-TooSmall.ensures.moments (record { honest = honest; shows = shows; settled = settled }) bare in
      formatting_each (g.X.Disk.device c.args.site.now) (g.X.Disk.device c.format_device.new.disk) _ _ moments settled bare p left;
  settled = λ honest done. absurd (omega (arith, done));
}

-- There was no memory.
pub returns-in-Err-Memory-clause-moments : goal.returns-in-Err-Memory-clause-moments
returns-in-Err-Memory-clause-moments g c = record {
  each = λ honest shows settled bare p left.
      let moments = rw c.empty_rows.ensures at c.in-Err-Memory.ensures.moments (record { honest = honest; shows = shows; settled = settled }) bare in
      formatting_each (g.X.Disk.device c.args.site.now) (g.X.Disk.device c.format_device.new.disk) _ _ moments settled bare p left;
  settled = λ honest done. absurd (omega (arith, done));
}
