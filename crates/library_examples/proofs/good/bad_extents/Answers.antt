use Rattle.std.proofs.Common.{refl}
use Rattle.media_rows.specs.Lists.{numbers_below}
use Rattle.library_examples.proofs.good.bad_extents.Goals as goal

pub returns : goal.returns
unfolding numbers_below
returns c = record {
  fine = refl;
  one_block_shared = refl;
  one_block_apart = refl;
  last_block = refl;
  past_the_end = refl;
  no_bytes = refl;
  no_bytes_at_0 = refl;
  no_good_library = refl;
}
