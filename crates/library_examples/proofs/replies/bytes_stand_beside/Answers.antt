use Rattle.std.proofs.Common.{refl}
use Rattle.media_rows.specs.Lists.{numbers_below}
use Rattle.library_examples.proofs.replies.bytes_stand_beside.Goals as goal

pub returns : goal.returns
unfolding numbers_below
returns c = record {
  fits = refl;
  too_short = refl;
  too_many = refl;
  unstored = refl;
  command = refl;
  put = refl;
  get = refl;
  no_get = refl;
  bytes_come = refl;
  bytes_stay = refl;
  objects_come = refl;
  objects_go = refl;
  came_whole = refl;
}
