use Rattle.std.proofs.Common.{refl}
use Rattle.media_rows.specs.Lists.{numbers_below}
use Rattle.library_examples.proofs.good.bad_requests.Goals as goal

pub returns : goal.returns
unfolding numbers_below
returns c = record {
  fine = refl;
  unkept = refl;
  done_unkept = refl;
  not_whole = refl;
  whole = refl;
  before_a_segment = refl;
  sixty_four = refl;
  sixty_five = refl;
}
