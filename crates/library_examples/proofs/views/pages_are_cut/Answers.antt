use Rattle.std.proofs.Common.{refl}
use Rattle.media_rows.specs.Lists.{numbers_below}
use Rattle.library_examples.proofs.views.pages_are_cut.Goals as goal

pub returns : goal.returns
unfolding numbers_below
returns c = record {
  by_first_point = refl;
  first = refl;
  first_key = refl;
  next = refl;
  next_key = refl;
  last_key = refl;
  backwards = refl;
  backwards_key = refl;
  backwards_next = refl;
  backwards_last = refl;
  backwards_end = refl;
  part = refl;
  never = refl;
}
