use Rattle.std.proofs.Common.{refl}
use Rattle.media_rows.specs.Lists.{numbers_below}
use Rattle.library_examples.proofs.refusals.posts_are_tested.Goals as goal

pub returns : goal.returns
unfolding numbers_below
returns c = record {
  within = refl;
  object_first = refl;
  allocated = refl;
  first_segment = refl;
  second_segment = refl;
  begins_first = refl;
  touching = refl;
  other_flow = refl;
  own_flow = refl;
}
