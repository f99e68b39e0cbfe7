use Rattle.std.proofs.Common.{refl}
use Rattle.media_rows.specs.Lists.{numbers_below}
use Rattle.library_examples.proofs.views.unknown_is_refused.Goals as goal

pub returns : goal.returns
unfolding numbers_below
returns c = record {
  no_flow = refl;
  no_flow_part = refl;
  no_segments = refl;
  no_source = refl;
  no_source_part = refl;
  no_object = refl;
  no_request = refl;
}
