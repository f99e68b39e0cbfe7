use Rattle.std.proofs.Common.{refl}
use Rattle.media_rows.specs.Lists.{numbers_below}
use Rattle.library_examples.proofs.stamps.rows_are_made.Goals as goal

pub returns : goal.returns
unfolding numbers_below
returns c = record {
  objects = refl;
  behind_objects = refl;
  bytes = refl;
  segments = refl;
  request = refl;
  behind_request = refl;
  hook = refl;
  hook_hears = refl;
  behind_hook = refl;
  hook_gone = refl;
  flow = refl;
  source = refl;
}
