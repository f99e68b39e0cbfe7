use Rattle.std.proofs.Common.{refl}
use Rattle.media_rows.specs.Lists.{numbers_below}
use Rattle.library_examples.proofs.events.events_are_told.Goals as goal

pub returns : goal.returns
unfolding numbers_below
returns c = record {
  new_flow = refl;
  flow_of_kept_source = refl;
  replaced = refl;
  part_set = refl;
  source_set = refl;
  added = refl;
  cut = refl;
  dropped = refl;
  dropped_bare = refl;
  asked_for = refl;
  last_step = refl;
  bare_step = refl;
  allocated = refl;
  stored_one = refl;
  swept = refl;
  hook_comes = refl;
  hulls = refl;
  serials_rise = refl;
  other_flow = refl;
}
