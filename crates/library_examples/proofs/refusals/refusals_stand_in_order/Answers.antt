use Rattle.std.proofs.Common.{refl}
use Rattle.media_rows.specs.Lists.{numbers_below}
use Rattle.library_examples.proofs.refusals.refusals_stand_in_order.Goals as goal

pub returns : goal.returns
unfolding numbers_below
returns c = record {
  no_flow = refl;
  read_only_put = refl;
  mark_is_set = refl;
  label_is_not = refl;
  deleting_first = refl;
  deleting_mark = refl;
  flow_changed = refl;
  no_source = refl;
  source_stays = refl;
}
