use Rattle.std.proofs.Common.{refl}
use Rattle.media_rows.specs.Lists.{numbers_below}
use Rattle.media_rows.specs.Ids.{id_text}
use Rattle.uuid.specs.Text.{by_index}
use Rattle.std.specs.Fmt.{digits}
use Rattle.library_examples.proofs.refusals.deleting_stands.Goals as goal

pub returns : goal.returns
unfolding numbers_below id_text by_index digits
returns c = record {
  put = refl;
  part = refl;
  drop = refl;
  allocation = refl;
  post = refl;
  cut = refl;
  before_read_only = refl;
  other_flow = refl;
  range_put = refl;
  range_part = refl;
  range_drop = refl;
  range_allocation = refl;
  range_post = refl;
  range_cut = refl;
  done = refl;
}
