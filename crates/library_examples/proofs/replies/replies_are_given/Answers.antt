use Rattle.std.proofs.Common.{refl}
use Rattle.media_rows.specs.Lists.{numbers_below}
use Rattle.media_rows.specs.Ids.{id_text}
use Rattle.uuid.specs.Text.{by_index}
use Rattle.std.specs.Fmt.{digits}
use Rattle.library_examples.proofs.replies.replies_are_given.Goals as goal

pub returns : goal.returns
unfolding numbers_below id_text by_index digits
returns c = record {
  kept_flow = refl;
  new_flow = refl;
  flow_part = refl;
  source_part = refl;
  drop = refl;
  named = refl;
  bytes = refl;
  posted = refl;
  cut = refl;
  only_overlapped = refl;
  kept_hook = refl;
  new_hook = refl;
  hook_gone = refl;
  no_hook = refl;
  refused = refl;
}
