use Rattle.std.proofs.Common.{refl}
use Rattle.std.specs.Str.{is_utf8}
use Rattle.std.specs.Str.{chars}
use Rattle.std.proofs.Math.Utf8.{encode}
use Rattle.media_rows.specs.Essence.{is_essence}
use Rattle.library_examples.proofs.good.bad_texts.Goals as goal

pub returns : goal.returns
unfolding is_utf8 chars encode is_essence
returns c = record {
  fine = refl;
  codec = refl;
  container = refl;
  label = refl;
  description = refl;
  tag_name = refl;
  tag_value = refl;
  role = refl;
  essence = refl;
  created = refl;
  metadata = refl;
  segments = refl;
  last_moment = refl;
  source = refl;
  source_moment = refl;
  object = refl;
  no_id = refl;
  idle = refl;
  request = refl;
  url = refl;
  key_value = refl;
  key_name = refl;
  event_moment = refl;
}
