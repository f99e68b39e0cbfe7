use Rattle.http_wire.proofs.Alone.{stands_alone}
use Rattle.http_wire.proofs.Hearings.{ends_last, ends_last_media, hears_on, hears_on_media, one_hearing, stays_decided, stays_refused}
use Rattle.http_wire.proofs.laws.hearing_is_one.Goals as goal

pub returns : goal.returns
returns c = record {
  one = one_hearing;
  decided = stays_decided;
  alone = stands_alone;
  refused = stays_refused;
  on = hears_on;
  on_media = hears_on_media;
  last = ends_last;
  last_media = ends_last_media;
}
