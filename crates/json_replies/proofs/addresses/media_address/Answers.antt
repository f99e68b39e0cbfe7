use Rattle.std.proofs.Common.{refl}
use Rattle.json_replies.specs.Addresses.{media_address}
use Rattle.json_replies.proofs.Escapes.{percent_encode-escaped}
use Rattle.json_replies.proofs.addresses.media_address.Goals as goal

pub returns : goal.returns
unfolding media_address
returns c =
    rw (
      c.in_ok-append_to.ensures.ok,
      c.percent_encode.ensures.text,
      percent_encode-escaped c.args.object.now,
      c.in_ok-push_str-2.ensures.bytes,
      c.in_ok-push_str.ensures.bytes,
      c.new-address.ensures.bytes,
      c.in-Ok.ensures.cases.0,
    ) refl
