use Rattle.disk_trait.specs.Forms.{form_in_use}
use Rattle.change_codec.proofs.CodecLemmas.{change_written}
use Rattle.change_codec.proofs.whole.encode_change.Goals as goal

pub returns : goal.returns
returns c = change_written form_in_use c.args.change.now c.write_to.new.out (rw c.new-text.ensures at c.in_ok-write_to.ensures) c.requires
