use Rattle.std.proofs.Common.{◌≡◌, sym, ◌∙◌}
use Rattle.change_codec.proofs.ChangeLaws.{all_lawful}
use Rattle.change_codec.proofs.CodecLemmas.{lacks_kind, reads_in}
use Rattle.change_codec.proofs.whole.read_change.Goals as goal

pub read_all-requires : goal.read_all-requires
read_all-requires c = all_lawful

-- bytes of another kind are faulty at their beginning
pub returns-then-not-begins_with_kind : goal.returns-then-not-begins_with_kind
returns-then-not-begins_with_kind c =
    lacks_kind c.args.form c.args.bytes.now (sym c.begins_with_kind.ensures ∙ c.if-not-begins_with_kind.true)

-- bytes of a kind of the form are read as those of all forms
pub returns : goal.returns
returns c = reads_in c.args.form c.args.bytes.now c.read_all.result (sym c.begins_with_kind.ensures ∙ c.if-not-begins_with_kind.false) c.read_all.ensures
