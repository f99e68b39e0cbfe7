use Rattle.std.proofs.Common.{◌≡◌, length, ap, ◌∙◌, arith}
use Rattle.disk_trait.specs.Calls.{overwritten}
use Rattle.disk_trait.proofs.OverwriteLemmas.{length-overwritten}
use Rattle.media_journal.specs.Journal.{frame_text, framed}
use Rattle.media_journal.proofs.FrameLemmas.{filled, framed-frame_text, is_frame, length-frame_text}
use Rattle.media_journal.proofs.frame.Frame.fill.Goals as goal

-- The bytes are those of the new payload's frame.
frame_is : (c : goal.After-overwrite) → c.overwrite.new.bytes.items ≡ frame_text (overwritten c.args.at c.args.bytes.now c.args.self.now)
frame_is c =
    let was = c.self.invariant.text ∙ ap frame_text c.self.view_is in
    c.overwrite.ensures ∙ ap (overwritten _ c.args.bytes.now) was ∙ filled c.args.at c.args.bytes.now c.args.self.now c.requires

pub invariant_of-self : goal.invariant_of-self
invariant_of-self c =
    let was = c.self.invariant.text ∙ ap frame_text c.self.view_is in
    let size = length-overwritten c.args.at c.args.bytes.now c.args.self.now c.requires in
    let long = ap length was ∙ length-frame_text c.args.self.now in
    rw (frame_is c) (is_frame _ (omega (arith, long, c.self.invariant.some)) (omega (arith, long, c.self.invariant.short)))

pub returns : goal.returns
returns c = ap framed (frame_is c) ∙ framed-frame_text _
