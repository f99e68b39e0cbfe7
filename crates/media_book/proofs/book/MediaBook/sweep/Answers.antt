use Rattle.std.proofs.Common.{ap, subst, ◌∙◌}
use Rattle.media_rows.specs.Objects.{sweep_size, without_objects}
use Rattle.std.proofs.Common.{take}
use Rattle.object_refs.specs.References.{objects_in}
use Rattle.media_book.specs.Media.{swept}
use Rattle.media_book.specs.Within.Ties.{AreHeld, object_states}
use Rattle.media_book.proofs.Sweeping.{swept_is, swept_seen, swept_some}
use Rattle.media_book.proofs.book.MediaBook.sweep.Goals as goal

-- the first 16 that are due are some of the objects
pub freed-requires : goal.freed-requires
freed-requires c =
    let kept = c.self.inside.objects.kept in
    record {
      held = c.self.invariant.held;
      some = swept_some c.self.inside.segments (objects_in kept) _ c.args.now c.is_in_order.ensures.serials
          (c.items-gone.ensures ∙ c.in_ok-swept.ensures.gone
          ∙ ap (take sweep_size) (c.due_are_same.ensures c.self.inside.segments kept c.args.now c.self.invariant.tied));
    }

pub invariant_of-result : goal.invariant_of-result
invariant_of-result c =
    let kept = c.self.inside.objects.kept in
    let is = c.in_ok-swept.ensures.gone
    ∙ ap (take sweep_size) (c.due_are_same.ensures c.self.inside.segments kept c.args.now c.self.invariant.tied) in
    rw c.in_ok-share.ensures
    (swept_is c.self.inside.segments kept _ c.self.inside.space _ c.self.inside.bytes _ c.in_ok-swept.swept.gone c.args.now c.self.invariant
    c.is_in_order.ensures.serials is c.in_ok-swept.ensures.left c.in_ok-swept.ensures.rows
    (subst (λ l. AreHeld (object_states (without_objects l (objects_in kept))) c.in_ok-freed.freed.space c.in_ok-freed.freed.bytes) c.items-gone.ensures
    c.in_ok-freed.ensures.held))

pub returns : goal.returns
returns c =
    let kept = c.self.inside.objects.kept in
    let is = c.in_ok-swept.ensures.gone
    ∙ ap (take sweep_size) (c.due_are_same.ensures c.self.inside.segments kept c.args.now c.self.invariant.tied) in
    rw c.in_ok-share.ensures
    (swept_seen c.self.inside.segments kept _ c.self.inside.space c.in_ok-freed.freed.space c.in_ok-swept.swept.gone c.args.now is c.in_ok-swept.ensures.rows
    c.in_ok-freed.ensures.blocks ∙ ap (swept c.args.now) (ap (λ m. m.media) c.self.view_is))
