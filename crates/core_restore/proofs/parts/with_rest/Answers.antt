use Rattle.std.proofs.Common.{ap}
use Rattle.core_restore.proofs.Handing.{rest_fails, rest_refused, rest_stands}
use Rattle.core_restore.proofs.parts.with_rest.Goals as goal

-- what isn't tied is no part of a good library
pub returns-then-not-branch : goal.returns-then-not-branch
returns-then-not-branch c =
    rest_fails c.args.id c.args.next_serial _ c.args.kinds c.args.media.media c.in-Ok.registry _ _ _ _
    (record { same = c.kinds.view_is; order = c.requires.order; stored = c.requires.media; listed = c.in-Ok.ensures.1 })
    (record {
      flows = c.catalog.ensures;
      segments_are = c.items-segments.ensures;
      requests_are = c.items.ensures;
      tied_is = c.in_ok-are_tied-in-Ok.ensures;
    }) c.if-not-branch.true

-- what is tied is, and media and registry are the library
pub returns-else-not-branch : goal.returns-else-not-branch
returns-else-not-branch c =
    rest_stands c.args.id c.args.next_serial _ c.args.kinds c.args.media.media c.in-Ok.registry _ _ _ _ _
    (record { same = c.kinds.view_is; order = c.requires.order; stored = c.requires.media; listed = c.in-Ok.ensures.1 })
    (record {
      flows = c.catalog.ensures;
      segments_are = c.items-segments.ensures;
      requests_are = c.items.ensures;
      tied_is = c.in_ok-are_tied-in-Ok.ensures;
    }) c.if-not-branch.false c.in-Ok.ensures.0 (ap (λ h. h.library) c.of.ensures)

-- books that can't be restored are those of no good library
pub returns-in-Err : goal.returns-in-Err
returns-in-Err c = rest_refused c.args.id c.args.next_serial _ c.args.kinds c.args.media.media c.in-Err.fault c.kinds.view_is c.in-Err.ensures
