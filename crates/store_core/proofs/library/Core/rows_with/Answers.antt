use Rattle.std.proofs.Common.{[], ap, subst}
use Rattle.media_rows.specs.Library.{Library}
use Rattle.media_rows.specs.Snapshot.{rows_of}
use Rattle.core_rows.specs.Texts.{AddsRows}
use Rattle.store_core.proofs.Texts.{snapshot}
use Rattle.store_core.proofs.library.Core.rows_with.Goals as goal

-- a good library's rows stand in their order
pub returns : goal.returns
returns c = λ good.
    let objects = c.args.objects.now in
    snapshot c.rows_rise.ensures (record c.args.self.now.library { objects = objects }) good c.in_ok-text.text
    (subst (λ (l : Library). AddsRows [] (rows_of (record l { objects = objects })) c.in_ok-text.text) (ap (λ h. h.library) c.self.view_is)
    c.in_ok-text.ensures)
