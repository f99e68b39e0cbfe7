use Rattle.std.proofs.Common.{arith}
use Rattle.site_edge.specs.Lines.{unheard_once, with_changed_connection}
use Rattle.site_edge.proofs.ConnectionLemmas.{set_last}
use Rattle.site_edge.proofs.memory_site.unhear_last.Goals as goal

pub returns : goal.returns
returns c =
    let lines = c.args.lines.now in
    set_last (with_changed_connection unheard_once) lines.items _ c.index_mut.result.now _ (omega (arith, lines.ok.0)) c.index_mut.ensures.value
    c.mark_unheard.ensures
