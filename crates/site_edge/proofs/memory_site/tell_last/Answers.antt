use Rattle.std.proofs.Common.{arith}
use Rattle.std.proofs.lemmas.Result.{on_ok_weaker}
use Rattle.site_edge.specs.Lines.{told_more, with_changed_connection}
use Rattle.site_edge.proofs.ConnectionLemmas.{set_last}
use Rattle.site_edge.proofs.memory_site.tell_last.Goals as goal

pub returns-clause-ok : goal.returns-clause-ok
returns-clause-ok c =
    let lines = c.args.lines.now in
    on_ok_weaker c.tell.result (λ told. set_last (with_changed_connection (told_more c.args.bytes.now)) lines.items _ c.index_mut.result.now _
    (omega (arith, lines.ok.0)) c.index_mut.ensures.value told) c.tell.ensures.ok
