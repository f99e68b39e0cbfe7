use Rattle.std.proofs.Common.{◌↔◌, ◌≡◌, arith, ℕ, [], take}
use Rattle.std.proofs.lemmas.Result.{IfOk-weaker}
use Rattle.site_edge.specs.Lines.{heard_more, with_changed_connection}
use Rattle.site_edge.proofs.ConnectionLemmas.{rest_of_last_at, set_last}
use Rattle.site_edge.proofs.memory_site.hear_last.Goals as goal

pub returns-clause-heard : goal.returns-clause-heard
returns-clause-heard c =
    let lines = c.args.lines.now in
    IfOk-weaker c.hear.result _ _ (λ count heard. set_last (with_changed_connection (heard_more count c.hear.new.out)) lines.items _ c.index_mut.result.now _
    (omega (arith, lines.ok.0)) c.index_mut.ensures.value heard) c.hear.ensures.heard

pub returns-clause-end : goal.returns-clause-end
returns-clause-end c =
    let lines = c.args.lines.now in
    rw (rest_of_last_at lines.items _ c.index_mut.result.now (omega (arith, lines.ok.0)) c.index_mut.ensures.value) c.hear.ensures.end

pub returns-clause-bytes : goal.returns-clause-bytes
returns-clause-bytes c =
    let lines = c.args.lines.now in
    rw (rest_of_last_at lines.items _ c.index_mut.result.now (omega (arith, lines.ok.0)) c.index_mut.ensures.value) c.hear.ensures.bytes
