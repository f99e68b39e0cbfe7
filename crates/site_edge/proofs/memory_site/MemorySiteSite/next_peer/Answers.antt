use Rattle.std.proofs.Common.{◌&&◌, ◌∙◌, ap, sym}
use Rattle.std.proofs.lemmas.Result.{err_from_is_err_and}
use Rattle.site_edge.specs.MemorySite.{IsKeptBySite}
use Rattle.site_edge.specs.declared.fault.LinkFailed.{LinkFailed}
use Rattle.site_edge.proofs.LinkLemmas.{passed_came, peer_came, peer_failed}
use Rattle.site_edge.proofs.memory_site.MemorySiteSite.next_peer.Goals as goal

-- A call that fails leaves all but its counts.
pub returns-in_err-count_peer : goal.returns-in_err-count_peer
returns-in_err-count_peer c =
    let p = err_from_is_err_and c.from_residual.result c.from_residual.ensures.1 in
    let counted = c.in_err-count_peer.ensures in
    let failed = ap (λ b. b && c.passes-passes.result) (sym c.is_some.ensures) ∙ sym counted.answer in
    let left =
    peer_failed LinkFailed _ c.passes-passes.result c.try_next-came.result c.args.self.now _ c.count_peer.new.tally
    (rw (← c.self-2.view_is) at c.try_next-came.ensures.next) failed counted.counts counted.peer_faults in
    rw p.1 (record { call = left.call; peers = left.peers; next = left.next; fails = left.fails; came = tt })

-- One that passes begins the next connection, if a peer is left.
pub returns : goal.returns
returns c =
    let counted = c.in_ok-count_peer.ensures in
    let passed = ap (λ b. b && c.passes-passes.result) (sym c.is_some.ensures) ∙ sym counted.answer in
    let kept : IsKeptBySite c.args.self.now = rw (← c.self.view_is) c.self.invariant in
    let left =
    peer_came LinkFailed c.passes-passes.result c.try_next-came.result c.args.self.now _ c.count_peer.new.tally kept
    (rw (← c.self-2.view_is) at c.try_next-came.ensures.next) c.try_next-came.ensures.came passed counted.counts counted.peer_faults in
    rw c.unwrap_or.ensures (record {
      call = left.call;
      peers = left.peers;
      next = left.next;
      fails = left.fails;
      came = passed_came c.passes-passes.result
          c.try_next-came.result _ c.try_next-came.ensures.came passed;
    })
