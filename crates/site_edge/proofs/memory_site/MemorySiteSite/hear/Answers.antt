use Rattle.std.proofs.Common.{◌&&◌, ◌∙◌, ◌≡◌, ◌≤◌, [], false, length, take, ap, sym, refl}
use Rattle.std.specs.Prelude.{◌↔◌}
use Rattle.site_edge.specs.Lines.{unheard_once}
use Rattle.site_edge.specs.MemorySite.{rest_of_last}
use Rattle.site_edge.specs.declared.fault.LinkFailed.{LinkFailed}
use Rattle.site_edge.proofs.KeptLemmas.{kept_changed}
use Rattle.site_edge.proofs.LinkLemmas.{heard_passes, heard_value, peer_heard, peer_unheard}
use Rattle.site_edge.proofs.memory_site.MemorySiteSite.hear.Goals as goal

-- A call that fails marks the connection, and one that passes hears the next bytes of the peer.
pub invariant_of-self-in-Err : goal.invariant_of-self-in-Err
invariant_of-self-in-Err c = kept_changed unheard_once _ c.count.new.tally c.unhear_last.new.lines.items (λ k. refl) c.unhear_last.ensures c.self-2.invariant

pub returns-in-Err : goal.returns-in-Err
returns-in-Err c =
    let counted = c.in-Err.ensures in
    let failed = ap (λ b. b && c.passes-passes.result) (sym c.is_some.ensures) ∙ sym counted.answer in
    let left =
    peer_unheard LinkFailed c.in-Err.failed c.passes-passes.result c.try_hear-heard.result c.try_hear-heard.new.out c.args.self.now _ c.count.new.tally
    c.unhear_last.new.lines.items (rw (← c.self-2.view_is) at c.try_hear-heard.ensures.heard) failed counted.counts counted.peer_faults c.unhear_last.ensures in
    record { within = tt; call = left.call; heard = left.heard; fails = left.fails; piece = tt; end = tt; bytes = tt }

pub returns-in-Ok : goal.returns-in-Ok
returns-in-Ok c =
    let counted = c.in-Ok.ensures in
    let passed = ap (λ b. b && c.passes-passes.result) (sym c.is_some.ensures) ∙ sym counted.answer in
    let left =
    peer_heard LinkFailed c.passes-passes.result c.try_hear-heard.result c.try_hear-heard.new.out c.args.self.now _ c.count.new.tally
    (rw (← c.self-2.view_is) at c.try_hear-heard.ensures.heard) passed counted.counts counted.peer_faults in
    let value = heard_value c.try_hear-heard.result c.passes-passes.result in
    let passes = heard_passes c.try_hear-heard.result c.passes-passes.result passed in
    let told = c.try_hear-heard.ensures in
    rw c.unwrap_or.ensures (record {
      within = value (λ count. count ≤ length c.args.out.now) passed told.within;
      call = left.call;
      heard = left.heard;
      fails = left.fails;
      piece = value (λ count. count ≤ c.args.self.now.piece) passed told.piece;
      end = value (λ count. (count ≡ 0) ↔ (rest_of_last c.args.self.now.talks ≡ [])) passed (told.end passes);
      bytes = value (λ count. take count c.try_hear-heard.new.out ≡ take count (rest_of_last c.args.self.now.talks)) passed (told.bytes passes);
    })
