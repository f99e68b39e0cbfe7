use Rattle.std.proofs.Common.{◌∙◌, refl}
use Rattle.site_edge.specs.MemorySite.{IsKeptBySite}
use Rattle.site_edge.specs.Lines.{with_passed}
use Rattle.site_edge.proofs.KeptLemmas.{kept_changed}
use Rattle.site_edge.proofs.LinkLemmas.{said_fails, said_sent, say_call, said_clause}
use Rattle.site_edge.proofs.memory_site.MemorySiteSite.say.Goals as goal

pub invariant_of-self : goal.invariant_of-self
invariant_of-self c =
    kept_changed (with_passed c.is_ok.result) _ c.count-answer.new.tally c.mark_last.new.lines.items (λ k. refl) c.mark_last.ensures c.self-2.invariant

-- What was sent is told to the last connection, which is with_passed where the call fails.
pub returns : goal.returns
returns c =
    let told = c.self-2.view_is ∙ (rw c.sent_of.ensures at c.try_tell-noted.ensures.told) in
    let counted = c.count-answer.ensures in
    let marks = rw (c.is_ok.ensures.value, counted.answer) at c.mark_last.ensures in
    let kept : IsKeptBySite c.args.self.now = rw (← c.self.view_is) c.self.invariant in
    let noted = c.try_tell-noted.result in
    let passes = c.passes-passes.result in
    let old = c.args.self.now in
    let tally = c.count-answer.new.tally in
    let talks = c.mark_last.new.lines.items in
    rw counted.answer (record {
      call = say_call noted passes c.args.bytes.now old _ tally talks kept told marks (rw counted.answer at counted.counts.counted);
      said = said_clause noted passes c.args.bytes.now old _ tally talks told marks counted.peer_faults;
      fails = said_fails noted passes c.args.bytes.now old _ tally talks told marks (rw counted.answer at counted.counts);
      sent = said_sent noted passes c.args.bytes.now old _ tally talks told marks counted.number;
    })
