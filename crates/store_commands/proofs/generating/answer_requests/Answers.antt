use Rattle.std.proofs.Common.{◌≡◌, [], true, is_some, unwrap_or, refl, ap}
use Rattle.store_commands.specs.Standing.{tells_zeros, zeros, zeros_given}
use Rattle.store_commands.proofs.WorkloadLemmas.{answered_over, base_is_text}
use Rattle.store_commands.proofs.generating.answer_requests.Goals as goal

-- The base is text.
pub replay-outcome-requires : goal.replay-outcome-requires
replay-outcome-requires c = record { base = rw c.in_ok-base.ensures base_is_text }

-- The peer was served, and was heard to its end.
pub returns : goal.returns
returns c =
    let told : tells_zeros c.new-clock.result ≡ true = ap (λ calls. is_some calls) c.new-clock.ensures in
    let begun : zeros_given c.new-clock.result ≡ [] = ap (λ calls. zeros (unwrap_or calls 0)) c.new-clock.ensures in
    answered_over c.args.requests.now _ _ _ c.in-Served.answers c.in-Served.changes c.in-Served.skipped
    (unwrap_or c.replay-outcome.new.clock.calls 0) c.requires refl c.in-Served.ensures.disk
    (rw (c.in_ok-base.ensures, told, begun) at c.in-Served.ensures.ends) (rw c.bytes.ensures at (c.has_heard.ensures c.if-not-has_heard.false))
