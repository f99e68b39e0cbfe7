use Rattle.std.proofs.Common.{◌≡◌, ◌<◌, ◌≤◌, ◌+◌, ◌-◌, ◌∙◌, length, take, sym, ap, unwrap_or, arith}
use Rattle.std.specs.Prelude.{IsSomeAnd}
use Rattle.std.proofs.lemmas.List.Elements.{All-take}
use Rattle.disk_trait.specs.History.{Past, range_end, range_length, seen_after, stopped, stopped_within}
use Rattle.disk_trait.proofs.StopLemmas.{length_is, made_within, replayed_length, stop_fits, stopped_is}
use Rattle.disk_trait.proofs.history.History.stop_image.Goals as goal

-- The calls lie within the bytes at first, which are as many as those of now.
pub make_all_again-requires : goal.make_all_again-requires
make_all_again-requires c =
    let h = c.self.inside in
    let past : Past = record { first = unwrap_or h.first h.bytes.items; calls = h.calls.items } in
    let starts : c.in_ok-image.image.items ≡ past.first = c.in_ok-image.ensures.items ∙ (c.first.ensures ∙ sym (ap (λ past. past.first) c.self.view_is)) in
    rw (c.deref.ensures.value, starts, ← replayed_length past h.bytes.items c.self.invariant)
    (All-take (λ call. range_end call ≤ length h.bytes.items) (c.args.call - 1) past.calls c.self.invariant.within)

pub stop_within-requires-clause-within : goal.stop_within-requires-clause-within
stop_within-requires-clause-within c =
    let h = c.self.inside in
    let past : Past = record { first = unwrap_or h.first h.bytes.items; calls = h.calls.items } in
    let n = c.args.call - 1 in
    let made : IsSomeAnd (range_length past c.args.call) (λ length. c.args.kept ≤ length) = rw (← c.self.view_is) at c.requires in
    let bounds = made_within past c.args.call c.args.kept made in
    let within : n < length past.calls = omega (arith, bounds.0, bounds.1) in
    let starts : c.in_ok-image.image.items ≡ past.first = c.in_ok-image.ensures.items ∙ (c.first.ensures ∙ sym (ap (λ past. past.first) c.self.view_is)) in
    let again : c.make_all_again.new.image.items ≡ seen_after (take n past.calls) past.first =
    rw (← c.deref.ensures.value, ← starts) c.make_all_again.ensures in
    stop_fits past h.bytes.items c.make_all_again.new.image.items n c.index.result.now c.self.invariant within c.index.ensures again

pub stop_within-requires-clause-kept : goal.stop_within-requires-clause-kept
stop_within-requires-clause-kept c =
    let h = c.self.inside in
    let past : Past = record { first = unwrap_or h.first h.bytes.items; calls = h.calls.items } in
    let n = c.args.call - 1 in
    let made : IsSomeAnd (range_length past c.args.call) (λ length. c.args.kept ≤ length) = rw (← c.self.view_is) at c.requires in
    let bounds = made_within past c.args.call c.args.kept made in
    let within : n < length past.calls = omega (arith, bounds.0, bounds.1) in
    let same : c.args.call ≡ n + 1 = omega (arith, bounds.0) in
    length_is past n c.args.kept c.index.result.now within c.index.ensures (rw same at made)

pub returns : goal.returns
returns c =
    let h = c.self.inside in
    let past : Past = record { first = unwrap_or h.first h.bytes.items; calls = h.calls.items } in
    let n = c.args.call - 1 in
    let made : IsSomeAnd (range_length past c.args.call) (λ length. c.args.kept ≤ length) = rw (← c.self.view_is) at c.requires in
    let bounds = made_within past c.args.call c.args.kept made in
    let within : n < length past.calls = omega (arith, bounds.0, bounds.1) in
    let starts : c.in_ok-image.image.items ≡ past.first = c.in_ok-image.ensures.items ∙ (c.first.ensures ∙ sym (ap (λ past. past.first) c.self.view_is)) in
    let again : c.make_all_again.new.image.items ≡ seen_after (take n past.calls) past.first =
    rw (← c.deref.ensures.value, ← starts) c.make_all_again.ensures in
    let same : c.args.call ≡ n + 1 = omega (arith, bounds.0) in
    let stops : stopped past c.args.call c.args.kept ≡ stopped_within c.args.kept c.index.result.now (seen_after (take n past.calls) past.first) =
    ap (λ call. stopped past call c.args.kept) same ∙ stopped_is past n c.args.kept c.index.result.now within c.index.ensures in
    rw (c.from_vec.ensures, c.stop_within.ensures, ← c.self.view_is) (ap (stopped_within c.args.kept c.index.result.now) again ∙ sym stops)
