use Rattle.std.proofs.Common.{arith}
use Rattle.media_journal.proofs.StoreLemmas.{keeps_along, keeps_before, keeps_behind, keeps_same}
use Rattle.media_journal.proofs.OthersLemmas.{others_along, others_half, others_header, others_quiet, others_selector}
use Rattle.media_journal.proofs.format.write_store.Goals as goal

-- The header's text ends before the gate, and all else begins behind it.
pub returns-in_err-write_at-clause-moments : goal.returns-in_err-write_at-clause-moments
returns-in_err-write_at-clause-moments g c = keeps_behind _ _ _ c.requires.header c.in_err-write_at.ensures.call.time

pub returns-in_err-write_at-2-clause-moments : goal.returns-in_err-write_at-2-clause-moments
returns-in_err-write_at-2-clause-moments g c =
    keeps_along _ _ _ (keeps_behind _ _ _ c.requires.header c.in_ok-write_at.ensures.call.time)
    (keeps_before _ _ _ _ (omega arith) c.in_err-write_at-2.ensures.call.time)

pub returns-in_err-write_at-3-clause-moments : goal.returns-in_err-write_at-3-clause-moments
returns-in_err-write_at-3-clause-moments g c =
    keeps_along _ _ _ (keeps_along _ _ _ (keeps_behind _ _ _ c.requires.header c.in_ok-write_at.ensures.call.time)
    (keeps_before _ _ _ _ (omega arith) c.in_ok-write_at-2.ensures.call.time))
    (keeps_before _ _ _ _ (omega arith) c.in_err-write_at-3.ensures.call.time)

pub returns-clause-moments : goal.returns-clause-moments
returns-clause-moments g c =
    keeps_along _ _ _ (keeps_along _ _ _ (keeps_along _ _ _ (keeps_behind _ _ _ c.requires.header c.in_ok-write_at.ensures.call.time)
    (keeps_before _ _ _ _ (omega arith) c.in_ok-write_at-2.ensures.call.time))
    (keeps_before _ _ _ _ (omega arith) c.in_ok-write_at-3.ensures.call.time)) (keeps_same _ _ c.sync.ensures.call.time)

pub returns-in_err-write_at-clause-others : goal.returns-in_err-write_at-clause-others
returns-in_err-write_at-clause-others g c = others_header _ _ _ _ _ (omega (arith, c.requires.header)) c.in_err-write_at.ensures.call.time

pub returns-in_err-write_at-2-clause-others : goal.returns-in_err-write_at-2-clause-others
returns-in_err-write_at-2-clause-others g c =
    others_along _ _ _ _ (others_header _ _ _ _ _ (omega (arith, c.requires.header)) c.in_ok-write_at.ensures.call.time)
    (others_selector _ _ _ c.in_err-write_at-2.ensures.call.time)

pub returns-in_err-write_at-3-clause-others : goal.returns-in_err-write_at-3-clause-others
returns-in_err-write_at-3-clause-others g c =
    others_along _ _ _ _ (others_along _ _ _ _ (others_header _ _ _ _ _ (omega (arith, c.requires.header)) c.in_ok-write_at.ensures.call.time)
    (others_selector _ _ _ c.in_ok-write_at-2.ensures.call.time))
    (others_half _ _ _ c.in_err-write_at-3.ensures.call.time)

pub returns-clause-others : goal.returns-clause-others
returns-clause-others g c =
    others_along _ _ _ _ (others_along _ _ _ _ (others_along _ _ _ _ (others_header _ _ _ _ _ (omega (arith, c.requires.header))
    c.in_ok-write_at.ensures.call.time) (others_selector _ _ _ c.in_ok-write_at-2.ensures.call.time))
    (others_half _ _ _ c.in_ok-write_at-3.ensures.call.time)) (others_quiet _ _ _ c.sync.ensures.call.time)
