use Rattle.std.proofs.Common.{◌∙◌, arith, rules}
use Rattle.media_journal.specs.File.{IsOpenGate}
use Rattle.media_journal.proofs.ScanLemmas.{is_record, is_torn}
use Rattle.media_journal.proofs.scan.read_record.Goals as goal

-- A length that passes the half.
pub returns-then-left-length-clause-found : goal.returns-then-left-length-clause-found
returns-then-left-length-clause-found g c = λ shows.
    let first = c.in_ok-read_gate.ensures.reads in
    let prefix = rw first.seen at (c.in_ok-length.ensures.length (first.calls.same.shows ∙ shows)) in
    let gate : IsOpenGate (g.D.Disk.device c.args.disk.now).seen c.args.at = search rules in
    is_torn _ _ _ c.in_ok-length.length c.in_ok-length.ensures.short gate prefix (omega arith)

-- The gate, the length and the payload were read from the image.
pub returns-clause-found : goal.returns-clause-found
returns-clause-found g c = λ shows.
    let first = c.in_ok-read_gate.ensures.reads in
    let second = c.in_ok-length.ensures.reads in
    let once = first.calls.same.shows ∙ shows in
    let prefix = rw first.seen at (c.in_ok-length.ensures.length once) in
    let payload = rw (second.seen, first.seen) at (c.in_ok-read_text.ensures.text (second.calls.same.shows ∙ once)) in
    let gate : IsOpenGate (g.D.Disk.device c.args.disk.now).seen c.args.at = search rules in
    let whole = (g.met.D.Disk.sound c.args.disk.now).length shows in
    is_record _ _ c.in_ok-length.length _ (omega (arith, whole)) c.in_ok-length.ensures.short c.in_ok-read_text.ensures.count gate prefix payload
