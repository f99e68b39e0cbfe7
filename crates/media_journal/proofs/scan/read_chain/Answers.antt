use Rattle.std.proofs.Common.{◌≡◌, ◌+◌, length, ◌∙◌, arith, rules}
use Rattle.media_journal.proofs.ChainLemmas.{chain_push}
use Rattle.media_journal.proofs.scan.read_chain.Goals as goal

-- One record more stands where the chain ended.
pub records-preserved : goal.records-preserved
records-preserved g c =
    let so_far = c.records.invariant.reads in
    let behind = rw c.in-Whole.is at c.in_ok-read_record.ensures.within in
    let place : c.records.at + 5 + length c.in-Whole.payload ≡ c.records.at + (5 + length c.in-Whole.payload) = omega arith in
    record {
      reads = search rules;
      end = c.in_ok-read_record.ensures.end ∙ c.records.invariant.end;
      piece = c.in_ok-read_record.ensures.piece;
      chain = λ shows.
          let found = rw (c.in-Whole.is, so_far.seen) at (c.in_ok-read_record.ensures.found (so_far.calls.same.shows ∙ shows)) in
          rw (c.in_ok-push-in-Whole.ensures.ok, c.bytes.ensures, place) (chain_push _ _ _ _ _ (c.records.invariant.chain shows) found);
      behind = rw c.bytes.ensures (omega (arith, c.records.invariant.behind));
      within = rw (c.bytes.ensures, c.in_ok-read_record.ensures.end) (omega (arith, behind));
    }
