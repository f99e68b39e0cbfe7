use Rattle.std.proofs.Common.{◌∙◌, true, false, length, ap, refl, sym, rules}
use Rattle.std.proofs.lemmas.Bool.{false≢true}
use Rattle.std.proofs.lemmas.Result.{err_from_is_err_and}
use Rattle.media_journal.specs.declared.header.Header.{Header}
use Rattle.media_journal.specs.Formatting.{FitsStore}
use Rattle.media_journal.proofs.FormattingLemmas.{not_store, reads_formatted, written_as}
use Rattle.media_journal.proofs.OthersLemmas.{others_along, others_quiet}
use Rattle.media_journal.proofs.StoreLemmas.{formats, reads_failed, reads_refused}
use Rattle.media_journal.proofs.format.format_device.Goals as goal

pub returns-in_err-gate-clause-moments : goal.returns-in_err-gate-clause-moments
returns-in_err-gate-clause-moments g c = λ rest none.
    let failed = err_from_is_err_and c.from_residual.result c.from_residual.ensures.1 in
    rw (failed.1, failed.2) (reads_failed _ rest none _ _ _ c.in_err-gate.ensures.reads.time)

-- Where the numbers don't fit, the gate was read alone.
pub returns-then-not-fits_store : goal.returns-then-not-fits_store
returns-then-not-fits_store g c =
    let first = c.in_ok-gate.ensures in
    record {
      calls = first.reads.calls;
      answer = λ shows. (
        not_store _ c.in_ok-gate.gate c.in_default.not-Store (first.gate shows),
        λ fits.
            let size = (g.met.D.Disk.sound c.args.disk.now).length shows ∙ sym (c.len.ensures ∙ first.reads.calls.same.size) in
            false≢true (c.if-not-fits_store.ensures.1 (rw (← size) fits)),
      );
      written = λ shows. tt;
      refused = first.reads;
      moments = λ rest none. reads_refused _ rest none _ _ _ first.reads.time;
      durable = λ honest. tt;
      others = others_quiet _ _ _ first.reads.time;
    }

pub returns-in_err-make_store : goal.returns-in_err-make_store
returns-in_err-make_store g c =
    let failed = err_from_is_err_and c.from_residual-in_err-make_store.result c.from_residual-in_err-make_store.ensures.1 in
    let first = c.in_ok-gate.ensures in
    rw (failed.1, failed.2) record {
      calls = search rules;
      answer = λ shows. tt;
      written = λ shows. tt;
      refused = tt;
      moments = λ rest none.
          let size = (g.met.D.Disk.sound c.args.disk.now).length rest.shows ∙ sym (c.len.ensures ∙ first.reads.calls.same.size) in
          let fits = rw (← size) at (c.if-not-fits_store.ensures.0 refl) in
          formats _ rest none _ _ fits c.ranges.id.fits false c.in_ok-gate.gate _ _ _ _ c.header_bytes.ensures
          (c.deref.ensures.value ∙ c.in_ok-half.ensures.text) first.reads (first.gate rest.shows) c.in_err-make_store.ensures.moments;
      durable = λ honest. tt;
      others =
          let size = ap length c.deref.ensures.value ∙ c.in_ok-half.ensures.len in
          others_along _ _ _ _ (others_quiet _ _ _ first.reads.time) (rw size at c.in_err-make_store.ensures.others);
    }

-- The numbers fit, and the three groups of writes leave the store.
pub returns : goal.returns
returns g c =
    let first = c.in_ok-gate.ensures in
    let header : Header = record { blocks = c.args.blocks; half = c.args.half; id = c.args.id } in
    record {
      calls = search rules;
      refused = tt;
      written = λ shows.
          written_as _ _ _ _ _ _ _ c.header_bytes.ensures (c.deref.ensures.value ∙ c.in_ok-half.ensures.text) first.reads.seen
          (c.in_ok-make_store.ensures.written (first.reads.calls.same.shows ∙ shows));
      answer = λ shows.
          let size = (g.met.D.Disk.sound c.args.disk.now).length shows ∙ sym (c.len.ensures ∙ first.reads.calls.same.size) in
          let fits : FitsStore header (length (g.D.Disk.device c.args.disk.now).seen) c.args.rows.now = rw size (c.if-not-fits_store.ensures.0 refl) in
          let made = c.in_ok-make_store.ensures.written (first.reads.calls.same.shows ∙ shows) in (
            not_store _ c.in_ok-gate.gate c.in_default.not-Store (first.gate shows),
            fits,
            reads_formatted _ _ header c.args.rows.now fits c.ranges.id.fits
                (written_as _ _ _ _ _ _ _ c.header_bytes.ensures (c.deref.ensures.value ∙ c.in_ok-half.ensures.text) first.reads.seen made),
          );
      moments = λ rest none.
          let size = (g.met.D.Disk.sound c.args.disk.now).length rest.shows ∙ sym (c.len.ensures ∙ first.reads.calls.same.size) in
          let fits : FitsStore header (length (g.D.Disk.device c.args.disk.now).seen) c.args.rows.now = rw size (c.if-not-fits_store.ensures.0 refl) in
          formats _ rest none header c.args.rows.now fits c.ranges.id.fits true c.in_ok-gate.gate _ _ _ _ c.header_bytes.ensures
          (c.deref.ensures.value ∙ c.in_ok-half.ensures.text) first.reads (first.gate rest.shows) c.in_ok-make_store.ensures.moments;
      durable = λ honest. c.in_ok-make_store.ensures.durable (first.reads.calls.same.honest ∙ honest);
      others =
          let size = ap length c.deref.ensures.value ∙ c.in_ok-half.ensures.len in
          others_along _ _ _ _ (others_quiet _ _ _ first.reads.time) (rw size at c.in_ok-make_store.ensures.others);
    }
