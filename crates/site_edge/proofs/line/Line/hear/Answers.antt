use Rattle.std.proofs.Common.{◌≡◌, ◌+◌, ◌≤◌, ◌≢◌, length, take, drop, refl, ap, arith}
use Rattle.std.specs.Prelude.{is_some}
use Rattle.std.proofs.lemmas.List.{length-drop}
use Rattle.site_edge.proofs.LineLemmas.{heard_piece, hearings_more, hears_on}
use Rattle.site_edge.proofs.line.Line.hear.Goals as goal

-- The piece stands behind what was heard before.
pub returns-clause-heard : goal.returns-clause-heard
returns-clause-heard c =
    let line = c.self.inside in
    let count = c.min-count.result in
    let some : count ≢ 0 = c.if-count-eq0.false in
    let rest_is : c.split_at.result.1.now ≡ drop line.heard line.sends = rw c.bytes.ensures at c.split_at.ensures.back in
    let within : line.heard + count ≤ length line.sends = omega (arith, ap length rest_is, length-drop line.heard line.sends) in
    rw (c.copy_from_slice.ensures.after, c.split_at-2.ensures.front, rest_is, ← c.self.view_is, heard_piece)
    (rw (hears_on line.heard count line.sends (drop count c.args.out.now) within) (ap (λ hearings. record {
      sends = line.sends;
      connection = record {
        heard = take (line.heard + count) line.sends;
        told = line.told;
        ended = line.ended;
        unheard = is_some line.unheard;
        unsaid = line.unsaid;
        hearings = hearings;
      };
    }) (hearings_more line.sends line.told line.heard count line.ended line.unsaid line.pieces.items c.note.new.pieces.items line.unheard c.self.invariant (rw (c.is_some.ensures, c.bytes-2.ensures) at c.in_ok-note.ensures.ok))))
