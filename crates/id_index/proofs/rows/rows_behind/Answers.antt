use Rattle.std.proofs.Common.{◌^◌, ◌-◌, ◌≤ℤ◌, pos, rules, FitsSigned, arith, ap, sym, ◌∙◌}
use mir.Syntax.{w128}
use Rattle.std.proofs.lemmas.Int.{ints, to_z-of_z}
use Rattle.shared_tree.specs.Pairs.{values, values_of}
use Rattle.media_rows.specs.Views.{id_key}
use Rattle.id_index.proofs.Ids.{from_next, none_above}
use Rattle.id_index.proofs.Pairs.{if_ok}
use Rattle.id_index.proofs.rows.rows_behind.Goals as goal

-- what stands above a key stands from the next one on
pub returns : goal.returns
returns g c =
    let fit : FitsSigned w128 c.id_key.result = search rules in
    if_ok c.rows_from.result (λ list is. is ∙ ap values (from_next (id_key c.args.id) c.id_key.result c.args.rows.now (c.id_key.ensures ∙ omega (arith, ints))))
    (simp to_z-of_z at c.rows_from.ensures)

-- none stands above the greatest key
pub returns-then-id-eq340282366920938463463374607431768211455 : goal.returns-then-id-eq340282366920938463463374607431768211455
returns-then-id-eq340282366920938463463374607431768211455 g c =
    let last : pos (2 ^ 127 - 1) ≤ℤ id_key c.args.id = let top = c.if-id-eq340282366920938463463374607431768211455.true in rw top (omega (arith, ints)) in
    ap values_of c.new.ensures.items ∙ ap values (sym (none_above (id_key c.args.id) c.args.rows.now c.keys_fit.ensures last))
