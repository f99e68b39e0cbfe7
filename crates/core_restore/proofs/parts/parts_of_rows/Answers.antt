use Rattle.std.proofs.Common.{◌≡◌, None, Some, ap, subst, sym, ◌∙◌}
use Rattle.media_rows.specs.Lists.{rises}
use Rattle.media_rows.specs.Snapshot.{row_before}
use Rattle.core_rows.specs.Kinds.{Kinds}
use Rattle.core_parts.specs.Parts.{given_parts}
use Rattle.core_restore.specs.Within.{AreInOrder}
use Rattle.core_restore.proofs.Handing.{from_kinds, no_numbers}
use Rattle.core_restore.proofs.Parted.{kinds_rise}
use Rattle.core_restore.proofs.parts.parts_of_rows.Goals as goal

-- rows that rise do so kind by kind
pub parts_of_kinds-requires-clause-order : goal.parts_of_kinds-requires-clause-order
parts_of_kinds-requires-clause-order c =
    subst AreInOrder (sym c.in_ok-kinds.ensures)
    (kinds_rise c.args.rows (ap (rises row_before) (sym c.items.ensures) ∙ sym c.do_rise.ensures ∙ c.if-not-do_rise.false))

-- what their kinds restore they do
pub returns-in-Some : goal.returns-in-Some
returns-in-Some c =
    let seen = ap (λ (k : Kinds). k.next_serial) c.kinds.view_is in
    let found = c.in-Some.is in
    let some : c.in_ok-kinds.kinds.next_serial ≡ Some c.in-Some.next_serial = cc in
    from_kinds c.args.id c.args.blocks c.in-Some.next_serial c.args.rows c.in_ok-kinds.kinds (given_parts c.parts_of_kinds.result) c.in_ok-kinds.ensures
    (c.kinds_make_the_library.ensures c.args.id c.args.blocks c.args.rows)
    (ap (rises row_before) (sym c.items.ensures) ∙ sym c.do_rise.ensures ∙ c.if-not-do_rise.false) some c.parts_of_kinds.ensures

-- without a next serial they aren't those of a library
pub returns-in-None : goal.returns-in-None
returns-in-None c =
    let seen = ap (λ (k : Kinds). k.next_serial) c.kinds.view_is in
    let found = c.in-None.is in
    let none : c.in_ok-kinds.kinds.next_serial ≡ None = cc in
    no_numbers c.args.id c.args.blocks c.args.rows c.in_ok-kinds.kinds c.in_ok-kinds.ensures none
