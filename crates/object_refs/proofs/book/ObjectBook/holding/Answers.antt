use Rattle.std.proofs.Common.{ap, ap₂, sym, ◌∙◌, option_map}
use Rattle.object_refs.proofs.Shown.{found_held, found_shown}
use Rattle.object_refs.proofs.book.ObjectBook.holding.Goals as goal

-- a copy of a row stands for it
pub invariant_of-result : goal.invariant_of-result
invariant_of-result c =
    found_held c.args.id.now c.args.trees c.in_ok-apart.apart c.is_in_order.ensures.serials (sym (c.in_ok-apart.ensures ∙ c.find.ensures))

pub returns : goal.returns
returns c =
    let found = sym (c.in_ok-apart.ensures ∙ c.find.ensures) in
    ap₂ (λ kept apart. record { kept = kept; apart = apart })
    (found_shown c.args.id.now c.args.trees c.in_ok-apart.apart c.is_in_order.ensures.serials found) (ap (option_map (λ row. row.serial)) (sym found))
