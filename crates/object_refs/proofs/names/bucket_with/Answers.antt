use Rattle.std.proofs.Common.{◌≡◌, ◌++◌, ◌∷◌, [], length, ap, sym, ◌∙◌}
use Rattle.std.proofs.lemmas.Bool.{eqb-true}
use Rattle.object_refs.specs.Within.Names.{bucket_without}
use Rattle.object_refs.proofs.Lists.{if_ok, none_of_length}
use Rattle.object_refs.proofs.names.bucket_with.Goals as goal

-- where no other entry is left, this one stands alone
pub returns-then-is_empty : goal.returns-then-is_empty
returns-then-is_empty c =
    let list = c.in_ok-list.list in
    let none : list ≡ [] =
    none_of_length list (ap length (sym c.items.ensures) ∙ eqb-true (length c.items.result.now) 0 (sym c.is_empty.ensures ∙ c.if-is_empty.true)) in
    let left : bucket_without c.args.entry.id c.args.bucket.now ≡ [] = sym c.in_ok-list.ensures ∙ none in
    if_ok c.bucket_of.result (λ made is. is ∙ ap (λ l. l ++ c.args.entry ∷ []) (sym left)) c.bucket_of.ensures
