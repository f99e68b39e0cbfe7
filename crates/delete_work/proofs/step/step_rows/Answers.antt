use Rattle.std.proofs.Common.{◌≡◌, ◌≤◌, ap, arith, length, nat_le, sym, subst, ◌∙◌}
use Rattle.std.proofs.lemmas.List.{length-map, take-map}
use Rattle.media_rows.specs.Requests.{step_size}
use Rattle.shared_tree.specs.Pairs.{values_of}
use Rattle.delete_work.proofs.Stepping.{IsFor, few_removed, finished_is, removed_is}
use Rattle.delete_work.proofs.step.step_rows.Goals as goal

pub returns-clause-removed : goal.returns-clause-removed
returns-clause-removed c =
    let fits : IsFor c.args.request.now c.args.index.now = record {
      own = c.requires.flow;
      up = c.is_in_order.ensures.starts;
      bounded = c.is_in_order.ensures.bounded;
    } in
    let kept = ap values_of c.truncate.ensures.items ∙ sym (take-map (λ r. r.now) 32 c.in_ok-found.found.items) in
    c.in_ok-copies.ensures ∙ ap values_of c.deref.ensures.value ∙ kept ∙ removed_is fits (values_of c.in_ok-found.found.items) c.in_ok-found.ensures

pub returns-clause-few : goal.returns-clause-few
returns-clause-few c =
    let kept = ap values_of c.truncate.ensures.items ∙ sym (take-map (λ r. r.now) 32 c.in_ok-found.found.items) in
    subst (λ l. length l ≤ step_size) (sym (c.in_ok-copies.ensures ∙ ap values_of c.deref.ensures.value ∙ kept))
    (few_removed (values_of c.in_ok-found.found.items))

pub returns-clause-finished : goal.returns-clause-finished
returns-clause-finished c =
    let fits : IsFor c.args.request.now c.args.index.now = record {
      own = c.requires.flow;
      up = c.is_in_order.ensures.starts;
      bounded = c.is_in_order.ensures.bounded;
    } in
    let mapped = length-map c.in_ok-found.found.items (λ r. r.now) in
    let same : c.len-finished.result ≡ length (values_of c.in_ok-found.found.items) = omega (arith, mapped) in
    ap (λ n. nat_le n 32) same ∙ finished_is fits (values_of c.in_ok-found.found.items) c.in_ok-found.ensures
