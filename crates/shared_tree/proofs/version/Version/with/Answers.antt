use Rattle.std.proofs.Common.{◌≡◌, FitsSigned, is_some, subst, sym, true, ◌∙◌}
use mir.Syntax.{w128}
use Rattle.std.proofs.lemmas.Int.{to_z-of_z}
use Rattle.shared_tree.specs.Pairs.{value_at}
use Rattle.shared_tree.proofs.Counted.{follows_with, others_there}
use Rattle.shared_tree.proofs.version.Version.with.Goals as goal

-- Keys rise with the pair at its place. Where it has the place of another, there are as many.
pub invariant_of-result : goal.invariant_of-result
invariant_of-result g c =
    let fit : FitsSigned w128 c.args.key = c.ranges.key in
    let old = c.self.inside.tree.0 in
    let pairs = simp to_z-of_z at c.in_ok-replace.ensures.pairs in
    let told : is_some (value_at c.args.key c.args.self.now) ≡ true = sym (simp to_z-of_z at c.if-has.ensures) in
    let held = subst (λ ps. is_some (value_at c.args.key ps) ≡ true) (sym c.self.view_is) told in
    let more = c.self.invariant.more ∙ sym (others_there c.args.key old c.self.invariant.rising held) in
    let next = follows_with old c.in_ok-replace.field-0.0 c.args.key c.args.value.value c.self.inside.more c.self.invariant.rising c.self.invariant.fits fit
    pairs more in
    record { rising = next.rising; fits = next.fits; more = next.more }

-- Otherwise there is one more than of other keys.
pub invariant_of-result-2 : goal.invariant_of-result-2
invariant_of-result-2 g c =
    let fit : FitsSigned w128 c.args.key = c.ranges.key in
    let pairs = simp to_z-of_z at c.in_ok-put.ensures.pairs in
    let others = simp to_z-of_z at c.all_others-more.ensures in
    let next = follows_with c.self.inside.tree.0 c.in_ok-put.field-0.0 c.args.key c.args.value.value c.all_others-more.result c.self.invariant.rising
    c.self.invariant.fits fit pairs (rw c.self.view_is others) in
    record { rising = next.rising; fits = next.fits; more = next.more }
