use Rattle.std.proofs.Common.{◌≡◌, true, subst}
use Rattle.std.specs.List.{list_all}
use Rattle.media_rows.specs.Lists.{each_pair, rises}
use Rattle.segment_index.specs.Answers.{are_apart_rows, begins_before, is_bounded}
use Rattle.segment_index.proofs.Ordered.{all_apart, all_bounded, starts_rise}
use Rattle.segment_index.proofs.index.SegmentIndex.is_in_order.Goals as goal

pub returns-clause-starts : goal.returns-clause-starts
returns-clause-starts c =
    subst (λ rows. rises begins_before rows ≡ true) c.self.view_is (starts_rise c.self.inside.rows c.self.invariant.keyed c.keys_rise.ensures)

pub returns-clause-bounded : goal.returns-clause-bounded
returns-clause-bounded c = subst (λ rows. list_all is_bounded rows ≡ true) c.self.view_is (all_bounded c.self.inside.rows c.self.invariant.keyed)

pub returns-clause-disjoint : goal.returns-clause-disjoint
returns-clause-disjoint c = subst (λ rows. each_pair are_apart_rows rows ≡ true) c.self.view_is
    (all_apart c.self.inside.rows c.self.invariant.keyed c.self.invariant.apart)
