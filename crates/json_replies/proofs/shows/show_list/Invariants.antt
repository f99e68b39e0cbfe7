use Rattle.std.specs.Prelude.{◌≡◌, ◌++◌, drop}
use Rattle.std.specs.List.{flat_map}
use Rattle.json_replies.proofs.shows.show_list.Given as goal

abbrev pub invariant-loop-item : goal.invariant-loop-item
invariant-loop-item g l =
    l.out ++ flat_map (g.S.Shows.shown l.shows) (drop l.item-index l.items)
    ≡ l.initial.out ++ flat_map (g.S.Shows.shown l.shows) l.items
