use Rattle.std.proofs.Common.{take}
use Rattle.store_states.specs.States.{Folds}
use Rattle.store_opening.proofs.records.fold.Given as goal

-- the records before this one make the library
abbrev pub invariant-loop-entry : goal.invariant-loop-entry
invariant-loop-entry l = Folds l.form (take l.entry-index l.records) l.initial.library.library l.library.library
