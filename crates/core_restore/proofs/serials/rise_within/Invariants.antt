use Rattle.std.proofs.Common.{◌≡◌, ◌++◌, [], ◌∷◌, drop, nat_lt}
use Rattle.media_rows.specs.Lists.{rises}
use Rattle.core_restore.proofs.serials.rise_within.Given as goal

-- what is left rises as all does
abbrev pub invariant-loop-serial : goal.invariant-loop-serial
invariant-loop-serial l =
    rises nat_lt (0 ∷ (l.serials ++ l.next_serial ∷ [])) ≡ rises nat_lt (l.last ∷ (drop l.serial-index l.serials ++ l.next_serial ∷ []))
