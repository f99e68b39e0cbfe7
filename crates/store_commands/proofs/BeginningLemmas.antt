-- How a run begins, before its first connection.
use Rattle.std.proofs.Common.{◌≡◌, ℕ, true, List, [], refl, sym, ap, subst}
use Rattle.disk_trait.specs.Forms.{form_in_use}
use Rattle.disk_trait.specs.Device.{Device, IsDevice, Link}
use Rattle.disk_trait.specs.Calls.{Elapses, Unchanged}
use Rattle.run_history.proofs.Going.{served_none, served_quiet}
use Rattle.run_history.specs.Serving.{HasServed}
use Rattle.connection_loop.specs.Tallies.{nothing_counted}
use Rattle.store_states.specs.States.{StandsFor, StoreState}
use Rattle.store_states.proofs.Making.{states_are_good}
use Rattle.tams_machine.specs.Machine.{tams_machine}
use Rattle.tams_outcomes.specs.Touching.{IsSettled}
use Rattle.store_commands.specs.Beginning.{beginning}

pub begun_served : (base : List ℕ) (old new : Device) (from : StoreState) (given : List ℕ) → IsDevice old → old.honest ≡ true → old.tells ≡ true
    → IsSettled old → StandsFor old.seen from → Elapses Unchanged Unchanged old new → new.link ≡ old.link → new.handed ≡ old.handed
    → HasServed (tams_machine base) (beginning from old given) new given [] nothing_counted
begun_served base old new from given sound honest tells settled stands time link handed =
    let first = served_none (tams_machine base) (beginning from old given) old sound honest tells refl refl
    (λ p could. record { room = from.room; stands = subst (λ (image : List ℕ). StandsFor image from) (sym (settled p could)) stands })
    (states_are_good form_in_use old.seen from stands) refl in
    served_quiet (tams_machine base) (beginning from old given) old new given [] nothing_counted first time (ap (λ (l : Link). l.connections) link) handed
