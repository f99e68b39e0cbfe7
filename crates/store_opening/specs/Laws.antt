-- Laws of what opening answers.
use Rattle.std.specs.Prelude.{◌≡◌, ℕ, List}
use Rattle.media_journal.specs.Opening.{IsStore}
use Rattle.store_states.specs.Kept.{StoreView, kept_state}
use Rattle.store_states.specs.States.{StandsBy, StandsFor, StoreState}
use Rattle.store_opening.specs.Opening.{IsKept, StandsByOther, StoreDamagedAt, bytes_in_image}

-- an image that is damaged stands for no state, by a half of no form
abbrev pub DamagedStandsForNone : Type 0
DamagedStandsForNone =
    (image : List ℕ) (at form : ℕ) (s : StoreState)
    → StoreDamagedAt image at → StandsBy form image s → ⊥

-- and one that stands for a state by a half of another form stands for none by one of the form in
-- use
abbrev pub OtherStandsForNone : Type 0
OtherStandsForNone =
    (image : List ℕ) (s : StoreState) → StandsByOther image → StandsFor image s → ⊥

-- An image that is refused stands for no state by a half of the form in use: it is damaged, or
-- stands for one by a half of another form.
pub record RefusedStandForNone : Type 0 where
  pub damaged : DamagedStandsForNone
  pub other : OtherStandsForNone

-- the image of a store is damaged at one place at most
abbrev pub IsOneDamage : Type 0
IsOneDamage =
    (image : List ℕ) (at other : ℕ)
    → IsStore image → StoreDamagedAt image at → StoreDamagedAt image other → other ≡ at

-- an image of which a library and a journal are kept stands for their state
abbrev pub KeptStands : Type 0
KeptStands =
    (image : List ℕ) (kept : StoreView)
    → IsKept image kept → StandsFor image (kept_state kept (bytes_in_image image kept))
