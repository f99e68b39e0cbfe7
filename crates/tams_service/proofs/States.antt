-- The states of the machine by what a store keeps: after a change, and after a turn.
use Rattle.std.proofs.Common.{◌≡◌, ℕ, Bool, true, false, cond, List, [], Option, Some, None, refl, sym, subst}
use Rattle.std.specs.Prelude.{option_map, option_to_list, unwrap_or}
use Rattle.media_rows.specs.declared.change.Change.{Change}
use Rattle.media_rows.specs.declared.change.Change.TheVariants as changes
use Rattle.media_rows.specs.Apply.{turn}
use Rattle.media_rows.specs.Media.{Archive, archive_after}
use Rattle.change_codec.specs.Fitting.{fits}
use Rattle.disk_trait.specs.Device.{Device}
use Rattle.media_store.specs.Changes.{IsAfterChange, archive_next, stores}
use Rattle.media_store.specs.Stores.{StoreSeen, journal_of}
use Rattle.media_store.specs.Turns.{turn_change}
use Rattle.store_states.specs.Kept.{AgreesWith, StoreView, kept_state}
use Rattle.store_states.specs.States.{StoreState}
use Rattle.run_history.specs.Steps.{last_or}
use Rattle.tams_machine.specs.Answers.{state_with_change, turn_in}
use Rattle.tams_service.specs.Keeping.{KeepsState}
use Rattle.tams_service.proofs.Moments.{next_held, next_state}

-- ---- a change

-- A store that has become what a change makes keeps the state after it.
pub keeps_next : (store next : StoreSeen) (old new : Device) (s : StoreState) (change : Change) (came : List ℕ) → KeepsState store old s
    → next.spent ≡ false → IsAfterChange store.kept change next.kept
    → AgreesWith new next.kept (archive_next store.kept s.archive.held change came).held → KeepsState next new (state_with_change s change came)
keeps_next store next old new s change came keeps unspent is agrees = record {
  unspent = unspent;
  agrees = subst (AgreesWith new next.kept) (next_held store.kept s.archive.held s keeps.state change came) agrees;
  state = next_state store.kept s.archive.held s keeps.state change came is;
}

-- the bytes that come matter to no change but the storing of an object
pub bare_archive : (change : Change) (came : List ℕ) (archive : Archive) → stores (Some change) ≡ false
    → archive_after change came archive ≡ archive_after change [] archive
bare_archive (changes.PutFlow moment flow) came archive is = refl
bare_archive (changes.SetFlow moment flow part) came archive is = refl
bare_archive (changes.SetSource moment source part) came archive is = refl
bare_archive (changes.DropFlow moment flow) came archive is = refl
bare_archive (changes.Allocate moment flow ids) came archive is = refl
bare_archive (changes.Store moment object start size digest) came archive is = absurd cc
bare_archive (changes.AddSegments moment flow posts) came archive is = refl
bare_archive (changes.CutSegments moment flow range) came archive is = refl
bare_archive (changes.AskDelete moment flow range delete_flow) came archive is = refl
bare_archive (changes.DeleteStep moment) came archive is = refl
bare_archive (changes.SweepStep moment) came archive is = refl
bare_archive (changes.PutHook moment hook) came archive is = refl
bare_archive (changes.DropHook moment url) came archive is = refl
bare_archive (changes.Delivered moment event) came archive is = refl

-- ---- a turn

-- the state after the change that is due, if one is that fits
pub turned_as : (kept : StoreView) (held : List (List ℕ)) (due : Option Change)
    → option_map (λ change. state_with_change (kept_state kept held) change []) (turn_change (journal_of kept) due)
    ≡ Rattle.tams_machine.specs.Answers.turned_by (kept_state kept held) due
turned_as kept held None = refl
turned_as kept held (Some change) = by_fit (fits (journal_of kept) change)
  where
    by_fit : (b : Bool)
        → option_map (λ c. state_with_change (kept_state kept held) c []) (cond b (Some change) None)
        ≡ cond b (Some (state_with_change (kept_state kept held) change [])) None
    by_fit true = refl
    by_fit false = refl

-- so it is for what a store keeps
pub turn_of : (store : StoreSeen) (d : Device) (s : StoreState) (moment : ℕ) → KeepsState store d s
    → option_map (λ change. state_with_change s change []) (turn_change (journal_of store.kept) (turn store.kept.library moment)) ≡ turn_in moment s
turn_of store d s moment keeps =
    subst (λ t. option_map (λ change. state_with_change t change []) (turn_change (journal_of store.kept) (turn store.kept.library moment)) ≡ turn_in moment t)
    (sym keeps.state) (turned_as store.kept s.archive.held (turn store.kept.library moment))

-- the state after a change that there may be
pub last_of : (s : StoreState) (change : Option StoreState) → unwrap_or change s ≡ last_or s (option_to_list change)
last_of s None = refl
last_of s (Some next) = refl
