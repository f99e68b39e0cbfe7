-- What a half's rows and records make is good, and so is each state for which an image stands.
use Rattle.std.proofs.Common.{◌≡◌, ◌≤◌, ◌+◌, ◌-◌, ◌*◌, ℕ, Bool, true, false, cond, List, [], ◌∷◌, length, Some, None, refl, sym, ap, subst, ◌∙◌, arith, ◌&&◌}
use Rattle.std.proofs.lemmas.Bool.{and_parts}
use Rattle.disk_trait.specs.Forms.{form_in_use}
use Rattle.media_rows.specs.declared.change.Change.{Change}
use Rattle.media_rows.specs.declared.row.Row.{Row}
use Rattle.media_rows.specs.declared.row.Row.TheVariants as rows
use Rattle.media_rows.specs.Apply.{applied, applies, is_allowed}
use Rattle.media_rows.specs.Changes.{after, moment_of}
use Rattle.media_rows.specs.Good.{Good, is_good}
use Rattle.media_rows.specs.Library.{Library}
use Rattle.media_rows.specs.Media.{Archive, HasDigests, is_held}
use Rattle.media_rows.specs.Moments.{is_moment}
use Rattle.media_rows.specs.Snapshot.{library_of, with_row}
use Rattle.media_journal.specs.declared.header.Header.{Header}
use Rattle.media_journal.specs.declared.record.Record.{Record}
use Rattle.library_laws.specs.MediaLaws.{IsGoodArchive}
use Rattle.library_laws.proofs.ChangeFacts.{store_stays}
use Rattle.library_laws.proofs.ChangesKept.{good_is_tested}
use Rattle.library_laws.proofs.SoundLemmas.{applied_is_sound}
use Rattle.store_states.specs.Held.{archive_in}
use Rattle.store_states.specs.Laws.{IsUnder, LibrariesAreGood, OldStatesHaveDigests, StatesAreGood}
use Rattle.store_states.specs.States.{Folds, IsSnapshot, IsTextOf, Makes, StandsBy, StepOf, StoreState, blocks_before, held_in, library_in, media_start}
use Rattle.store_states.proofs.Digested.{blocks_in, digests_held, good_in}
use Rattle.store_states.proofs.Held.{lengths_held}

-- ---- one change

applied_by : (change : Change) (from next : Library) (b : Bool) → applies from change ≡ b → cond b (Some (after change from)) None ≡ Some next
    → is_good next ≡ true
applied_by change from next true is made =
    let same : after change from ≡ next = cc in
    ap is_good (sym same) ∙ (and_parts (is_moment (moment_of change) && is_allowed from change) (is_good (after change from)) is).1
applied_by change from next false is made = cc

step_good : (form : ℕ) (payload : List ℕ) (from next : Library) → StepOf form payload from next → is_good next ≡ true
step_good form payload from next step = applied_by step.change from next (applies from step.change) refl step.made

step_under : (form : ℕ) (h : Header) (payload : List ℕ) (from next : Library) → StepOf form payload from next → IsUnder h from → IsUnder h next
step_under form h payload from next step under =
    let gives = (applied_is_sound from step.change next step.made).gives in
    let stays = store_stays from step.change in
    record { id = ap (λ (x : Library). x.id) gives ∙ stays.id ∙ under.id; blocks = ap (λ (x : Library). x.blocks) gives ∙ stays.blocks ∙ under.blocks }

-- ---- records and rows

folds_good : (form : ℕ) (h : Header) (records : List Record) (from to : Library) → is_good from ≡ true → IsUnder h from → Folds form records from to
    → (is_good to ≡ true) × IsUnder h to
folds_good form h [] from to good under e = (ap is_good e ∙ good, subst (λ (x : Library). IsUnder h x) (sym e) under)
folds_good form h (r ∷ records) from to good under folds =
    folds_good form h records folds.0 to (step_good form r.payload from folds.0 folds.1) (step_under form h r.payload from folds.0 folds.1 under) folds.2

one_under : (row : Row) (library : Library) → ((with_row row library).id ≡ library.id) × ((with_row row library).blocks ≡ library.blocks)
one_under (rows.Source row) library = (refl, refl)
one_under (rows.Flow row) library = (refl, refl)
one_under (rows.Object row) library = (refl, refl)
one_under (rows.Segment row) library = (refl, refl)
one_under (rows.Request row) library = (refl, refl)
one_under (rows.Hook row) library = (refl, refl)
one_under (rows.Event row) library = (refl, refl)
one_under (rows.Numbers next) library = (refl, refl)

rows_under : (id blocks : ℕ) (some : List Row) → ((library_of id blocks some).id ≡ id) × ((library_of id blocks some).blocks ≡ blocks)
rows_under id blocks [] = (refl, refl)
rows_under id blocks (row ∷ some) =
    let one = one_under row (library_of id blocks some) in
    let all = rows_under id blocks some in
    (one.0 ∙ all.0, one.1 ∙ all.1)

pub libraries_are_good : LibrariesAreGood
libraries_are_good form h text records library makes =
    let first = rows_under h.id (h.blocks - blocks_before h.half) makes.snapshot.rows in
    let under : IsUnder h makes.first = record {
      id = ap (λ (x : Library). x.id) makes.snapshot.made ∙ first.0;
      blocks = ap (λ (x : Library). x.blocks) makes.snapshot.made ∙ first.1;
    } in
    let made = folds_good form h records makes.first library makes.snapshot.good under makes.folds in
    ((good_is_tested library).0 made.0, made.1)

-- ---- states

pub states_are_good : StatesAreGood
states_are_good form image s stands =
    let area = media_start stands.header.half in
    let made = libraries_are_good form stands.header stands.text stands.records stands.made stands.makes in
    let good : Good s.archive.library = subst Good (sym stands.library) (good_in form image area stands.made made.0) in
    let blocks : s.archive.library.blocks ≡ stands.header.blocks - blocks_before stands.header.half =
    ap (λ (x : Library). x.blocks) stands.library ∙ blocks_in form image area stands.made ∙ made.1.blocks in
    let sizes = stands.reads.sizes in
    let there : media_start stands.header.half + 4096 * s.archive.library.blocks ≤ length image =
    omega (arith, blocks, sizes.fits, sizes.within) in
    record {
      good = good;
      held = ap (λ (bytes : List (List ℕ)). is_held (record { library = s.archive.library; held = bytes })) stands.held
          ∙ lengths_held image (media_start stands.header.half) s.archive.library good there;
    }

pub old_states_have_digests : OldStatesHaveDigests
old_states_have_digests image s stands =
    let area = media_start stands.header.half in
    let good = (states_are_good 1 image s stands).good in
    subst (λ (held : List (List ℕ)). HasDigests (record { library = s.archive.library; held = held })) (sym stands.held)
    (digests_held image area stands.made s.archive.library good stands.library)

-- ---- the text of what is kept

-- the text of a library that a header's journal makes is one of that header
pub text_under : (h : Header) (old rows : List ℕ) (records : List Record) (library : Library) → Makes form_in_use h old records library
    → IsTextOf form_in_use library.id library.blocks rows library → IsSnapshot form_in_use h rows library
text_under h old rows records library makes text =
    let under = (libraries_are_good form_in_use h old records library makes).1 in
    subst (λ (n : ℕ). IsTextOf form_in_use n (h.blocks - blocks_before h.half) rows library) under.id
    (subst (λ (n : ℕ). IsTextOf form_in_use library.id n rows library) under.blocks text)
