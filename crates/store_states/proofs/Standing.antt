-- An image stands for one state at most.
use Rattle.std.proofs.Common.{◌≡◌, ◌+◌, ◌*◌, ℕ, List, refl, sym, ap, ap₂, ◌∙◌, arith, subst}
use Rattle.media_rows.specs.Library.{Library}
use Rattle.media_rows.specs.Media.{Archive}
use Rattle.media_journal.specs.declared.header.Header.{Header}
use Rattle.media_journal.specs.declared.record.Record.{Record}
use Rattle.media_journal.specs.File.{Reads, active_start}
use Rattle.media_journal.proofs.ReadingLemmas.{one_reading}
use Rattle.store_states.specs.States.{Folds, Makes, StandsBy, StoreState, held_in, library_in, media_start}
use Rattle.store_states.specs.Laws.{IsOneState}
use Rattle.store_states.proofs.Folding.{one_fold}
use Rattle.store_states.proofs.Snapshots.{one_snapshot}

pub one_making : (form : ℕ) (h : Header) (text : List ℕ) (records : List Record) (a b : Library) → Makes form h text records a → Makes form h text records b
    → b ≡ a
one_making form h text records a b first second =
    let same : second.first ≡ first.first = one_snapshot form h text first.first second.first first.snapshot second.snapshot in
    one_fold form records first.first a b first.folds (subst (λ (x : Library). Folds form records x b) same second.folds)

abbrev archive_of : Library → List (List ℕ) → Archive
archive_of library held = record { library = library; held = held }

abbrev state_of : Archive → ℕ → ℕ → StoreState
state_of archive room half = record { archive = archive; room = room; half = half }

same_state : (image : List ℕ) (h : Header) (gate : ℕ) (s other : StoreState)
    → other.archive.library ≡ s.archive.library
    → s.archive.held ≡ held_in image (media_start h.half) s.archive.library.objects
    → other.archive.held ≡ held_in image (media_start h.half) other.archive.library.objects
    → gate + s.room ≡ active_start image h.half + 4096 * h.half → gate + other.room ≡ active_start image h.half + 4096 * h.half
    → s.half ≡ 4096 * h.half → other.half ≡ 4096 * h.half → other ≡ s
same_state image h gate s other library held other_held room other_room half other_half =
    let rooms : other.room ≡ s.room = omega (arith, room, other_room) in
    let halves : other.half ≡ s.half = other_half ∙ sym half in
    let bytes : other.archive.held ≡ s.archive.held =
    other_held ∙ ap (λ (x : Library). held_in image (media_start h.half) x.objects) library ∙ sym held in
    let archives : other.archive ≡ s.archive = ap₂ archive_of library bytes in
    ap (λ (a : Archive). state_of a other.room other.half) archives ∙ ap₂ (state_of s.archive) rooms halves

module _ (image : List ℕ) (form again : ℕ) (s other : StoreState) (first : StandsBy form image s) (second : StandsBy again image other) where
  -- what the other state has, by the reading of the one
  record Same : Type 0 where
    makes : Makes form first.header first.text first.records second.made
    library : other.archive.library ≡ library_in form image (media_start first.header.half) second.made
    held : other.archive.held ≡ held_in image (media_start first.header.half) other.archive.library.objects
    room : first.gate + other.room ≡ active_start image first.header.half + 4096 * first.header.half
    half : other.half ≡ 4096 * first.header.half

  same_reading : Same
  same_reading =
      let same = one_reading image first.header second.header first.gate second.gate form again first.text second.text first.records second.records
      first.reads second.reads in
      record {
        makes = rw (← same.0, ← same.2, ← same.3, ← same.4) second.makes;
        library = rw (← same.0, ← same.2) second.library;
        held = rw (← same.0) second.held;
        room = rw (← same.0, ← same.1) second.room;
        half = rw (← same.0) second.half;
      }

pub one_state : IsOneState
one_state image form again s other first second =
    let same = same_reading image form again s other first second in
    let made = one_making form first.header first.text first.records first.made second.made first.makes same.makes in
    let library : other.archive.library ≡ s.archive.library =
    same.library ∙ ap (library_in form image (media_start first.header.half)) made ∙ sym first.library in
    same_state image first.header first.gate s other library first.held same.held first.room same.room first.half same.half
