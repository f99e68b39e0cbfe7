-- What a crash leaves of a run of `format`.
use Rattle.std.proofs.Common.{◌≡◌, ◌+◌, ◌-◌, ◌⊎◌, ℕ, List, [], ◌∷◌, length, refl, sym, ap, ◌∙◌, subst, inl, inr, arith}
use Rattle.disk_trait.specs.Device.{Device, Left}
use Rattle.disk_trait.specs.Calls.{Elapses, Unchanged}
use Rattle.disk_trait.specs.Forms.{form_in_use}
use Rattle.disk_trait.specs.Numbers.{u32_bytes, u64_bytes}
use Rattle.field_codec.specs.Leaves.{u32_spelling, u64_spelling}
use Rattle.change_codec.specs.Rows.{row_spelling}
use Rattle.media_journal.specs.declared.header.Header.{Header}
use Rattle.media_journal.specs.File.{HasOpenHeader, Reads}
use Rattle.media_journal.specs.JournalMoments.{NoneOrNew}
use Rattle.media_rows.specs.declared.row.Row.TheVariants.{Numbers}
use Rattle.media_rows.specs.Library.{empty_library}
use Rattle.store_states.specs.States.{IsSnapshot, StandsFor, blocks_before}
use Rattle.store_commands.specs.Formatting.{empty_rows, formatted_state}
use Rattle.tams_outcomes.specs.Touching.{IsSettled}

length-empty_rows : length empty_rows ≡ 13
unfolding empty_rows row_spelling u32_spelling u64_spelling u32_bytes u64_bytes
length-empty_rows = refl

numbers_fit : (row_spelling form_in_use).meaning.fits (Numbers 1)
unfolding row_spelling u32_spelling u64_spelling u64_bytes
numbers_fit = ((omega arith, omega arith), tt)

-- they are the snapshot of the empty library
empty_snapshot : (h : Header) → IsSnapshot form_in_use h empty_rows (empty_library h.id (h.blocks - blocks_before h.half))
unfolding empty_rows
empty_snapshot h = record {
  rows = Numbers 1 ∷ [];
  spells = record { fit = (numbers_fit, tt); spelled = refl; rising = refl };
  numbered = refl;
  made = refl;
  good = refl;
}

-- the new store stands for the empty library
pub new_stands : (image : List ℕ) (h : Header) → Reads image h (8192 + (8 + length empty_rows)) form_in_use empty_rows [] → StandsFor image (formatted_state h)
new_stands image h reads = record {
  header = h;
  gate = 8192 + (8 + length empty_rows);
  text = empty_rows;
  records = [];
  reads = reads;
  made = empty_library h.id (h.blocks - blocks_before h.half);
  makes = record { first = empty_library h.id (h.blocks - blocks_before h.half); snapshot = empty_snapshot h; folds = refl };
  library = refl;
  held = refl;
  room = omega (arith, reads.half.chain, length-empty_rows, reads.sizes.some_half);
  half = refl;
}

-- what was left since the beginning where nothing was called
pub untouched_bare : (old new : Device) → Elapses Unchanged Unchanged old new → IsSettled old → ¬ (HasOpenHeader old.seen) → (p : Left)
    → new.left_since old.moment p → ¬ (HasOpenHeader p.image)
untouched_bare old new time settled bare p left = elim (time.since old.moment p (omega arith) left) [
  | inl was ↦ subst (λ (image : List ℕ). ¬ (HasOpenHeader image)) (sym (settled p was)) bare
  | inr from ↦ subst (λ (image : List ℕ). ¬ (HasOpenHeader image)) (sym (ap (λ (l : Left). l.image) from.2 ∙ settled from.0 from.1)) bare
]

-- no store, or the new one
pub formatting_each : (old new : Device) (h : Header) (ended : Left → Left → Type 0) → Elapses (NoneOrNew h empty_rows) ended old new → IsSettled old
    → ¬ (HasOpenHeader old.seen) → (p : Left) → new.left_since old.moment p → (¬ (HasOpenHeader p.image)) ⊎ StandsFor p.image (formatted_state h)
formatting_each old new h ended time settled bare p left = elim (time.since old.moment p (omega arith) left) [
  | inl was ↦ inl (subst (λ (image : List ℕ). ¬ (HasOpenHeader image)) (sym (settled p was)) bare)
  | inr from ↦ elim from.2.image [ inl none ↦ inl none | inr made ↦ inr (new_stands p.image h made.reads) ]
]
