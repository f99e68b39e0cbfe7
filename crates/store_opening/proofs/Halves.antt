-- What an image reads as: its header, and the form, rows and whole records of its active half.
use Rattle.std.proofs.Common.{◌≡◌, ◌<◌, ◌≤◌, ◌+◌, ◌^◌, ℕ, List, [], ◌∷◌, length, Option, Some, None, Ok, Err, subst, arith, refl}
use Rattle.media_journal.specs.declared.header.Header.{Header}
use Rattle.media_journal.specs.declared.record.Record.{Record}
use Rattle.media_journal.specs.declared.open.Opened.{Opened}
use Rattle.media_journal.specs.declared.fault.JournalFault.TheVariants.{Damaged}
use Rattle.media_journal.specs.File.{AreRecords, ReadsTorn, active_start}
use Rattle.media_journal.specs.Journal.{Gives}
use Rattle.media_journal.specs.Opening.{DamagedAt, IsOpened, IsStore, OpenedHalf, contents_of, header_of}
use Rattle.media_journal.specs.Readings.{HasOneAnswer}
use Rattle.media_journal.proofs.OpeningLemmas.{damaged_unreadable}
use Rattle.media_journal.proofs.ReadingLemmas.{HasReading, gives_reads, one_of_both, torn_reading, whole_reading}
use Rattle.store_opening.specs.Opening.{ReadsHalf, Closed, Torn}
use Rattle.media_journal.proofs.AppendLemmas.{active_start-most}

reading_of : (image : List ℕ) (h : Header) (form : ℕ) (text : List ℕ) (records : List Record) → ReadsHalf image h form text records
    → (gate : ℕ) × HasReading image h gate form text records
reading_of image h form text records (Closed gate reads) = (gate, whole_reading image h gate form text records reads)
reading_of image h form text records (Torn at reads) = (at, torn_reading image h at form text records reads)

-- two readings of an image are one
pub record IsOneHalf (h j : Header) (form again : ℕ) (rows other : List ℕ) (some found : List Record) : Type 0 where
  pub header : j ≡ h
  pub is : again ≡ form
  pub text : other ≡ rows
  pub records : found ≡ some

pub one_half : (image : List ℕ) (h j : Header) (form again : ℕ) (text other : List ℕ) (records found : List Record) → ReadsHalf image h form text records
    → ReadsHalf image j again other found → IsOneHalf h j form again text other records found
one_half image h j form again text other records found first second =
    let a = reading_of image h form text records first in
    let b = reading_of image j again other found second in
    let same = one_of_both image h j a.0 b.0 form again text other records found a.1 b.1 in
    record { header = same.0; is = same.2; text = same.3; records = same.4 }

-- what is opened of an image that reads up to a torn record
abbrev torn_opened : List ℕ → Header → ℕ → ℕ → List ℕ → List Record → Opened
torn_opened image h at form text records = record {
  journal = record { blocks = h.blocks; half = h.half; start = active_start image h.half; gate = at; room = 0 };
  form = form;
  rows = text;
  found = records;
  torn = Some at;
  blocks = h.blocks;
  half = h.half;
  id = h.id;
  rows_at = active_start image h.half + 8;
}

is_torn_opened : (image : List ℕ) (h : Header) (at form : ℕ) (text : List ℕ) (records : List Record) → IsStore image
    → ReadsTorn image h at form text records → IsOpened image (torn_opened image h at form text records)
is_torn_opened image h at form text records store reads = record {
  store = store;
  header = reads.header;
  sizes = reads.sizes;
  blocks = refl;
  half_blocks = refl;
  start = refl;
  rows_at = refl;
  half = record { reads = reads; gate = refl; room = refl };
}

-- the image of a store whose half reads isn't damaged in its header, or in the form of its half or the
-- length of its rows
pub half_undamaged : (image : List ℕ) (h : Header) (form : ℕ) (text : List ℕ) (records : List Record) (at : ℕ) → HasOneAnswer image → IsStore image
    → ReadsHalf image h form text records → DamagedAt image at → ⊥
half_undamaged image h form text records at law store (Closed gate reads) damage = damaged_unreadable image at damage h gate form text records reads
half_undamaged image h form text records at law store (Torn torn reads) damage =
    let o = torn_opened image h torn form text records in
    let same : Err (Damaged at) ≡ Ok o = law (Ok o) (Err (Damaged at)) tt tt (is_torn_opened image h torn form text records store reads) (store, damage) in
    cc

-- ---- what was opened

-- what was opened has its rows and records
pub opened_half : (image : List ℕ) (o : Opened) → IsOpened image o → ReadsHalf image (header_of o) o.form o.rows o.found
opened_half image o is = by o.torn is.half
  where
    by : (torn : Option ℕ) → OpenedHalf image o torn → ReadsHalf image (header_of o) o.form o.rows o.found
    by None half = Closed o.journal.gate (gives_reads image o.journal (contents_of o) half)
    by (Some at) half = Torn at half.reads

-- where no record was torn, and where one was
pub opened_whole : (image : List ℕ) (o : Opened) → o.torn ≡ None → IsOpened image o → Gives image o.journal (contents_of o)
opened_whole image o whole is = subst (OpenedHalf image o) whole is.half

pub opened_torn : (image : List ℕ) (o : Opened) (at : ℕ) → o.torn ≡ Some at → IsOpened image o → ReadsTorn image (header_of o) at o.form o.rows o.found
opened_torn image o at torn is =
    let half : OpenedHalf image o (Some at) = subst (OpenedHalf image o) torn is.half in
    half.reads

chain_end : (image : List ℕ) (from : ℕ) (records : List Record) (to : ℕ) → AreRecords image from records to → from ≤ to
chain_end image from [] to e = omega (arith, e)
chain_end image from (r ∷ records) to h = omega (arith, chain_end image (from + (5 + length r.payload)) records to h.2)

-- the rows end in a file of the longest halves
rows_end : (image : List ℕ) (h : Header) (form : ℕ) (text : List ℕ) (records : List Record) → ReadsHalf image h form text records
    → active_start image h.half + 8 + length text < 2 ^ 63
rows_end image h form text records (Closed gate reads) =
    omega (arith, chain_end image _ records gate reads.half.chain, reads.half.within, reads.sizes.half, active_start-most image h.half)
rows_end image h form text records (Torn at reads) =
    omega (arith, chain_end image _ records at reads.half.chain, reads.half.within, reads.sizes.half, active_start-most image h.half)

pub rows_within : (image : List ℕ) (o : Opened) → IsOpened image o → o.rows_at + length o.rows < 2 ^ 63
rows_within image o is = omega (arith, is.rows_at, rows_end image (header_of o) o.form o.rows o.found (opened_half image o is))
