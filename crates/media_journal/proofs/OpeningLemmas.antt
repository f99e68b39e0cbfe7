-- What was read of an image decides what opening answers.
use Rattle.std.proofs.Common.{◌≡◌, ◌≤◌, ◌+◌, ◌*◌, ◌⊎◌, ℕ, List, length, take, Err, inl, inr, refl, sym, ap, ◌∙◌, subst, arith}
use Rattle.std.proofs.Math.Seq.{take-append_seam}
use Rattle.disk_trait.specs.Calls.{bytes_at}
use Rattle.disk_trait.proofs.OverwriteLemmas.{bytes_at-bytes_at}
use Rattle.media_journal.specs.declared.header.Header.{Header}
use Rattle.media_journal.specs.declared.record.Record.{Record}
use Rattle.media_journal.specs.declared.fault.JournalFault.{JournalFault}
use Rattle.media_journal.specs.declared.fault.JournalFault.TheVariants.{NotStore, Damaged, OldForm, Disk, Memory}
use Rattle.media_journal.specs.File.{magic, header_text, IsHeader, AreSizes, HasOtherForm, HasLongRows, Reads, IsUnreadable, active_start}
use Rattle.media_journal.specs.Within.Scan.{HalfAnswer}
use Rattle.media_journal.specs.Opening.{IsStore, HasWrongSizes, HasWrongHalf, DamagedAt, OpenAnswer}
use Rattle.media_journal.proofs.HeaderLemmas.{one_header, length-magic}
use Rattle.media_journal.proofs.ReadingLemmas.{whole_reading, no_reading}

-- an image with a header begins as a store does
pub is_store : (image : List ℕ) (h : Header) → IsHeader image h → 20480 ≤ length image → IsStore image
unfolding header_text
is_store image h header size = record {
  size = size;
  header = record {
    begins =
        sym (bytes_at-bytes_at image 0 40 0 8 (omega arith))
        ∙ ap (λ text. bytes_at text 0 8) header.text
        ∙ ap (λ n. take n (header_text h)) (sym length-magic)
        ∙ take-append_seam magic _;
    gate = header.gate;
  };
}

pub reads_as_store : (image : List ℕ) (h : Header) (gate form : ℕ) (rows : List ℕ) (records : List Record) → Reads image h gate form rows records
    → IsStore image
reads_as_store image h gate form rows records reads =
    is_store image h reads.header (omega (arith, reads.sizes.some_half, reads.sizes.fits, reads.sizes.within))

-- numbers that the file can't have
pub damaged-sizes : (image : List ℕ) (h : Header) → IsHeader image h → ¬ (AreSizes h (length image)) → DamagedAt image 8
damaged-sizes image h header wrong = inl (refl, record { header = h; is = header; wrong = wrong })

-- a fault in reading the half
pub open_fault : (image : List ℕ) (h : Header) (start : ℕ) (fault : JournalFault) → IsHeader image h → 20480 ≤ length image → AreSizes h (length image)
    → start ≡ active_start image h.half → HalfAnswer image start (start + 4096 * h.half) (Err fault) → OpenAnswer image (Err fault)
open_fault image h start NotStore header size sizes place answer = absurd answer
open_fault image h start (Damaged at) header size sizes place answer = (
  is_store image h header size,
  inr (subst (λ (x : ℕ). HasWrongHalf image x) (sym answer.0) record {
    header = h;
    is = header;
    sizes = sizes;
    active = place;
    wrong = answer.1;
  }),
)
open_fault image h start OldForm header size sizes place answer = absurd answer
open_fault image h start Disk header size sizes place answer = tt
open_fault image h start Memory header size sizes place answer = tt

-- a damaged image doesn't read
unreadable-sizes : (image : List ℕ) → HasWrongSizes image → IsUnreadable image
unreadable-sizes image damage other gate form rows records reads =
    damage.wrong (subst (λ (x : Header). AreSizes x (length image)) (one_header image other damage.header reads.header damage.is) reads.sizes)

unreadable-half : (image : List ℕ) (start : ℕ) → HasWrongHalf image start → IsUnreadable image
unreadable-half image start damage other gate form rows records reads =
    let wrong = subst (λ (x : ℕ). HasOtherForm image x ⊎ HasLongRows image x (x + 4096 * damage.header.half)) damage.active damage.wrong in
    no_reading image damage.header other gate form rows records damage.is wrong (whole_reading image other gate form rows records reads)

pub damaged_unreadable : (image : List ℕ) (at : ℕ) → DamagedAt image at → IsUnreadable image
damaged_unreadable image at damage =
    elim damage [ inl sizes ↦ unreadable-sizes image sizes.1 | inr rows ↦ unreadable-half image at rows ]
