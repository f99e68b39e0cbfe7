-- An image has one answer.
use Rattle.std.proofs.Common.{◌≡◌, ◌+◌, ◌*◌, ◌⊎◌, ℕ, List, length, Option, Some, None, Result, Ok, Err, inl, inr, refl, sym, ap, ap₂, ◌∙◌, subst, arith}
use Rattle.media_journal.specs.declared.header.Header.{Header}
use Rattle.media_journal.specs.declared.record.Record.{Record}
use Rattle.media_journal.specs.declared.open.Opened.{Opened}
use Rattle.media_journal.specs.declared.fault.JournalFault.{JournalFault}
use Rattle.media_journal.specs.declared.fault.JournalFault.TheVariants.{NotStore, Damaged, OldForm, Disk, Memory}
use Rattle.media_journal.specs.Journal.{Position}
use Rattle.media_journal.specs.File.{IsHeader, AreSizes, HasOtherForm, HasLongRows, active_start}
use Rattle.media_journal.specs.Opening.{IsOpened, OpenedHalf, OpenAnswer, DamagedAt, contents_of, header_of}
use Rattle.media_journal.specs.Readings.{IsDecided}
use Rattle.media_journal.proofs.HeaderLemmas.{one_header}
use Rattle.media_journal.proofs.ReadingLemmas.{HasReading, gives_reads, whole_reading, torn_reading, one_reading, one_torn_reading, torn_or_whole, no_reading}

-- what was opened has its rows and records up to some place
reading_of : (image : List ℕ) (o : Opened) (torn : Option ℕ) → OpenedHalf image o torn → (gate : ℕ) × HasReading image (header_of o) gate o.form o.rows o.found
reading_of image o None h = (o.journal.gate, whole_reading image _ _ _ _ _ (gives_reads image o.journal (contents_of o) h))
reading_of image o (Some at) h = (at, torn_reading image _ _ _ _ _ h.reads)

-- two headers of an image have the same sizes
same_sizes : (image : List ℕ) (h j : Header) → IsHeader image h → IsHeader image j → AreSizes j (length image) → AreSizes h (length image)
same_sizes image h j first second sizes = subst (λ (x : Header). AreSizes x (length image)) (one_header image j h second first) sizes

-- a damaged image isn't opened
not_damaged : (image : List ℕ) (o : Opened) (at : ℕ) → IsOpened image o → DamagedAt image at → ⊥
not_damaged image o at is damage = elim damage [
  | inl sizes ↦ sizes.1.wrong (same_sizes image sizes.1.header (header_of o) sizes.1.is is.header is.sizes)
  | inr rows ↦
      let wrong = subst (λ (x : ℕ). HasOtherForm image x ⊎ HasLongRows image x (x + 4096 * rows.header.half)) rows.active rows.wrong in
      let reading = reading_of image o o.torn is.half in
      no_reading image rows.header (header_of o) reading.0 o.form o.rows o.found rows.is wrong reading.1
]

-- an image is damaged at one place
one_place : (image : List ℕ) (at k : ℕ) → DamagedAt image at → DamagedAt image k → k ≡ at
one_place image at k first second = elim first [
  | inl sizes ↦ elim second [
    | inl others ↦ others.0 ∙ sym sizes.0
    | inr rows ↦ absurd (sizes.1.wrong (same_sizes image sizes.1.header rows.header sizes.1.is rows.is rows.sizes))
  ]
  | inr rows ↦ elim second [
    | inl sizes ↦ absurd (sizes.1.wrong (same_sizes image sizes.1.header rows.header sizes.1.is rows.is rows.sizes))
    | inr others ↦ others.active ∙ ap (λ (x : Header). active_start image x.half) (one_header image others.header rows.header others.is rows.is) ∙ sym
        rows.active
  ]
]

-- what two openings of an image have in common: all but what their headers say
record SameHalf (a b : Opened) (s t : Option ℕ) : Type 0 where
  torn : t ≡ s
  gate : b.journal.gate ≡ a.journal.gate
  room : b.journal.room ≡ a.journal.room
  form : b.form ≡ a.form
  rows : b.rows ≡ a.rows
  found : b.found ≡ a.found

same_half : (image : List ℕ) (a b : Opened) (s t : Option ℕ) → OpenedHalf image a s → OpenedHalf image b t → SameHalf a b s t
same_half image a b None None first second =
    let same = one_reading image _ _ _ _ _ _ _ _ _ _ (gives_reads image a.journal (contents_of a) first) (gives_reads image b.journal (contents_of b) second) in
    let half : b.half ≡ a.half = ap (λ (x : Header). x.half) same.0 in
    let start : active_start image b.half ≡ active_start image a.half = ap (active_start image) half in
    record {
      torn = refl;
      gate = same.1;
      room = omega (arith, first.half.room, second.half.room, first.active, second.active, half, start, same.1);
      form = same.2;
      rows = same.3;
      found = same.4;
    }
same_half image a b None (Some k) first second = absurd (torn_or_whole image _ _ _ _ _ _ _ _ _ _ second.reads (gives_reads image a.journal (contents_of a) first))
same_half image a b (Some at) None first second = absurd (torn_or_whole image _ _ _ _ _ _ _ _ _ _ first.reads (gives_reads image b.journal (contents_of b) second))
same_half image a b (Some at) (Some k) first second =
    let same = one_torn_reading image _ _ _ _ _ _ _ _ _ _ first.reads second.reads in
    record {
      torn = ap Some same.1;
      gate = second.gate ∙ same.1 ∙ sym first.gate;
      room = second.room ∙ sym first.room;
      form = same.2;
      rows = same.3;
      found = same.4;
    }

-- values with the same parts are one
same_position : (p q : Position) → q.blocks ≡ p.blocks → q.half ≡ p.half → q.start ≡ p.start → q.gate ≡ p.gate → q.room ≡ p.room → q ≡ p
same_position p q blocks half start gate room =
    let make : ℕ → ℕ → ℕ → ℕ → ℕ → Position = λ v w x y z. record { blocks = v; half = w; start = x; gate = y; room = z } in
    ap₂ (λ (v w : ℕ). make v w q.start q.gate q.room) blocks half
    ∙ ap₂ (λ (x y : ℕ). make p.blocks p.half x y q.room) start gate
    ∙ ap (λ (z : ℕ). make p.blocks p.half p.start p.gate z) room

same_opened : (a b : Opened) → b.journal ≡ a.journal → b.form ≡ a.form → b.rows ≡ a.rows → b.found ≡ a.found → b.torn ≡ a.torn → header_of b ≡ header_of a → b.rows_at ≡ a.rows_at
    → b ≡ a
same_opened a b journal form rows found torn header place =
    let make : Position → ℕ → List ℕ → List Record → Option ℕ → Header → ℕ → Opened =
    λ j v r f t h p. record { journal = j; form = v; rows = r; found = f; torn = t; blocks = h.blocks; half = h.half; id = h.id; rows_at = p } in
    ap₂ (λ (j : Position) (v : ℕ). make j v b.rows b.found b.torn (header_of b) b.rows_at) journal form
    ∙ ap₂ (λ (r : List ℕ) (f : List Record). make a.journal a.form r f b.torn (header_of b) b.rows_at) rows found
    ∙ ap₂ (λ (t : Option ℕ) (h : Header). make a.journal a.form a.rows a.found t h b.rows_at) torn header
    ∙ ap (λ (p : ℕ). make a.journal a.form a.rows a.found a.torn (header_of a) p) place

-- two openings of an image are one
one_opened : (image : List ℕ) (a b : Opened) → IsOpened image a → IsOpened image b → b ≡ a
one_opened image a b first second =
    let header = one_header image (header_of b) (header_of a) second.header first.header in
    let start : active_start image b.half ≡ active_start image a.half = ap (λ (x : Header). active_start image x.half) header in
    let blocks : b.blocks ≡ a.blocks = ap (λ (x : Header). x.blocks) header in
    let same = same_half image a b a.torn b.torn first.half second.half in
    let journal =
    same_position a.journal b.journal (second.blocks ∙ blocks ∙ sym first.blocks) (second.half_blocks ∙ ap (λ (h : Header). h.half) header ∙ sym
    first.half_blocks) (second.start ∙ start ∙ sym first.start) same.gate same.room in
    same_opened a b journal same.form same.rows same.found same.torn header (omega (arith, first.rows_at, second.rows_at, start))

-- two answers of an image are one
pub one_answer : (image : List ℕ) (answer other : Result Opened JournalFault) → IsDecided answer → IsDecided other → OpenAnswer image answer
    → OpenAnswer image other → other ≡ answer
one_answer image (Ok a) (Ok b) p q first second = ap Ok (one_opened image a b first second)
one_answer image (Ok a) (Err NotStore) p q first second = absurd (second first.store)
one_answer image (Ok a) (Err (Damaged k)) p q first second = absurd (not_damaged image a k first second.1)
one_answer image (Err NotStore) (Ok b) p q first second = absurd (first second.store)
one_answer image (Err NotStore) (Err NotStore) p q first second = refl
one_answer image (Err NotStore) (Err (Damaged k)) p q first second = absurd (first second.0)
one_answer image (Err (Damaged at)) (Ok b) p q first second = absurd (not_damaged image b at second first.1)
one_answer image (Err (Damaged at)) (Err NotStore) p q first second = absurd (second first.0)
one_answer image (Err (Damaged at)) (Err (Damaged k)) p q first second = ap (λ (x : ℕ). Err (Damaged x)) (one_place image at k first.1 second.1)
one_answer image (Err OldForm) other p q first second = absurd first
one_answer image answer (Err OldForm) p q first second = absurd second
one_answer image (Err Disk) other p q first second = absurd p
one_answer image (Err Memory) other p q first second = absurd p
one_answer image answer (Err Disk) p q first second = absurd q
one_answer image answer (Err Memory) p q first second = absurd q
