-- An image gives one reading: what was found of it is all that any reading of it says.
use Rattle.std.proofs.Common.{◌≡◌, ◌<◌, ◌≤◌, ◌+◌, ◌*◌, ◌/◌, ◌%◌, ◌^◌, ◌⊎◌, inl, inr, ℕ, Bool, true, false, List, [], ◌∷◌, ◌++◌, length, take, drop, get_or, refl, sym, ap, ap₂, ◌∙◌, subst, arith}
use Rattle.std.proofs.Math.Seq.{take-append_seam}
use Rattle.disk_trait.specs.Calls.{bytes_at}
use Rattle.disk_trait.specs.Forms.{IsForm}
use Rattle.disk_trait.specs.Numbers.{u32_bytes, u64_bytes}
use Rattle.disk_trait.proofs.NumberLemmas.{length-u32_bytes, length-u64_bytes, same_u32, same_u64, same_rest}
use Rattle.disk_trait.proofs.OverwriteLemmas.{bytes_at-add, bytes_at-bytes_at, get_or-bytes_at}
use Rattle.media_journal.specs.declared.header.Header.{Header}
use Rattle.media_journal.specs.declared.record.Record.{Record}
use Rattle.media_journal.specs.File.{IsOpenGate, IsClosedGate, IsHeader, IsRecordAt, IsTornAt, AreRecords, HasHalf, HasTornHalf, HasOtherForm, HasLongRows, Reads, ReadsTorn, active_start, half_number, mark, record_text, rows_text}
use Rattle.media_journal.specs.Journal.{Contents, Position, Gives}
use Rattle.media_journal.specs.Within.Scan.{IsChain, HalfFound}
use Rattle.media_journal.proofs.ChainLemmas.{chain_bounds}
use Rattle.media_journal.proofs.HeaderLemmas.{one_header}
use Rattle.media_journal.proofs.ScanLemmas.{record_length}

-- a record's gate is open
record_gate : (image : List ℕ) (at : ℕ) (payload : List ℕ) → IsRecordAt image at payload → IsOpenGate image at
unfolding record_text
record_gate image at payload h =
    let here : at + 0 ≡ at = omega arith in
    rw here at (sym (get_or-bytes_at image at (5 + length payload) 0 0 (omega arith))) ∙ ap (λ text. get_or text 0 0) h.text

-- two records at one place have the same payload
one_payload : (image : List ℕ) (at : ℕ) (p q : List ℕ) → IsRecordAt image at p → IsRecordAt image at q → p ≡ q
unfolding record_text
one_payload image at p q first second =
    let size : length p ≡ length q =
    same_u32 (length p) (length q) first.short second.short (sym (record_length image at p first) ∙ record_length image at q second) in
    let texts : u32_bytes (length p) ++ p ≡ u32_bytes (length q) ++ q =
    ap (drop 1) (sym first.text ∙ ap (λ n. bytes_at image at (5 + n)) size ∙ second.text) in
    same_rest 4 (u32_bytes (length p)) p (u32_bytes (length q)) q (length-u32_bytes (length p)) (length-u32_bytes (length q)) texts

-- no record that ends within the half stands at this place
pub record Stops (image : List ℕ) (at end : ℕ) : Type 0 where
  pub none : (payload : List ℕ) → IsRecordAt image at payload → end ≤ at + (5 + length payload)

closed_stops : (image : List ℕ) (at end : ℕ) → IsClosedGate image at → Stops image at end
closed_stops image at end closed = record { none = λ payload h. absurd (closed (record_gate image at payload h)) }

torn_stops : (image : List ℕ) (at end : ℕ) → IsTornAt image at end → Stops image at end
torn_stops image at end torn = record {
  none = λ payload h. let passes = torn.passes (length payload) h.short (record_length image at payload h) in omega arith;
}

-- the records from one place on up to a place where none ends within the half are one list
one_chain : (image : List ℕ) (end from : ℕ) (rs qs : List Record) (g k : ℕ) → AreRecords image from rs g → g < end → Stops image g end
    → AreRecords image from qs k → k < end → Stops image k end → (k ≡ g) × (qs ≡ rs)
one_chain image end from [] [] g k first low stop second high halt = (sym second ∙ first, refl)
one_chain image end from [] (q ∷ qs) g k first low stop second high halt =
    let here = subst (λ (at : ℕ). Stops image at end) (sym first) stop in
    let passes = here.none q.payload second.1 in
    let fits = chain_bounds image (from + (5 + length q.payload)) qs k second.2 in
    absurd (omega arith)
one_chain image end from (r ∷ rs) [] g k first low stop second high halt =
    let here = subst (λ (at : ℕ). Stops image at end) (sym second) halt in
    let passes = here.none r.payload first.1 in
    let fits = chain_bounds image (from + (5 + length r.payload)) rs g first.2 in
    absurd (omega arith)
one_chain image end from (r ∷ rs) (q ∷ qs) g k first low stop second high halt =
    let payload : r.payload ≡ q.payload = one_payload image from r.payload q.payload first.1 second.1 in
    let tail = subst (λ (p : List ℕ). AreRecords image (from + (5 + length p)) qs k) (sym payload) second.2 in
    let more = one_chain image end (from + (5 + length r.payload)) rs qs g k first.2 low stop tail high halt in
    let same : q ≡ r =
    ap₂ (λ (o : ℕ) (p : List ℕ). let s : Record = record { offset = o; payload = p } in s) (second.0 ∙ sym first.0) (sym payload) in
    (more.0, ap₂ ◌∷◌ same more.1)

-- ---- the first eight bytes of a half

-- the bytes of the two forms
marked : (form : ℕ) → IsForm form → ((form ≡ 1) × (mark form ≡ 0)) ⊎ ((form ≡ 2) × (mark form ≡ 2))
marked form (inl e) = inl (e, ap mark e)
marked form (inr e) = inr (e, ap mark e)

-- the byte of a form stands before seven bytes
mark_most : (form : ℕ) → IsForm form → mark form ≤ 2
mark_most form is = elim (marked form is) [ inl a ↦ omega (arith, a.1) | inr b ↦ omega (arith, b.1) ]

number_fits : (form n : ℕ) → IsForm form → n < 2 ^ 56 → half_number form n < 2 ^ 64
number_fits form n is short = omega (arith, mark_most form is)

-- a number says one form, and one length
number_mark : (m n k l : ℕ) → n < 2 ^ 56 → l < 2 ^ 56 → m * 2 ^ 56 + n ≡ k * 2 ^ 56 + l → (m ≡ k) × (n ≡ l)
number_mark m n k l short few e = (omega arith, omega arith)

one_number : (a b n l : ℕ) → IsForm a → IsForm b → n < 2 ^ 56 → l < 2 ^ 56 → half_number a n ≡ half_number b l → (a ≡ b) × (n ≡ l)
one_number a b n l is also short few e =
    let same = number_mark (mark a) n (mark b) l short few e in (
      elim (marked a is) [
        | inl x ↦ elim (marked b also) [ inl y ↦ x.0 ∙ sym y.0 | inr y ↦ absurd (omega (arith, x.1, y.1, same.0)) ]
        | inr x ↦ elim (marked b also) [ inl y ↦ absurd (omega (arith, x.1, y.1, same.0)) | inr y ↦ x.0 ∙ sym y.0 ]
      ],
      same.1,
    )

-- the byte of the form is the first of the number's
number_form : (form n : ℕ) → n < 2 ^ 56 → half_number form n / 2 ^ 56 ≡ mark form
number_form form n short = omega arith

-- a number is that of its first byte and its seven others
pub number_parts : (form number : ℕ) → number / 2 ^ 56 ≡ mark form → half_number form (number % 2 ^ 56) ≡ number
number_parts form number e = omega (arith, e)

-- what a half has, whole or torn: its form, its rows, and the records up to a place where none ends within it
pub record HasPart (image : List ℕ) (start end gate form : ℕ) (rows : List ℕ) (records : List Record) : Type 0 where
  pub is : IsForm form
  pub text : bytes_at image start (8 + length rows) ≡ rows_text form rows
  pub few : length rows < 2 ^ 56
  pub chain : AreRecords image (start + (8 + length rows)) records gate
  pub stop : Stops image gate end
  pub within : gate < end

whole_part : (image : List ℕ) (start end gate form : ℕ) (rows : List ℕ) (records : List Record) → HasHalf image start end gate form rows records
    → HasPart image start end gate form rows records
whole_part image start end gate form rows records h =
    record { is = h.is; text = h.text; few = h.few; chain = h.chain; stop = closed_stops image gate end h.closed; within = h.within }

torn_part : (image : List ℕ) (start end at form : ℕ) (rows : List ℕ) (records : List Record) → HasTornHalf image start end at form rows records
    → HasPart image start end at form rows records
torn_part image start end at form rows records h =
    record { is = h.is; text = h.text; few = h.few; chain = h.chain; stop = torn_stops image at end h.torn; within = h.within }

-- the form and the length of the rows stand at the half's start
part_number : (image : List ℕ) (start end gate form : ℕ) (rows : List ℕ) (records : List Record) → HasPart image start end gate form rows records
    → bytes_at image start 8 ≡ u64_bytes (half_number form (length rows))
unfolding rows_text
part_number image start end gate form rows records h =
    let here : start + 0 ≡ start = omega arith in
    rw here at (sym (bytes_at-bytes_at image start (8 + length rows) 0 8 (omega arith)))
    ∙ ap (λ text. bytes_at text 0 8) h.text
    ∙ ap (λ n. take n (u64_bytes (half_number form (length rows)) ++ rows)) (sym (length-u64_bytes (half_number form (length rows))))
    ∙ take-append_seam (u64_bytes (half_number form (length rows))) rows

-- a half of no form is none
part_form : (image : List ℕ) (start end gate form : ℕ) (rows : List ℕ) (records : List Record) → HasOtherForm image start
    → HasPart image start end gate form rows records → ⊥
part_form image start end gate form rows records wrong h =
    let same : wrong.number ≡ half_number form (length rows) =
    same_u64 wrong.number (half_number form (length rows)) wrong.short (number_fits form (length rows) h.is h.few)
    (sym wrong.text ∙ part_number image start end gate form rows records h) in
    wrong.other form h.is (ap (λ n. n / 2 ^ 56) same ∙ number_form form (length rows) h.few)

-- rows whose length passes the end are none
part_fits : (image : List ℕ) (start end gate form : ℕ) (rows : List ℕ) (records : List Record) → HasLongRows image start end
    → HasPart image start end gate form rows records → ⊥
part_fits image start end gate form rows records long h =
    let number : half_number long.form long.size ≡ half_number form (length rows) =
    same_u64 (half_number long.form long.size) (half_number form (length rows)) (number_fits long.form long.size long.is long.short)
    (number_fits form (length rows) h.is h.few) (sym long.text ∙ part_number image start end gate form rows records h) in
    let same = one_number long.form form long.size (length rows) long.is h.is long.short h.few number in
    omega (arith, same.1, long.passes, chain_bounds image (start + (8 + length rows)) records gate h.chain, h.within)

-- two parts of one half are one
one_part : (image : List ℕ) (start end g k form again : ℕ) (rows other : List ℕ) (rs qs : List Record) → HasPart image start end g form rows rs
    → HasPart image start end k again other qs → (k ≡ g) × (again ≡ form) × (other ≡ rows) × (qs ≡ rs)
unfolding rows_text
one_part image start end g k form again rows other rs qs first second =
    let number : half_number again (length other) ≡ half_number form (length rows) =
    same_u64 (half_number again (length other)) (half_number form (length rows)) (number_fits again (length other) second.is second.few)
    (number_fits form (length rows) first.is first.few)
    (sym (part_number image start end k again other qs second) ∙ part_number image start end g form rows rs first) in
    let parts = one_number again form (length other) (length rows) second.is first.is second.few first.few number in
    let size : length other ≡ length rows = parts.1 in
    let texts : u64_bytes (half_number again (length other)) ++ other ≡ u64_bytes (half_number form (length rows)) ++ rows =
    sym second.text ∙ ap (λ n. bytes_at image start (8 + n)) size ∙ first.text in
    let chain = subst (λ (n : ℕ). AreRecords image (start + (8 + n)) qs k) size second.chain in
    let same = one_chain image end (start + (8 + length rows)) rs qs g k first.chain first.within first.stop chain second.within second.stop in (
      same.0,
      parts.0,
      same_rest 8 (u64_bytes (half_number again (length other))) other (u64_bytes (half_number form (length rows))) rows
          (length-u64_bytes (half_number again (length other))) (length-u64_bytes (half_number form (length rows))) texts,
      same.1,
    )

-- what an image reads as, whole or torn
pub record HasReading (image : List ℕ) (h : Header) (gate form : ℕ) (rows : List ℕ) (records : List Record) : Type 0 where
  pub header : IsHeader image h
  pub part : HasPart image (active_start image h.half) (active_start image h.half + 4096 * h.half) gate form rows records

pub whole_reading : (image : List ℕ) (h : Header) (gate form : ℕ) (rows : List ℕ) (records : List Record) → Reads image h gate form rows records
    → HasReading image h gate form rows records
whole_reading image h gate form rows records reads =
    record { header = reads.header; part = whole_part image _ _ gate form rows records reads.half }

pub torn_reading : (image : List ℕ) (h : Header) (at form : ℕ) (rows : List ℕ) (records : List Record) → ReadsTorn image h at form rows records
    → HasReading image h at form rows records
torn_reading image h at form rows records reads =
    record { header = reads.header; part = torn_part image _ _ at form rows records reads.half }

-- the active half of one header is that of another
same_active : (image : List ℕ) (h j : Header) (gate form : ℕ) (rows : List ℕ) (records : List Record) → IsHeader image h
    → HasReading image j gate form rows records
    → HasPart image (active_start image h.half) (active_start image h.half + 4096 * h.half) gate form rows records
same_active image h j gate form rows records header reads =
    subst (λ (x : Header). HasPart image (active_start image x.half) (active_start image x.half + 4096 * x.half) gate form rows records)
    (one_header image j h reads.header header) reads.part

-- two readings of an image are one
pub one_of_both : (image : List ℕ) (h j : Header) (g k form again : ℕ) (rows other : List ℕ) (rs qs : List Record) → HasReading image h g form rows rs
    → HasReading image j k again other qs → (j ≡ h) × (k ≡ g) × (again ≡ form) × (other ≡ rows) × (qs ≡ rs)
one_of_both image h j g k form again rows other rs qs first second =
    let same = one_part image _ _ g k form again rows other rs qs first.part (same_active image h j k again other qs first.header second) in
    (one_header image j h second.header first.header, same.0, same.1, same.2, same.3)

pub one_reading : (image : List ℕ) (h j : Header) (g k form again : ℕ) (rows other : List ℕ) (rs qs : List Record) → Reads image h g form rows rs
    → Reads image j k again other qs → (j ≡ h) × (k ≡ g) × (again ≡ form) × (other ≡ rows) × (qs ≡ rs)
one_reading image h j g k form again rows other rs qs first second =
    one_of_both image h j g k form again rows other rs qs (whole_reading image h g form rows rs first) (whole_reading image j k again other qs second)

pub one_torn_reading : (image : List ℕ) (h j : Header) (g k form again : ℕ) (rows other : List ℕ) (rs qs : List Record) → ReadsTorn image h g form rows rs
    → ReadsTorn image j k again other qs → (j ≡ h) × (k ≡ g) × (again ≡ form) × (other ≡ rows) × (qs ≡ rs)
one_torn_reading image h j g k form again rows other rs qs first second =
    one_of_both image h j g k form again rows other rs qs (torn_reading image h g form rows rs first) (torn_reading image j k again other qs second)

-- an image doesn't read both whole and torn: at one place its gate is closed and open
pub torn_or_whole : (image : List ℕ) (h j : Header) (at k form again : ℕ) (rows other : List ℕ) (rs qs : List Record) → ReadsTorn image h at form rows rs
    → Reads image j k again other qs → ⊥
torn_or_whole image h j at k form again rows other rs qs torn whole =
    let same = one_of_both image h j at k form again rows other rs qs (torn_reading image h at form rows rs torn)
    (whole_reading image j k again other qs whole) in
    whole.half.closed (subst (λ (x : ℕ). IsOpenGate image x) (sym same.1) torn.half.torn.gate)

-- a form that is none, and rows whose length passes the active half, leave no reading
pub no_reading : (image : List ℕ) (h j : Header) (gate form : ℕ) (rows : List ℕ) (records : List Record) → IsHeader image h
    → HasOtherForm image (active_start image h.half)
    ⊎ HasLongRows image (active_start image h.half) (active_start image h.half + 4096 * h.half) → HasReading image j gate form rows records → ⊥
no_reading image h j gate form rows records header (inl other) reads =
    part_form image _ _ gate form rows records other (same_active image h j gate form rows records header reads)
no_reading image h j gate form rows records header (inr long) reads =
    part_fits image _ _ gate form rows records long (same_active image h j gate form rows records header reads)

-- the form, the length and the rows make the text of the rows
rows_found : (image : List ℕ) (start form n : ℕ) (rows : List ℕ) → length rows ≡ n → u64_bytes (half_number form n) ≡ bytes_at image start 8
    → rows ≡ bytes_at image (start + 8) n → bytes_at image start (8 + length rows) ≡ rows_text form rows
unfolding rows_text
rows_found image start form n rows size prefix text =
    rw size (bytes_at-add image start 8 n ∙ ap₂ ◌++◌ (sym prefix) (sym text))

-- the form, the length, the rows and the chain make a half, by the way in which its records end
pub half_found : (image : List ℕ) (start end gate form n : ℕ) (torn : Bool) (rows : List ℕ) (found : List Record) → IsForm form → n < 2 ^ 56
    → length rows ≡ n → u64_bytes (half_number form n) ≡ bytes_at image start 8 → rows ≡ bytes_at image (start + 8) n → IsChain image (start + (8 + n)) end gate torn found
    → HalfFound image start end gate form rows found torn
half_found image start end gate form n true rows found is short size prefix text h = record {
  is = is;
  text = rows_found image start form n rows size prefix text;
  few = omega arith;
  chain = rw size h.chain;
  torn = h.ends;
  within = h.within;
}
half_found image start end gate form n false rows found is short size prefix text h = record {
  is = is;
  text = rows_found image start form n rows size prefix text;
  few = omega arith;
  chain = rw size h.chain;
  closed = h.ends;
  within = h.within;
}

-- an image that gives a journal something reads as a store
pub gives_reads : (image : List ℕ) (p : Position) (held : Contents) → Gives image p held → Reads image held.header p.gate held.form held.rows held.records
gives_reads image p held g = record {
  header = g.half.header;
  sizes = g.half.sizes;
  half = subst (λ (start : ℕ). HasHalf image start (start + 4096 * held.header.half) p.gate held.form held.rows held.records) g.active g.half.half;
}
