-- What the writes of a checkpoint leave in an image.
use Rattle.std.proofs.Common.{◌≡◌, ◌<◌, ◌≤◌, ◌+◌, ◌-◌, ◌*◌, ◌/◌, ◌%◌, ◌==◌, ◌^◌, ◌⊎◌, ℕ, Bool, true, false, List, [], ◌∷◌, ◌++◌, length, get_or, slice_index, inl, inr, refl, subst, sym, ap, ◌∙◌, arith}
use Rattle.std.proofs.Common.{length-append, rules}
use Rattle.std.proofs.Math.Nat.{add-div_right}
use Rattle.std.proofs.Common.{ne_eqb}
use Rattle.std.proofs.lemmas.List.{places, same_lists}
use Rattle.std.specs.Prelude.{if◌then◌else◌}
use Rattle.disk_trait.specs.Forms.{form_in_use}
use Rattle.disk_trait.specs.Numbers.{u64_bytes}
use Rattle.disk_trait.proofs.NumberLemmas.{length-u64_bytes}
use Rattle.disk_trait.specs.Device.{Device, IsDevice, Left, may_leave, read_with}
use Rattle.disk_trait.specs.Calls.{Elapses, Follows, Torn, bytes_at, overwritten}
use Rattle.disk_trait.proofs.Theorems.{elapses_weaker}
use Rattle.disk_trait.proofs.TornLemmas.{bytes_before, bytes_behind, torn-overwritten, torn_itself}
use Rattle.disk_trait.proofs.OverwriteLemmas.{bytes_at-written, get_or-bytes_at, get_or-written, length-overwritten}
use Rattle.media_journal.specs.declared.checkpoint.TheConstants.{ROW_PIECE}
use Rattle.media_journal.specs.File.{HasHalf, active_start, half_number, rows_text}
use Rattle.media_journal.specs.Formatting.{half_text}
use Rattle.media_journal.specs.Journal.{Contents, Gives, HasInHalf, Position}
use Rattle.media_journal.specs.JournalMoments.{EachGives}
use Rattle.media_journal.specs.Checkpoint.{CheckpointEnds, GivesEither, HoldsBoth, KeepsOrSwitches, Switches, WritesOther, after_checkpoint, other_start, row_writes, selector_for, with_rows}
use Rattle.media_journal.specs.Within.Steps.{WithinWrites, WritesEnd}
use Rattle.media_journal.proofs.ChainLemmas.{chain_bounds, chain_kept_within}
use Rattle.media_journal.proofs.FormattingLemmas.{front-half_text, gate-half_text, length-half_text}

-- ---- a write that meets neither the header nor a half leaves what that half holds

module _ (at n : ℕ) (image other : List ℕ) (torn : Torn at n image other) where
  same_bytes : (i k : ℕ) → (i + k ≤ at) ⊎ (at + n ≤ i) → bytes_at other i k ≡ bytes_at image i k
  same_bytes i k (inl before) = bytes_before at n image other torn i k before
  same_bytes i k (inr behind) = bytes_behind at n image other torn i k behind

  same_byte : (i : ℕ) → (i + 1 ≤ at) ⊎ (at + n ≤ i) → get_or other i 0 ≡ get_or image i 0
  same_byte i place =
      let here : i + 0 ≡ i = omega arith in
      rw here at (sym (get_or-bytes_at other i 1 0 0 (omega arith)) ∙ ap (λ text. get_or text 0 0) (same_bytes i 1 place) ∙ get_or-bytes_at image i 1 0 0
      (omega arith))

  -- within a half that the write doesn't meet
  outside : (start gate i k : ℕ) → (gate + 1 ≤ at) ⊎ (at + n ≤ start) → start ≤ i → i + k ≤ gate + 1 → (i + k ≤ at) ⊎ (at + n ≤ i)
  outside start gate i k (inl behind) lower upper = inl (omega arith)
  outside start gate i k (inr before) lower upper = inr (omega arith)

  pub in_half_torn : (p : Position) (held : Contents) → 41 ≤ at → (p.gate + 1 ≤ at) ⊎ (at + n ≤ p.start) → HasInHalf image p held → HasInHalf other p held
  in_half_torn p held header place h =
      let rows = p.start + (8 + length held.rows) in
      let bound : rows ≤ p.gate = chain_bounds image rows held.records p.gate h.half.chain in
      record {
        header = record {
          gate = same_byte 40 (inl (omega arith)) ∙ h.header.gate;
          text = same_bytes 0 40 (inl (omega arith)) ∙ h.header.text;
          blocks = h.header.blocks;
          half = h.header.half;
          id = h.header.id;
        };
        sizes = rw torn.same_length h.sizes;
        half = record {
          is = h.half.is;
          text = same_bytes p.start (8 + length held.rows) (outside p.start p.gate p.start (8 + length held.rows) place (omega arith) (omega arith)) ∙
              h.half.text;
          few = h.half.few;
          chain = chain_kept_within image other rows held.records p.gate
              (λ i k lower upper. same_bytes i k (outside p.start p.gate i k place (omega arith) (omega arith))) h.half.chain;
          closed = λ one. h.half.closed (sym (same_byte p.gate (outside p.start p.gate p.gate 1 place (omega arith) (omega arith))) ∙ one);
          within = h.half.within;
        };
        room = h.room;
        blocks = h.blocks;
        half_blocks = h.half_blocks;
      }

  -- behind the selector, the image names the half that it named
  pub gives_torn : (p : Position) (held : Contents) → 4097 ≤ at → (p.gate + 1 ≤ at) ⊎ (at + n ≤ p.start) → Gives image p held → Gives other p held
  gives_torn p held behind place g = record {
    half = in_half_torn p held (omega arith) place g.half;
    active = g.active
        ∙ sym (ap (λ (byte : ℕ). if byte % 2 == 0 then 8192 else 8192 + 4096 * held.header.half) (same_byte 4096 (inl (omega arith))));
  }

-- ---- where the halves begin

-- a half begins at one of two places
active_places : (image : List ℕ) (half : ℕ) → (active_start image half ≡ 8192) ⊎ (active_start image half ≡ 8192 + 4096 * half)
active_places image half =
    elim (slice_index image 4096 % 2 == 0)
    as (λ b. ((if b then 8192 else 8192 + 4096 * half) ≡ 8192) ⊎ ((if b then 8192 else 8192 + 4096 * half) ≡ 8192 + 4096 * half))
    [ true ↦ inl refl | false ↦ inr refl ]

-- the journal's half is A and the other B, or the other way round
pub data Places (p : Position) : Type 0 where
  InA : p.start ≡ 8192 → other_start p ≡ 8192 + 4096 * p.half → Places p
  InB : p.start ≡ 8192 + 4096 * p.half → other_start p ≡ 8192 → Places p

not_first : (half : ℕ) → 1 ≤ half → (8192 + 4096 * half == 8192) ≡ false
not_first half some = ne_eqb (8192 + 4096 * half) 8192 (λ same. absurd (omega arith))

pub places_of : (p : Position) → 1 ≤ p.half → (p.start ≡ 8192) ⊎ (p.start ≡ 8192 + 4096 * p.half) → Places p
places_of p some (inl a) = InA a (ap (λ (s : ℕ). if s == 8192 then 8192 + 4096 * p.half else 8192) a)
places_of p some (inr b) =
    InB b (ap (λ (s : ℕ). if s == 8192 then 8192 + 4096 * p.half else 8192) b ∙ ap (λ (t : Bool). if t then 8192 + 4096 * p.half else 8192)
    (not_first p.half some))

-- the two halves don't meet
pub other_outside : (p : Position) (n : ℕ) → Places p → p.gate + 1 ≤ p.start + 4096 * p.half → 9 + n ≤ 4096 * p.half
    → (p.gate + 1 ≤ other_start p) ⊎ (other_start p + (9 + n) ≤ p.start)
other_outside p n (InA here there) within fits = inl (omega arith)
other_outside p n (InB here there) within fits = inr (omega arith)

other_least : (p : Position) → Places p → 8192 ≤ other_start p
other_least p (InA here there) = omega arith
other_least p (InB here there) = omega arith

other_most : (p : Position) → Places p → other_start p ≤ 8192 + 4096 * p.half
other_most p (InA here there) = omega arith
other_most p (InB here there) = omega arith

start_least : (p : Position) → Places p → 8192 ≤ p.start
start_least p (InA here there) = omega arith
start_least p (InB here there) = omega arith

-- an image names one of the halves
names_one : (image : List ℕ) (p : Position) → Places p → (p.start ≡ active_start image p.half) ⊎ (other_start p ≡ active_start image p.half)
names_one image p (InA here there) = elim (active_places image p.half) [ inl a ↦ inl (here ∙ sym a) | inr b ↦ inr (there ∙ sym b) ]
names_one image p (InB here there) = elim (active_places image p.half) [ inl a ↦ inr (there ∙ sym a) | inr b ↦ inl (here ∙ sym b) ]

-- the selector's byte names the other half
names_other : (image : List ℕ) (p : Position) → 1 ≤ p.half → Places p → slice_index image 4096 ≡ selector_for (other_start p)
    → other_start p ≡ active_start image p.half
names_other image p some (InA here there) is =
    let byte : slice_index image 4096 ≡ 1 = is ∙ ap selector_for there ∙ ap (λ (t : Bool). if t then 0 else 1) (not_first p.half some) in
    there ∙ sym (ap (λ (b : ℕ). if b % 2 == 0 then 8192 else 8192 + 4096 * p.half) byte)
names_other image p some (InB here there) is =
    let byte : slice_index image 4096 ≡ 0 = is ∙ ap selector_for there in
    there ∙ sym (ap (λ (b : ℕ). if b % 2 == 0 then 8192 else 8192 + 4096 * p.half) byte)

-- ---- the half that was written

-- two writes side by side are one
overwritten-join : (at : ℕ) (front rear image : List ℕ) → at + (length front + length rear) ≤ length image
    → overwritten (at + length front) rear (overwritten at front image) ≡ overwritten at (front ++ rear) image
overwritten-join at front rear image fits = same_lists _ _ (search (rules, places)) (λ k d h. grind (arith, places))

-- rows behind their first piece
pub pieces_written : (image rows piece later : List ℕ) (at n : ℕ) → length piece ≡ n → rows ≡ piece ++ later → at + length rows ≤ length image
    → overwritten (at + n) later (overwritten at piece image) ≡ overwritten at rows image
pieces_written image rows piece later at n front whole fits =
    let long = ap length whole ∙ length-append piece later in
    subst (λ (k : ℕ). overwritten (at + k) later (overwritten at piece image) ≡ overwritten at rows image) front
    (overwritten-join at piece later image (omega (arith, fits, long)) ∙ ap (λ (xs : List ℕ). overwritten at xs image) (sym whole))

-- and the writes of it and of the rest
pub row_writes-more : (n : ℕ) → ROW_PIECE < n → 1 + row_writes (n - ROW_PIECE) ≡ row_writes n
row_writes-more n more =
    let whole : n - ROW_PIECE + ROW_PIECE ≡ n = omega arith in
    let one = add-div_right (n - ROW_PIECE) {k = ROW_PIECE} (omega arith) in
    omega (arith, one, ap (λ (k : ℕ). k / ROW_PIECE) whole)

-- the form and the length, the rows and the closed gate make a half
pub half_written : (image rows : List ℕ) (start : ℕ) → start + (9 + length rows) ≤ length image
    → overwritten (start + 8 + length rows) (0 ∷ []) (overwritten (start + 8) rows (overwritten start (u64_bytes (half_number form_in_use (length rows))) image))
    ≡ overwritten start (half_text rows) image
unfolding half_text rows_text
half_written image rows start fits =
    let size = length-u64_bytes (half_number form_in_use (length rows)) in
    let text = u64_bytes (half_number form_in_use (length rows)) in
    let long = length-append text rows in
    let first : start + 8 ≡ start + length text = omega arith in
    let second : start + 8 + length rows ≡ start + length (text ++ rows) = omega arith in
    ap (λ (i : ℕ). overwritten (start + 8 + length rows) (0 ∷ []) (overwritten i rows (overwritten start text image))) first
    ∙ ap (overwritten (start + 8 + length rows) (0 ∷ [])) (overwritten-join start text rows image (omega arith))
    ∙ ap (λ (i : ℕ). overwritten i (0 ∷ []) (overwritten start (text ++ rows) image)) second
    ∙ overwritten-join start (text ++ rows) (0 ∷ []) image (omega arith)

-- a byte of 0 is a closed gate
shut : (n : ℕ) → n ≡ 0 → n ≡ 1 → ⊥
shut n zero one = omega arith

half_made : (image rows : List ℕ) (start size : ℕ) → start + (9 + length rows) ≤ length image → 9 + length rows ≤ size → length rows < 2 ^ 56
    → HasHalf (overwritten start (half_text rows) image) start (start + size) (start + (8 + length rows)) form_in_use rows []
half_made image rows start size within fits few =
    let inside : start + length (half_text rows) ≤ length image = omega (arith, length-half_text rows) in
    let none : start + 0 ≡ start = omega arith in
    record {
      is = inr refl;
      text = rw none at (bytes_at-written start (half_text rows) image inside 0 (8 + length rows) (omega (arith, length-half_text rows))) ∙ front-half_text
          rows;
      few = few;
      chain = refl;
      closed = shut _ (get_or-written start (half_text rows) image inside (8 + length rows) 0 (omega (arith, length-half_text rows)) ∙ gate-half_text rows);
      within = omega arith;
    }

-- ---- what a checkpoint leaves

-- a journal that an image gives, and rows that fit the other half
module _ (p : Position) (rows : List ℕ) (held : Contents) (some : 1 ≤ p.half) (fits : 9 + length rows ≤ 4096 * p.half) (few : length rows < 2 ^ 56) where
  abbrev half : List ℕ
  half = half_text rows

  abbrev other : ℕ
  other = other_start p

  halves_of : (image : List ℕ) → Gives image p held → Places p
  halves_of image g =
      let at : active_start image held.header.half ≡ active_start image p.half = ap (active_start image) (sym g.half.half_blocks) in
      places_of p some (elim (active_places image p.half) [ inl a ↦ inl (g.active ∙ at ∙ a) | inr b ↦ inr (g.active ∙ at ∙ b) ])

  -- the other half, whole or in part
  half_torn : (image next : List ℕ) → Gives image p held → Torn other (length half) image next → Gives next p held
  half_torn image next g torn =
      let at = halves_of image g in
      let within : p.gate + 1 ≤ p.start + 4096 * p.half = omega (arith, g.half.half.within, g.half.half_blocks) in
      let outside = other_outside p (length rows) at within fits in
      let place : (p.gate + 1 ≤ other) ⊎ (other + length half ≤ p.start) = rw (length-half_text rows) outside in
      gives_torn other (length half) image next torn p held (omega (arith, other_least p at)) place g

  -- once it is there, both halves read so
  half_there : (seen image : List ℕ) → other + (9 + length rows) ≤ length seen → Gives image p held → image ≡ overwritten other half seen
      → HoldsBoth image p rows held
  half_there seen image long g whole = record {
    old = g.half;
    new = record {
      header = g.half.header;
      sizes = g.half.sizes;
      half = rw (whole, sym g.half.half_blocks) (half_made seen rows other (4096 * p.half) long fits few);
      room = omega (arith, g.half.half_blocks);
      blocks = g.half.blocks;
      half_blocks = g.half.half_blocks;
    };
  }

  -- whatever the selector's byte holds
  both_kept : (image next : List ℕ) → Places p → HoldsBoth image p rows held → Torn 4096 1 image next → HoldsBoth next p rows held
  both_kept image next at both torn = record {
    old = in_half_torn 4096 1 image next torn p held (omega arith) (inr (omega (arith, start_least p at))) both.old;
    new = in_half_torn 4096 1 image next torn (after_checkpoint p (length rows)) (with_rows rows held) (omega arith)
        (inr (omega (arith, other_least p at))) both.new;
  }

  gives_either : (image : List ℕ) → Places p → HoldsBoth image p rows held → GivesEither image p rows held
  gives_either image at both =
      let same : active_start image p.half ≡ active_start image held.header.half = ap (active_start image) both.old.half_blocks in
      elim (names_one image p at) [
        | inl here ↦ inl (record { half = both.old; active = here ∙ same })
        | inr there ↦ inr (record { half = both.new; active = there ∙ same })
      ]

  -- once the selector is there, the image names the other half
  named : (seen image : List ℕ) (byte : ℕ) → other + (9 + length rows) ≤ length seen → Places p → byte ≡ selector_for other
      → image ≡ overwritten 4096 (byte ∷ []) (overwritten other half seen) → HoldsBoth image p rows held
      → Gives image (after_checkpoint p (length rows)) (with_rows rows held)
  named seen image byte long at is whole both =
      let inside : other + length half ≤ length seen = omega (arith, length-half_text rows) in
      let wide : 4096 + length {A = ℕ} (byte ∷ []) ≤ length (overwritten other half seen) =
      omega (arith, length-overwritten other half seen inside, other_least p at) in
      let selector : slice_index image 4096 ≡ selector_for other =
      ap (λ (i : List ℕ). get_or i 4096 0) whole ∙ get_or-written 4096 (byte ∷ []) (overwritten other half seen) wide 0 0 (omega arith) ∙ is in
      record { half = both.new; active = names_other image p some at selector ∙ ap (active_start image) both.old.half_blocks }

  -- where both writes were made, the image gives the rows and no record
  pub gives_switched : (seen : List ℕ) (byte : ℕ) → other + (9 + length rows) ≤ length seen → byte ≡ selector_for other → Gives seen p held
      → Gives (overwritten 4096 (byte ∷ []) (overwritten other half seen)) (after_checkpoint p (length rows)) (with_rows rows held)
  gives_switched seen byte long is g =
      let at = halves_of seen g in
      let inside : other + length half ≤ length seen = omega (arith, length-half_text rows) in
      let written = overwritten other half seen in
      let wide : 4096 + length {A = ℕ} (byte ∷ []) ≤ length written = omega (arith, length-overwritten other half seen inside, other_least p at) in
      let both = half_there seen written long (half_torn seen written g (torn-overwritten other half seen inside)) refl in
      named seen _ byte long at is refl (both_kept written _ at both (torn-overwritten 4096 (byte ∷ []) written wide))

  wrote : (image next last : List ℕ) → Torn other (length half) image next → Torn 4096 1 next last → WritesOther p (length rows) image last
  wrote image next last torn selector = record { between = next; half = rw (length-half_text rows) at torn; selector = selector }

  -- ---- the moments of a checkpoint

  module _ (old new : Device) (long : other + (9 + length rows) ≤ length old.seen) (each : EachGives old p held) where
    so_far : (q l : Left) → may_leave old q → WithinWrites other half 4096 old.seen q l → KeepsOrSwitches p rows held q l
    so_far q l could (inl torn) =
        let given = half_torn q.image l.image (each.gives q could) torn.image in
        record {
          told = torn.told;
          elsewhere = wrote q.image l.image l.image torn.image (torn_itself 4096 1 l.image);
          halves = inl given;
          image = inl given;
        }
    so_far q l could (inr steps) =
        let g = each.gives q could in
        let mid = steps.0.image in
        let both = half_there old.seen mid long (half_torn q.image mid g steps.1.torn.image) steps.1.whole in
        let after = both_kept mid l.image (halves_of q.image g) both steps.2.image in
        record {
          told = steps.2.told ∙ steps.1.torn.told;
          elsewhere = wrote q.image mid l.image steps.1.torn.image steps.2.image;
          halves = inr after;
          image = gives_either l.image (halves_of q.image g) after;
        }

    at_end : (ok : Bool) (byte : ℕ) → byte ≡ selector_for other → (q l : Left) → may_leave old q → WritesEnd ok other half 4096 byte old.seen q l
        → CheckpointEnds ok p rows held q l
    at_end true byte is q l could steps =
        let g = each.gives q could in
        let mid = steps.0.image in
        let both = half_there old.seen mid long (half_torn q.image mid g steps.1.torn.image) steps.1.whole in
        let after = both_kept mid l.image (halves_of q.image g) both steps.2.torn.image in
        record {
          told = steps.2.torn.told ∙ steps.1.torn.told;
          elsewhere = wrote q.image mid l.image steps.1.torn.image steps.2.torn.image;
          halves = after;
          image = named old.seen l.image byte long (halves_of q.image g) is steps.2.whole after;
        }
    at_end false byte is q l could steps = so_far q l could steps

    pub checkpoint_moments : (ok : Bool) (byte : ℕ) → byte ≡ selector_for other
        → Elapses (WithinWrites other half 4096 old.seen) (WritesEnd ok other half 4096 byte old.seen) old new
        → Elapses (KeepsOrSwitches p rows held) (CheckpointEnds ok p rows held) old new
    checkpoint_moments ok byte is time =
        elapses_weaker (WithinWrites other half 4096 old.seen) (WritesEnd ok other half 4096 byte old.seen) _ _ old new time so_far
        (λ q l could left steps. at_end ok byte is q l could steps)

-- each image has the rows and no record
pub checkpoint_each : (old new : Device) (p : Position) (rows : List ℕ) (held : Contents) → Elapses (KeepsOrSwitches p rows held) (Switches p rows held) old new
    → EachGives new (after_checkpoint p (length rows)) (with_rows rows held)
checkpoint_each old new p rows held time = record { gives = λ left could. (time.now left could).2.image }

-- what is read after the call is one of the images
pub checkpoint_left : (old new : Device) (p : Position) (rows : List ℕ) (held : Contents) → IsDevice new → new.shows ≡ true
    → Elapses (KeepsOrSwitches p rows held) (KeepsOrSwitches p rows held) old new
    → (told : List (List ℕ)) × Follows (KeepsOrSwitches p rows held) (may_leave old) (read_with new told)
checkpoint_left old new p rows held sound shows time =
    let could = sound.itself shows in
    (could.0, time.now (read_with new could.0) could.1)

-- ---- the same of the place that the code found

module _ (p : Position) (start : ℕ) (rows : List ℕ) (is : start ≡ other_start p) (fits : 9 + length rows ≤ 4096 * p.half) (few : length rows < 2 ^ 56) where
  pub content_there : (seen after : List ℕ) (held : Contents) → start + (9 + length rows) ≤ length seen
      → after ≡ overwritten 4096 (selector_for start ∷ []) (overwritten start (half_text rows) seen) → Gives seen p held
      → Gives after (after_checkpoint p (length rows)) (with_rows rows held)
  content_there seen after held long written g =
      let whole : after ≡ overwritten 4096 (selector_for start ∷ []) (overwritten (other_start p) (half_text rows) seen) =
      written ∙ ap (λ (s : ℕ). overwritten 4096 (selector_for start ∷ []) (overwritten s (half_text rows) seen)) is in
      subst (λ (image : List ℕ). Gives image (after_checkpoint p (length rows)) (with_rows rows held)) (sym whole)
      (gives_switched p rows held (omega arith) fits few seen (selector_for start) (omega arith) (ap selector_for is) g)

  pub wrote_there : (seen after : List ℕ) → 8192 ≤ start → start + (9 + length rows) ≤ length seen
      → after ≡ overwritten 4096 (selector_for start ∷ []) (overwritten start (half_text rows) seen) → WritesOther p (length rows) seen after
  wrote_there seen after least long written =
      let inside : start + length (half_text rows) ≤ length seen = omega (arith, length-half_text rows) in
      let between = overwritten start (half_text rows) seen in
      record {
        between = between;
        half = subst (λ (s : ℕ). Torn s (9 + length rows) seen between) is
            (subst (λ (n : ℕ). Torn start n seen between) (length-half_text rows) (torn-overwritten start (half_text rows) seen inside));
        selector = subst (Torn 4096 1 between) (sym written)
            (torn-overwritten 4096 (selector_for start ∷ []) between (omega (arith, length-overwritten start (half_text rows) seen inside)));
      }

  pub moments_there : (ok : Bool) (old new : Device) (held : Contents) → start + (9 + length rows) ≤ length old.seen → EachGives old p held
      → Elapses (WithinWrites start (half_text rows) 4096 old.seen) (WritesEnd ok start (half_text rows) 4096 (selector_for start) old.seen) old new
      → Elapses (KeepsOrSwitches p rows held) (CheckpointEnds ok p rows held) old new
  moments_there ok old new held long each time =
      checkpoint_moments p rows held (omega arith) fits few old new (omega arith) each ok (selector_for start) (ap selector_for is)
      (subst (λ (s : ℕ). Elapses (WithinWrites s (half_text rows) 4096 old.seen) (WritesEnd ok s (half_text rows) 4096 (selector_for start) old.seen) old new)
      is time)
