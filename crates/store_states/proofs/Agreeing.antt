-- What is kept stays in agreement with the device over calls, at each moment.
use Rattle.std.proofs.Common.{◌≡◌, ◌≤◌, ◌+◌, ◌*◌, ℕ, List, refl, sym, ap, ◌∙◌, arith, inl, inr, subst}
use Rattle.disk_trait.specs.Device.{Device, Left, may_leave}
use Rattle.disk_trait.specs.Calls.{Elapses, TornWrite, Unchanged}
use Rattle.disk_trait.proofs.Theorems.{elapses_weaker}
use Rattle.disk_trait.specs.Forms.{form_in_use}
use Rattle.media_journal.specs.declared.header.Header.{Header}
use Rattle.media_journal.specs.declared.record.Record.{Record}
use Rattle.media_journal.specs.File.{active_start}
use Rattle.media_journal.specs.Journal.{Gives}
use Rattle.media_journal.proofs.ReadingLemmas.{gives_reads}
use Rattle.media_journal.proofs.Theorems.{gives_before_media, gives_elsewhere}
use Rattle.store_states.specs.Kept.{AgreesWith, StoreView, Moves, half_of, kept_state}
use Rattle.store_states.specs.Laws.{AreInBlocks, is_clear}
use Rattle.store_states.specs.States.{Makes, StandsFor, StoreState, held_in, media_start}
use Rattle.store_states.proofs.Bytes.{clear_writes}

-- an image that gives a journal what makes the library, and has the bytes, stands for the state
pub image_stands : (kept : StoreView) (held : List (List ℕ)) (h : Header) (text : List ℕ) (records : List Record) → Makes form_in_use h text records kept.library
    → (image : List ℕ) → Gives image kept.journal (half_of h text records)
    → held_in image (media_start h.half) kept.library.objects ≡ held → StandsFor image (kept_state kept held)
image_stands kept held h text records makes image gives bytes = record {
  header = h;
  gate = kept.journal.gate;
  text = text;
  records = records;
  reads = gives_reads image kept.journal (half_of h text records) gives;
  made = kept.library;
  makes = makes;
  library = refl;
  held = sym bytes;
  room = gives.half.room ∙ ap (λ start. start + 4096 * h.half) gives.active;
  half = ap (λ n. 4096 * n) gives.half.half_blocks;
}

-- each image that a crash now may leave stands for the state that is kept
pub agreed_images_stand : (d : Device) (kept : StoreView) (held : List (List ℕ)) → AgreesWith d kept held → (left : Left) → may_leave d left
    → StandsFor left.image (kept_state kept held)
agreed_images_stand d kept held agrees left could =
    image_stands kept held agrees.header agrees.text agrees.records agrees.makes left.image (agrees.gives.gives left could) (agrees.bytes left could)

-- ---- quiet calls

-- a call that leaves all images keeps the agreement, and at each moment in it the state stands
pub quiet_calls_keep : (old new : Device) (kept : StoreView) (held : List (List ℕ)) → Elapses Unchanged Unchanged old new → AgreesWith old kept held
    → AgreesWith new kept held
quiet_calls_keep old new kept held time agrees = record {
  header = agrees.header;
  text = agrees.text;
  records = agrees.records;
  makes = agrees.makes;
  gives = record {
    gives = λ left could.
        let from = time.now left could in
        rw from.2 (agrees.gives.gives from.0 from.1);
  };
  bytes = λ left could.
      let from = time.now left could in
      rw from.2 (agrees.bytes from.0 from.1);
}

quiet_step : (old : Device) (kept : StoreView) (held : List (List ℕ)) → AgreesWith old kept held → (q p : Left) → may_leave old q → p ≡ q
    → Moves (kept_state kept held) (kept_state kept held) q p
quiet_step old kept held agrees q p could same = record {
  told = ap (λ (left : Left). left.told) same;
  image = inl (rw same (agreed_images_stand old kept held agrees q could));
}

pub quiet_calls_stand : (old new : Device) (kept : StoreView) (held : List (List ℕ)) → Elapses Unchanged Unchanged old new → AgreesWith old kept held
    → Elapses (Moves (kept_state kept held) (kept_state kept held)) (Moves (kept_state kept held) (kept_state kept held)) old new
quiet_calls_stand old new kept held time agrees =
    let s = kept_state kept held in
    elapses_weaker Unchanged Unchanged (Moves s s) (Moves s s) old new time
    (λ q p could same. quiet_step old kept held agrees q p could same)
    (λ q p could left same. quiet_step old kept held agrees q p could same)

-- ---- writes in free blocks

module _ (old : Device) (kept : StoreView) (held : List (List ℕ)) (agrees : AgreesWith old kept held) (start count at n : ℕ)
    (clear : is_clear kept.library.objects start count) (within : AreInBlocks (media_start kept.journal.half) start count at n)
    (q p : Left) (could : may_leave old q) (write : TornWrite at n q p) where
  old_gives : Gives q.image kept.journal (half_of agrees.header agrees.text agrees.records)
  old_gives = agrees.gives.gives q could

  in_area : AreInBlocks (media_start agrees.header.half) start count at n
  in_area = subst (λ (h : ℕ). AreInBlocks (media_start h) start count at n) old_gives.half.half_blocks within

  free_gives : Gives p.image kept.journal (half_of agrees.header agrees.text agrees.records)
  free_gives =
      let media = gives_before_media q.image kept.journal (half_of agrees.header agrees.text agrees.records) old_gives in
      gives_elsewhere at n q.image p.image kept.journal (half_of agrees.header agrees.text agrees.records)
      (omega (arith, media, in_area.from)) write.image old_gives

  free_bytes : held_in p.image (media_start agrees.header.half) kept.library.objects ≡ held
  free_bytes =
      clear_writes q.image p.image (media_start agrees.header.half) start count at n kept.library.objects write.image clear in_area
      ∙ agrees.bytes q could

  free_step : Moves (kept_state kept held) (kept_state kept held) q p
  free_step = record { told = write.told; image = inl stands }
    where
      stands : StandsFor p.image (kept_state kept held)
      stands = image_stands kept held agrees.header agrees.text agrees.records agrees.makes p.image free_gives free_bytes

-- a write in media blocks that no stored object has does so too
pub free_writes_keep : (old new : Device) (kept : StoreView) (held : List (List ℕ)) (start count at n : ℕ)
    → Elapses (TornWrite at n) (TornWrite at n) old new → is_clear kept.library.objects start count
    → AreInBlocks (media_start kept.journal.half) start count at n → AgreesWith old kept held → AgreesWith new kept held
free_writes_keep old new kept held start count at n time clear within agrees = record {
  header = agrees.header;
  text = agrees.text;
  records = agrees.records;
  makes = agrees.makes;
  gives = record {
    gives = λ left could.
        let from = time.now left could in
        free_gives old kept held agrees start count at n clear within from.0 left from.1 from.2;
  };
  bytes = λ left could.
      let from = time.now left could in
      free_bytes old kept held agrees start count at n clear within from.0 left from.1 from.2;
}

pub free_writes_stand : (old new : Device) (kept : StoreView) (held : List (List ℕ)) (start count at n : ℕ)
    → Elapses (TornWrite at n) (TornWrite at n) old new → is_clear kept.library.objects start count
    → AreInBlocks (media_start kept.journal.half) start count at n → AgreesWith old kept held
    → Elapses (Moves (kept_state kept held) (kept_state kept held)) (Moves (kept_state kept held) (kept_state kept held)) old new
free_writes_stand old new kept held start count at n time clear within agrees =
    let s = kept_state kept held in
    elapses_weaker (TornWrite at n) (TornWrite at n) (Moves s s) (Moves s s) old new time
    (λ q p could write. free_step old kept held agrees start count at n clear within q p could write)
    (λ q p could left write. free_step old kept held agrees start count at n clear within q p could write)
