-- What the images give that a crash may leave within an append.
use Rattle.std.proofs.Common.{◌≡◌, ◌<◌, ◌≤◌, ◌+◌, ◌*◌, ◌%◌, ◌==◌, ◌^◌, ℕ, Bool, true, false, List, [], ◌∷◌, ◌++◌, length, take, drop, get_or, inl, inr, subst, sym, ap, ap₂, ◌∙◌, arith, take-append-drop, append_assoc}
use Rattle.std.proofs.lemmas.List.{drop_more}
use Rattle.std.proofs.lemmas.Bool.{cases_eq}
use Rattle.std.specs.Prelude.{if◌then◌else◌}
use Rattle.disk_trait.specs.Device.{Device, Left, IsDevice, may_leave, read_with}
use Rattle.disk_trait.specs.Calls.{overwritten, Follows, Torn, TornWrite, Elapses}
use Rattle.disk_trait.proofs.Theorems.{elapses_weaker, torn_twice}
use Rattle.disk_trait.proofs.TornLemmas.{byte_kept, bytes_kept, torn_wider}
use Rattle.disk_trait.proofs.OverwriteLemmas.{length-overwritten, bytes_at-before}
use Rattle.media_journal.specs.File.{IsClosedGate, active_start}
use Rattle.media_journal.specs.Journal.{Contents, Position, Gives, after_append, frame_text}
use Rattle.media_journal.specs.JournalMoments.{EachGives, GivesOneOf, KeepsOrAdds, AddsRecord, AppendEnds, with_payload}
use Rattle.media_journal.specs.Within.Steps.{SyncedWrite, WithinRecord, RecordEnds}
use Rattle.media_journal.proofs.FrameLemmas.{length-frame_text}
use Rattle.media_journal.proofs.ChainLemmas.{chain_bounds, chain_kept}
use Rattle.media_journal.proofs.AppendLemmas.{active_start-least, gives_more, recorded}

-- an image that is the same before the journal's gate, and whose gate is closed, gives the same
pub gives_kept : (image other : List ℕ) (p : Position) (held : Contents) → length other ≡ length image → take p.gate other ≡ take p.gate image
    → IsClosedGate other p.gate → Gives image p held → Gives other p held
gives_kept image other p held size same closed g =
    let behind : p.start + (8 + length held.rows) ≤ p.gate = chain_bounds image _ held.records p.gate g.half.half.chain in
    let least : 8192 ≤ p.start = omega (arith, g.active, active_start-least image held.header.half) in
    let start : active_start other held.header.half ≡ active_start image held.header.half =
    ap (λ (byte : ℕ). if byte % 2 == 0 then 8192 else 8192 + 4096 * held.header.half) (byte_kept image other p.gate same 4096 (omega arith)) in
    record {
      half = record {
        header = record {
          gate = byte_kept image other p.gate same 40 (omega arith) ∙ g.half.header.gate;
          text = bytes_kept image other p.gate same 0 40 (omega arith) ∙ g.half.header.text;
          blocks = g.half.header.blocks;
          half = g.half.header.half;
          id = g.half.header.id;
        };
        sizes = rw size g.half.sizes;
        half = record {
          is = g.half.half.is;
          text = bytes_kept image other p.gate same _ _ behind ∙ g.half.half.text;
          few = g.half.half.few;
          chain = chain_kept image other _ held.records p.gate (bytes_kept image other p.gate same) g.half.half.chain;
          closed = closed;
          within = g.half.half.within;
        };
        room = g.half.room;
        blocks = g.half.blocks;
        half_blocks = g.half.half_blocks;
      };
      active = g.active ∙ sym start;
    }

-- where the write of a byte was cut short, some byte was written
pub torn_byte : (at b : ℕ) (old new : List ℕ) → at < length old → Torn at 1 old new → get_or new at 0 ≡ b → new ≡ overwritten at (b ∷ []) old
torn_byte at b old new within torn is =
    let behind : drop at new ≡ b ∷ drop (at + 1) old =
    drop_more new at 0 (omega (arith, torn.same_length)) ∙ ap₂ ◌∷◌ is torn.after in
    sym (take-append-drop at new) ∙ ap₂ (λ (a b : List ℕ). a ++ b) torn.before behind ∙ sym (append_assoc (take at old) (b ∷ []) (drop (at + 1) old))

-- an image that is the same up to and with the journal's gate gives the same
pub gives_before : (image other : List ℕ) (p : Position) (held : Contents) → length other ≡ length image → take (p.gate + 1) other ≡ take (p.gate + 1) image
    → Gives image p held → Gives other p held
gives_before image other p held size same g =
    let gate : get_or other p.gate 0 ≡ get_or image p.gate 0 = byte_kept image other (p.gate + 1) same p.gate (omega arith) in
    gives_kept image other p held size (bytes_kept image other (p.gate + 1) same 0 p.gate (omega arith)) (λ one. g.half.half.closed (sym gate ∙ one)) g

-- so what an image gives with a frame behind the gate, it gives without it
pub gives_without_frame : (seen : List ℕ) (p : Position) (held : Contents) (frame : List ℕ) → p.gate + 1 + length frame ≤ length seen
    → Gives (overwritten (p.gate + 1) frame seen) p held → Gives seen p held
gives_without_frame seen p held frame fits g =
    gives_before (overwritten (p.gate + 1) frame seen) seen p held (sym (length-overwritten (p.gate + 1) frame seen fits))
    (sym (bytes_at-before (p.gate + 1) frame seen fits 0 (p.gate + 1) (omega arith))) g

-- once the frame is there, the gate's write gives the records as they were, or with the payload
pub gives_torn_gate : (seen other : List ℕ) (p : Position) (payload : List ℕ) (held : Contents) → p.gate + p.room ≤ length seen → length payload + 6 ≤ p.room
    → length payload < 2 ^ 32 → Gives (overwritten (p.gate + 1) (frame_text payload) seen) p held
    → Torn p.gate 1 (overwritten (p.gate + 1) (frame_text payload) seen) other → GivesOneOf other p payload held
gives_torn_gate seen other p payload held within room short g torn =
    let staged = overwritten (p.gate + 1) (frame_text payload) seen in
    let fits : p.gate + 1 + length (frame_text payload) ≤ length seen = omega (arith, length-frame_text payload) in
    let size = length-overwritten (p.gate + 1) (frame_text payload) seen fits in
    elim (cases_eq (get_or other p.gate 0) 1) [
      | inl is_one ↦
          let whole : other ≡ recorded seen p.gate payload = torn_byte p.gate 1 staged other (omega (arith, size)) torn is_one in
          inr (rw whole (gives_more seen p held payload within room short (gives_without_frame seen p held (frame_text payload) fits g)))
      | inr shut ↦ inl (gives_kept staged other p held torn.same_length torn.before shut g)
    ]

-- over the writes of a record, the images of a journal whose records each image gave
module _ (old new : Device) (p : Position) (payload : List ℕ) (held : Contents) (within : p.gate + p.room ≤ length old.seen)
    (room : length payload + 6 ≤ p.room) (short : length payload < 2 ^ 32) (each : EachGives old p held) where
  -- the frame behind the gate
  framed : (q m : Left) → may_leave old q → TornWrite (p.gate + 1) (length (frame_text payload)) q m → Gives m.image p held
  framed q m could torn = gives_before q.image m.image p held torn.image.same_length torn.image.before (each.gives q could)

  -- both writes lie within the record and the gate behind it
  frame_within : (q m : Left) → TornWrite (p.gate + 1) (length (frame_text payload)) q m → Torn p.gate (length payload + 6) q.image m.image
  frame_within q m torn = torn_wider _ _ q.image m.image torn.image _ _ (omega arith) (omega (arith, length-frame_text payload))

  gate_within : (q m l : Left) → TornWrite (p.gate + 1) (length (frame_text payload)) q m → TornWrite p.gate 1 m l
      → Torn p.gate (length payload + 6) q.image l.image
  gate_within q m l frame gate =
      torn_twice _ _ q.image m.image l.image (frame_within q m frame) (torn_wider _ _ m.image l.image gate.image _ _ (omega arith) (omega arith))

  staged : (q m : Left) → may_leave old q → SyncedWrite (p.gate + 1) (frame_text payload) old.seen q m
      → Gives (overwritten (p.gate + 1) (frame_text payload) old.seen) p held
  staged q m could write = subst (λ (image : List ℕ). Gives image p held) write.whole (framed q m could write.torn)

  so_far : (q l : Left) → may_leave old q → WithinRecord p.gate (frame_text payload) old.seen q l → KeepsOrAdds p payload held q l
  so_far q l could (inl torn) = record {
    told = torn.told;
    elsewhere = frame_within q l torn;
    image = inl (framed q l could torn);
  }
  so_far q l could (inr steps) =
      let write = steps.1 in
      let gate = subst (λ (image : List ℕ). Torn p.gate 1 image l.image) write.whole steps.2.image in
      record {
        told = steps.2.told ∙ write.torn.told;
        elsewhere = gate_within q steps.0 l write.torn steps.2;
        image = gives_torn_gate old.seen l.image p payload held within room short (staged q steps.0 could write) gate;
      }

  at_end : (ok : Bool) (q l : Left) → may_leave old q → RecordEnds ok p.gate (frame_text payload) old.seen q l → AppendEnds ok p payload held q l
  at_end true q l could steps =
      let write = steps.1 in
      let fits : p.gate + 1 + length (frame_text payload) ≤ length old.seen = omega (arith, length-frame_text payload) in
      let before = gives_without_frame old.seen p held (frame_text payload) fits (staged q steps.0 could write) in
      record {
        told = steps.2.torn.told ∙ write.torn.told;
        elsewhere = gate_within q steps.0 l write.torn steps.2.torn;
        image = rw steps.2.whole (gives_more old.seen p held payload within room short before);
      }
  at_end false q l could steps = so_far q l could steps

  pub append_moments : (ok : Bool) → Elapses (WithinRecord p.gate (frame_text payload) old.seen) (RecordEnds ok p.gate (frame_text payload) old.seen) old new
      → Elapses (KeepsOrAdds p payload held) (AppendEnds ok p payload held) old new
  append_moments ok time =
      elapses_weaker (WithinRecord p.gate (frame_text payload) old.seen) (RecordEnds ok p.gate (frame_text payload) old.seen) _ _ old new time so_far
      (λ q l could left steps. at_end ok q l could steps)

-- what is read after the call is one of the images
pub append_left : (old new : Device) (p : Position) (payload : List ℕ) (held : Contents) → IsDevice new → new.shows ≡ true
    → Elapses (KeepsOrAdds p payload held) (KeepsOrAdds p payload held) old new
    → (told : List (List ℕ)) × Follows (KeepsOrAdds p payload held) (may_leave old) (read_with new told)
append_left old new p payload held sound shows time =
    let could = sound.itself shows in
    (could.0, time.now (read_with new could.0) could.1)

-- each image has the payload
pub append_each : (old new : Device) (p : Position) (payload : List ℕ) (held : Contents)
    → Elapses (KeepsOrAdds p payload held) (AddsRecord p payload held) old new → EachGives new (after_append p (length payload)) (with_payload p payload held)
append_each old new p payload held time = record { gives = λ left could. (time.now left could).2.image }
