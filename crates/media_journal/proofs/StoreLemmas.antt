-- What a crash may leave while a store is made.
use Rattle.std.proofs.Common.{◌≡◌, ◌<◌, ◌≤◌, ◌+◌, ◌^◌, ℕ, Bool, true, false, List, [], ◌∷◌, length, get_or, inl, inr, sym, ap, subst, ◌∙◌, arith}
use Rattle.std.proofs.lemmas.Bool.{cases_eq}
use Rattle.std.proofs.lemmas.List.{get_or-drop}
use Rattle.disk_trait.specs.Device.{Device, Left, may_leave}
use Rattle.disk_trait.specs.Calls.{DiskReads, overwritten, Torn, TornWrite, Elapses, LeavesOnly, Unchanged}
use Rattle.disk_trait.specs.DiskMoments.{Then, WithinTwo}
use Rattle.disk_trait.proofs.Theorems.{elapses_twice}
use Rattle.disk_trait.proofs.OverwriteLemmas.{get_or-written}
use Rattle.media_journal.specs.declared.header.Header.{Header}
use Rattle.media_journal.specs.declared.format.Gate.{Gate}
use Rattle.media_journal.specs.File.{HasOpenHeader, IsClosedGate, header_text}
use Rattle.media_journal.specs.Formatting.{FitsStore, GateIs, IsFormatted, IsStray, half_text}
use Rattle.media_journal.specs.JournalMoments.{IsAtRest, MakesStore, NoneOrNew}
use Rattle.media_journal.specs.Within.Steps.{KeepsGate, LeavesNone, NoneOrFormatted, StoreEnds, SyncedWriteEnds}
use Rattle.disk_trait.proofs.TornLemmas.{bytes_kept, byte_kept}
use Rattle.media_journal.proofs.CrashLemmas.{torn_byte}
use Rattle.disk_trait.proofs.Theorems.{elapses_along, elapses_weaker}
use Rattle.media_journal.proofs.MomentLemmas.{synced_is_torn}
use Rattle.media_journal.proofs.FormattingLemmas.{is_new_store}
use Rattle.media_journal.proofs.GateLemmas.{gate_forgotten}

-- no store behind a closed gate
pub shut_is_none : (image : List ℕ) → IsClosedGate image 40 → ¬ (HasOpenHeader image)
shut_is_none image shut has = shut has.gate

-- the write of a gate before which no header stands makes none
torn_stray : (image other : List ℕ) → IsStray image → Torn 40 1 image other → ¬ (HasOpenHeader other)
torn_stray image other stray torn has =
    stray.bare record { begins = sym (bytes_kept image other 40 torn.before 0 8 (omega arith)) ∙ has.begins; gate = stray.gate }

pub stray_closes : (ok : Bool) (old new : Device) → IsAtRest old → IsStray old.seen → Elapses (TornWrite 40 1) (SyncedWriteEnds ok 40 (0 ∷ []) old.seen) old new
    → Elapses LeavesNone LeavesNone old new
stray_closes ok old new rest stray time =
    elapses_weaker (TornWrite 40 1) (SyncedWriteEnds ok 40 (0 ∷ []) old.seen) LeavesNone LeavesNone old new time none
    (λ q p could left write. none q p could (synced_is_torn ok 40 (0 ∷ []) old.seen q p write))
  where
    none : (q p : Left) → may_leave old q → TornWrite 40 1 q p → LeavesNone q p
    none q p could torn = record {
      told = torn.told;
      image = torn_stray old.seen p.image stray (subst (λ (image : List ℕ). Torn 40 1 image p.image) (rest.settled q could) torn.image);
    }

pub shut_by_zero : (image : List ℕ) → 41 ≤ length image → IsClosedGate (overwritten 40 (0 ∷ []) image) 40
shut_by_zero image long one =
    let shut : get_or (overwritten 40 (0 ∷ []) image) (40 + 0) 0 ≡ 0 = get_or-written 40 (0 ∷ []) image (omega arith) 0 0 (omega arith) in
    let here : get_or (overwritten 40 (0 ∷ []) image) (40 + 0) 0 ≡ 1 = one in
    omega arith

-- a write behind the gate or before it keeps the gate
pub keeps_before : (at n : ℕ) (old new : Device) → 40 < at → Elapses (TornWrite at n) (TornWrite at n) old new → Elapses KeepsGate KeepsGate old new
keeps_before at n old new behind time =
    elapses_weaker (TornWrite at n) (TornWrite at n) KeepsGate KeepsGate old new time (λ q p could torn. keeps q p torn) (λ q p could left torn. keeps q p torn)
  where
    keeps : (q p : Left) → TornWrite at n q p → KeepsGate q p
    keeps q p torn = record { told = torn.told; gate = byte_kept q.image p.image at torn.image.before 40 behind }

pub keeps_behind : (n : ℕ) (old new : Device) → n ≡ 40 → Elapses (TornWrite 0 n) (TornWrite 0 n) old new → Elapses KeepsGate KeepsGate old new
keeps_behind n old new front time =
    elapses_weaker (TornWrite 0 n) (TornWrite 0 n) KeepsGate KeepsGate old new time (λ q p could torn. keeps q p torn) (λ q p could left torn. keeps q p torn)
  where
    keeps : (q p : Left) → TornWrite 0 n q p → KeepsGate q p
    keeps q p torn =
        let place : 0 + n + 0 ≡ 40 = omega arith in
        record {
          told = torn.told;
          gate = rw place at (sym (get_or-drop (0 + n) p.image 0 0) ∙ ap (λ bytes. get_or bytes 0 0) torn.image.after ∙ get_or-drop (0 + n) q.image 0 0);
        }

pub keeps_along : (old mid new : Device) → Elapses KeepsGate KeepsGate old mid → Elapses KeepsGate KeepsGate mid new → Elapses KeepsGate KeepsGate old new
keeps_along old mid new first second =
    elapses_along KeepsGate old mid new (λ q m p one two. record { told = two.told ∙ one.told; gate = two.gate ∙ one.gate }) first second

pub keeps_same : (old new : Device) → Elapses Unchanged Unchanged old new → Elapses KeepsGate KeepsGate old new
keeps_same old new time =
    elapses_weaker Unchanged Unchanged KeepsGate KeepsGate old new time (λ q p could same. keeps q p same) (λ q p could left same. keeps q p same)
  where
    keeps : (q p : Left) → Unchanged q p → KeepsGate q p
    keeps q p same = record { told = ap (λ (l : Left). l.told) same; gate = ap (λ (l : Left). get_or l.image 40 0) same }

-- a step to an image with a closed gate, and one to this very image
record Shuts (old new : Left) : Type 0 where
  pub told : new.told ≡ old.told
  pub gate : IsClosedGate new.image 40

record Settles (image : List ℕ) (old new : Left) : Type 0 where
  pub told : new.told ≡ old.told
  pub whole : new.image ≡ image

-- the gate was closed first, and then all but the gate was written
pub front_none : (old mid new : Device) → LeavesOnly mid.seen mid → IsClosedGate mid.seen 40 → Elapses LeavesNone LeavesNone old mid
    → Elapses KeepsGate KeepsGate mid new → Elapses LeavesNone LeavesNone old new
front_none old mid new only shut first second =
    let closes = elapses_weaker LeavesNone LeavesNone LeavesNone Shuts old mid first (λ q p could none. none)
    (λ q p could left none. record { told = none.told; gate = rw (only p left) shut }) in
    let both = elapses_twice LeavesNone Shuts KeepsGate KeepsGate old mid new closes second in
    elapses_weaker (WithinTwo LeavesNone Shuts KeepsGate) (Then Shuts KeepsGate) LeavesNone LeavesNone old new both
    (λ q p could steps. elim steps [ inl none ↦ none | inr then ↦ ends q p then ]) (λ q p could left then. ends q p then)
  where
    ends : (q p : Left) → Then Shuts KeepsGate q p → LeavesNone q p
    ends q p steps = record {
      told = steps.2.told ∙ steps.1.told;
      image = shut_is_none p.image (λ one. steps.1.gate (sym steps.2.gate ∙ one));
    }

-- where the writes of a store stopped before its gate's, there is none
pub none_so_far : (header half seen : List ℕ) (old new : Device) → Elapses LeavesNone LeavesNone old new
    → Elapses (NoneOrFormatted header half seen) (NoneOrFormatted header half seen) old new
none_so_far header half seen old new time =
    elapses_weaker LeavesNone LeavesNone (NoneOrFormatted header half seen) (NoneOrFormatted header half seen) old new time (λ q p could none. weaker q p none)
    (λ q p could left none. weaker q p none)
  where
    weaker : (q p : Left) → LeavesNone q p → NoneOrFormatted header half seen q p
    weaker q p none = record { told = none.told; image = inl none.image }

-- The gate's write is the last: one of its bytes makes the store, and all others none.
module _ (header half seen closed : List ℕ) (text : length header ≡ 40) (room : 8192 + length half ≤ length seen) (gate : Torn 40 1 seen closed)
    (old mid new : Device) (long : 41 ≤ length mid.seen)
    (written : mid.seen ≡ overwritten 8192 half (overwritten 4096 (0 ∷ []) (overwritten 0 header closed))) where
  made : (image : List ℕ) → image ≡ overwritten 40 (1 ∷ []) mid.seen → IsFormatted header half seen image
  made image whole = whole ∙ ap (overwritten 40 (1 ∷ [])) written ∙ gate_forgotten header half seen closed text room gate

  gate_torn : (q p : Left) → Then (Settles mid.seen) (TornWrite 40 1) q p → NoneOrFormatted header half seen q p
  gate_torn q p steps =
      let torn = subst (λ (image : List ℕ). Torn 40 1 image p.image) steps.1.whole steps.2.image in
      record {
        told = steps.2.told ∙ steps.1.told;
        image = elim (cases_eq (get_or p.image 40 0) 1) [
          | inl one ↦ inr (made p.image (torn_byte 40 1 mid.seen p.image (omega arith) torn one))
          | inr shut ↦ inl (shut_is_none p.image shut)
        ];
      }

  gate_ends : (ok : Bool) (q p : Left) → Then (Settles mid.seen) (SyncedWriteEnds ok 40 (1 ∷ []) mid.seen) q p → StoreEnds ok header half seen q p
  gate_ends true q p steps = record { told = steps.2.torn.told ∙ steps.1.told; image = made p.image steps.2.whole }
  gate_ends false q p steps = gate_torn q p steps

  pub store_made : (ok : Bool) → LeavesOnly mid.seen mid → Elapses LeavesNone LeavesNone old mid
      → Elapses (TornWrite 40 1) (SyncedWriteEnds ok 40 (1 ∷ []) mid.seen) mid new
      → Elapses (NoneOrFormatted header half seen) (StoreEnds ok header half seen) old new
  store_made ok only first second =
      let settles = elapses_weaker LeavesNone LeavesNone LeavesNone (Settles mid.seen) old mid first (λ q p could none. none)
      (λ q p could left none. record { told = none.told; whole = only p left }) in
      let both = elapses_twice LeavesNone (Settles mid.seen) (TornWrite 40 1) (SyncedWriteEnds ok 40 (1 ∷ []) mid.seen) old mid new settles second in
      elapses_weaker (WithinTwo LeavesNone (Settles mid.seen) (TornWrite 40 1)) (Then (Settles mid.seen) (SyncedWriteEnds ok 40 (1 ∷ []) mid.seen))
      (NoneOrFormatted header half seen) (StoreEnds ok header half seen) old new both
      (λ q p could steps. elim steps [ inl none ↦ record { told = none.told; image = inl none.image } | inr then ↦ gate_torn q p then ])
      (λ q p could left then. gate_ends ok q p then)

-- reads leave a device at rest
pub rests_after_reads : (old new : Device) → IsAtRest old → DiskReads true old new → IsAtRest new
rests_after_reads old new rest reads = record {
  honest = reads.calls.same.honest ∙ rest.honest;
  shows = reads.calls.same.shows ∙ rest.shows;
  settled = λ p left.
      let from = reads.time.now p left in
      ap (λ (l : Left). l.image) from.2 ∙ rest.settled from.0 from.1 ∙ sym reads.seen;
}

-- over a device at rest that is no store
module _ (old : Device) (rest : IsAtRest old) (none : ¬ (HasOpenHeader old.seen)) (h : Header) (rows : List ℕ) where
  still_none : (q p : Left) → may_leave old q → Unchanged q p → NoneOrNew h rows q p
  still_none q p could same = record {
    told = ap (λ (l : Left). l.told) same;
    image = inl (subst (λ (image : List ℕ). ¬ (HasOpenHeader image)) (sym (rest.settled q could) ∙ ap (λ (l : Left). l.image) (sym same)) none);
  }

  pub reads_failed : (new : Device) → Elapses Unchanged Unchanged old new → Elapses (NoneOrNew h rows) (NoneOrNew h rows) old new
  reads_failed new time =
      elapses_weaker Unchanged Unchanged (NoneOrNew h rows) (NoneOrNew h rows) old new time still_none (λ q p could left same. still_none q p could same)

  pub reads_refused : (new : Device) → Elapses Unchanged Unchanged old new → Elapses (NoneOrNew h rows) Unchanged old new
  reads_refused new time =
      elapses_weaker Unchanged Unchanged (NoneOrNew h rows) Unchanged old new time still_none (λ q p could left same. same)

  module _ (fits : FitsStore h (length old.seen) rows) (id : h.id < 2 ^ 128) where
    new_store : (q m p : Left) → Unchanged q m → NoneOrFormatted (header_text h) (half_text rows) old.seen m p → NoneOrNew h rows q p
    new_store q m p same steps = record {
      told = steps.told ∙ ap (λ (l : Left). l.told) same;
      image = elim steps.image [ inl no_store ↦ inl no_store | inr formatted ↦ inr (is_new_store old.seen p.image h rows fits id formatted) ];
    }

    abbrev MakesOrNot : Bool → Left → Left → Type 0
    MakesOrNot true = MakesStore h rows
    MakesOrNot false = NoneOrNew h rows

    store_ends : (ok : Bool) (q m p : Left) → Unchanged q m → StoreEnds ok (header_text h) (half_text rows) old.seen m p → MakesOrNot ok q p
    store_ends true q m p same steps = record {
      told = steps.told ∙ ap (λ (l : Left). l.told) same;
      image = is_new_store old.seen p.image h rows fits id steps.image;
    }
    store_ends false q m p same steps = new_store q m p same steps

    -- the gate is read, and then the store is made of these bytes
    pub formats : (ok : Bool) (gate : Gate) (header half : List ℕ) (mid new : Device) → header ≡ header_text h → half ≡ half_text rows → DiskReads true old mid
        → GateIs old.seen gate
        → (IsAtRest mid → GateIs mid.seen gate → ¬ (HasOpenHeader mid.seen) → Elapses (NoneOrFormatted header half mid.seen) (StoreEnds ok header half mid.seen)
        mid new)
        → Elapses (NoneOrNew h rows) (MakesOrNot ok) old new
    formats ok gate header half mid new header_is half_is reads is makes =
        let second = makes (rests_after_reads old mid rest reads) (rw reads.seen is) (rw reads.seen none) in
        let writes = subst (λ (image : List ℕ). Elapses (NoneOrFormatted header half image) (StoreEnds ok header half image) mid new) reads.seen second in
        let both = elapses_twice Unchanged Unchanged (NoneOrFormatted header half old.seen) (StoreEnds ok header half old.seen) old mid new reads.time writes in
        elapses_weaker (WithinTwo Unchanged Unchanged (NoneOrFormatted header half old.seen)) (Then Unchanged (StoreEnds ok header half old.seen))
        (NoneOrNew h rows) (MakesOrNot ok) old new both
        (λ q p could steps. elim steps [ inl same ↦ still_none q p could same | inr then ↦ new_store q then.0 p then.1 (rw (header_is, half_is) at then.2) ])
        (λ q p could left then. store_ends ok q then.0 p then.1 (rw (header_is, half_is) at then.2))
