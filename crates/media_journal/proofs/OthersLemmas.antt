-- What formatting doesn't write.
use Rattle.std.proofs.Common.{◌≡◌, ◌≤◌, ◌+◌, ◌∙◌, ℕ, refl, subst, sym, arith, zero-add}
use Rattle.disk_trait.specs.Device.{Device, Left}
use Rattle.disk_trait.specs.Calls.{Elapses, TornWrite, Unchanged}
use Rattle.disk_trait.proofs.Theorems.{elapses_along, elapses_weaker}
use Rattle.disk_trait.proofs.TornLemmas.{bytes_before, bytes_behind, torn_wider}
use Rattle.media_journal.specs.JournalMoments.{WritesStore}

-- no write at all
itself : (size : ℕ) (p : Left) → WritesStore size p p
itself size p = record { told = refl; image = record { header = refl; selector = refl; rest = refl; same_length = refl } }

twice : (size : ℕ) (q m p : Left) → WritesStore size q m → WritesStore size m p → WritesStore size q p
twice size q m p one two = record {
  told = two.told ∙ one.told;
  image = record {
    header = two.image.header ∙ one.image.header;
    selector = two.image.selector ∙ one.image.selector;
    rest = two.image.rest ∙ one.image.rest;
    same_length = two.image.same_length ∙ one.image.same_length;
  };
}

module _ (size at n : ℕ) (q p : Left) (torn : TornWrite at n q p) where
  -- a write of the header or its gate
  of_header : at + n ≤ 41 → WritesStore size q p
  of_header within = record {
    told = torn.told;
    image = record {
      header = bytes_behind at n q.image p.image torn.image 41 4055 within;
      selector = bytes_behind at n q.image p.image torn.image 4097 4095 (omega arith);
      rest = rw zero-add at ((torn_wider at n q.image p.image torn.image 0 (8192 + size) (omega arith) (omega arith)).after);
      same_length = torn.image.same_length;
    };
  }

  -- of the selector
  of_selector : 4096 ≤ at → at + n ≤ 4097 → WritesStore size q p
  of_selector from within = record {
    told = torn.told;
    image = record {
      header = bytes_before at n q.image p.image torn.image 41 4055 (omega arith);
      selector = bytes_behind at n q.image p.image torn.image 4097 4095 within;
      rest = rw zero-add at ((torn_wider at n q.image p.image torn.image 0 (8192 + size) (omega arith) (omega arith)).after);
      same_length = torn.image.same_length;
    };
  }

  -- of half A
  of_half : 8192 ≤ at → at + n ≤ 8192 + size → WritesStore size q p
  of_half from within = record {
    told = torn.told;
    image = record {
      header = bytes_before at n q.image p.image torn.image 41 4055 (omega arith);
      selector = bytes_before at n q.image p.image torn.image 4097 4095 (omega arith);
      rest = rw zero-add at ((torn_wider at n q.image p.image torn.image 0 (8192 + size) (omega arith) (omega arith)).after);
      same_length = torn.image.same_length;
    };
  }

-- The same over calls of a device: none that writes, a write of the header or its gate, of the selector, of
-- half A, and some before others.
pub others_quiet : (size : ℕ) (old new : Device) → Elapses Unchanged Unchanged old new → Elapses (WritesStore size) (WritesStore size) old new
others_quiet size old new time =
    elapses_weaker Unchanged Unchanged (WritesStore size) (WritesStore size) old new time (λ q p could same. same_step q p same)
    (λ q p could left same. same_step q p same)
  where
    same_step : (q p : Left) → p ≡ q → WritesStore size q p
    same_step q p same = subst (λ (r : Left). WritesStore size q r) (sym same) (itself size q)

pub others_header : (size at n : ℕ) (old new : Device) → at + n ≤ 41 → Elapses (TornWrite at n) (TornWrite at n) old new
    → Elapses (WritesStore size) (WritesStore size) old new
others_header size at n old new within time =
    elapses_weaker (TornWrite at n) (TornWrite at n) (WritesStore size) (WritesStore size) old new time (λ q p could torn. of_header size at n q p torn within)
    (λ q p could left torn. of_header size at n q p torn within)

pub others_selector : (size : ℕ) (old new : Device) → Elapses (TornWrite 4096 1) (TornWrite 4096 1) old new
    → Elapses (WritesStore size) (WritesStore size) old new
others_selector size old new time =
    elapses_weaker (TornWrite 4096 1) (TornWrite 4096 1) (WritesStore size) (WritesStore size) old new time
    (λ q p could torn. of_selector size 4096 1 q p torn (omega arith) (omega arith))
    (λ q p could left torn. of_selector size 4096 1 q p torn (omega arith) (omega arith))

pub others_half : (size : ℕ) (old new : Device) → Elapses (TornWrite 8192 size) (TornWrite 8192 size) old new
    → Elapses (WritesStore size) (WritesStore size) old new
others_half size old new time =
    elapses_weaker (TornWrite 8192 size) (TornWrite 8192 size) (WritesStore size) (WritesStore size) old new time
    (λ q p could torn. of_half size 8192 size q p torn (omega arith) (omega arith))
    (λ q p could left torn. of_half size 8192 size q p torn (omega arith) (omega arith))

pub others_along : (size : ℕ) (old mid new : Device) → Elapses (WritesStore size) (WritesStore size) old mid
    → Elapses (WritesStore size) (WritesStore size) mid new → Elapses (WritesStore size) (WritesStore size) old new
others_along size old mid new first second = elapses_along (WritesStore size) old mid new (twice size) first second
