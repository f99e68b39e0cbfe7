-- Records that stand one behind the other.
use Rattle.std.proofs.Common.{◌≡◌, ◌≤◌, ◌+◌, ℕ, List, [], ◌∷◌, ◌++◌, length, refl, sym, ◌∙◌, subst, arith}
use Rattle.disk_trait.specs.Calls.{bytes_at}
use Rattle.media_journal.specs.declared.record.Record.{Record}
use Rattle.media_journal.specs.File.{AreRecords, IsRecordAt}

pub chain_bounds : (image : List ℕ) (from : ℕ) (rs : List Record) (to : ℕ) → AreRecords image from rs to → from ≤ to
chain_bounds image from [] to e = omega (arith, e)
chain_bounds image from (r ∷ rs) to h = omega (arith, chain_bounds image (from + (5 + length r.payload)) rs to h.2)

-- an image that is the same from the first record up to the end has the same records
pub chain_kept_within : (image other : List ℕ) (from : ℕ) (rs : List Record) (to : ℕ)
    → ((i n : ℕ) → from ≤ i → i + n ≤ to → bytes_at other i n ≡ bytes_at image i n) → AreRecords image from rs to → AreRecords other from rs to
chain_kept_within image other from [] to same e = e
chain_kept_within image other from (r ∷ rs) to same h = (
  h.0,
  record {
    text = same from (5 + length r.payload) (omega arith) (chain_bounds image (from + (5 + length r.payload)) rs to h.2) ∙ h.1.text;
    short = h.1.short;
  },
  chain_kept_within image other (from + (5 + length r.payload)) rs to (λ i n lower upper. same i n (omega arith) upper) h.2,
)

-- so has one that is the same before the end
pub chain_kept : (image other : List ℕ) (from : ℕ) (rs : List Record) (to : ℕ) → ((i n : ℕ) → i + n ≤ to → bytes_at other i n ≡ bytes_at image i n)
    → AreRecords image from rs to → AreRecords other from rs to
chain_kept image other from rs to same h = chain_kept_within image other from rs to (λ i n lower upper. same i n upper) h

-- one more record at the end
pub chain_push : (image : List ℕ) (from : ℕ) (rs : List Record) (mid : ℕ) (payload : List ℕ) → AreRecords image from rs mid → IsRecordAt image mid payload
    → AreRecords image from (rs ++ record { offset = mid; payload = payload } ∷ []) (mid + (5 + length payload))
chain_push image from [] mid payload e last =
    subst (λ (at : ℕ). (mid ≡ at) × IsRecordAt image at payload × (at + (5 + length payload) ≡ mid + (5 + length payload))) (sym e) (refl, last, refl)
chain_push image from (r ∷ rs) mid payload h last = (h.0, h.1, chain_push image (from + (5 + length r.payload)) rs mid payload h.2 last)
