-- The bytes of an extent, read and hashed piece by piece.
use Rattle.std.proofs.Common.{◌≡◌, ◌≤◌, ◌+◌, ◌∙◌, ℕ, true, List, [], ◌++◌, length, take, drop, sym, ap, subst, arith}
use Rattle.std.proofs.Math.Nat.{min-le_left}
use Rattle.std.proofs.Math.Seq.{take-add}
use Rattle.std.proofs.lemmas.List.{length-take, take_all}
use Rattle.disk_trait.proofs.Theorems.{no_reads, reads_twice}
use Rattle.disk_trait.specs.Calls.{DiskReads, bytes_at}
use Rattle.disk_trait.specs.Device.{Device}
use Rattle.media_rows.specs.declared.object.Extent.{Extent}
use Rattle.object_blobs.specs.Extents.{extent_bytes, extent_start}
use Rattle.sha2.specs.declared.Sha256.{Sha256}
use Rattle.sha2.specs.Hashers.{Holds256}

-- pieces so far: the hasher has taken so many bytes, and no call failed
pub record HasRead (area : ℕ) (extent : Extent) (hasher : Sha256) (first now : Device) (at : ℕ) : Type 0 where
  pub within : at ≤ extent.length
  pub reads : DiskReads true first now
  pub holds : first.shows ≡ true → Holds256 hasher (take at (extent_bytes area extent first.seen))

pub read_first : (area : ℕ) (extent : Extent) (hasher : Sha256) (d : Device) → Holds256 hasher [] → HasRead area extent hasher d d 0
read_first area extent hasher d holds = record { within = omega arith; reads = no_reads d; holds = λ shows. holds }

-- a piece more
pub read_more : (area : ℕ) (extent : Extent) (hasher taken : Sha256) (first now next : Device) (at to count : ℕ) (piece : List ℕ)
    → HasRead area extent hasher first now at → to ≡ at + count → to ≤ extent.length → DiskReads true now next
    → (now.shows ≡ true → piece ≡ bytes_at (extent_bytes area extent now.seen) at count)
    → ((m : List ℕ) → Holds256 hasher m → Holds256 taken (m ++ piece))
    → HasRead area extent taken first next to
read_more area extent hasher taken first now next at to count piece so_far behind within reads is takes = record {
  within = within;
  reads = reads_twice true first now next so_far.reads reads;
  holds = λ shows.
      let bytes = extent_bytes area extent first.seen in
      subst (Holds256 taken)
      (sym (ap (λ n. take n bytes) behind
      ∙ take-add at count bytes
      ∙ ap (λ l. take at bytes ++ l) (sym (is (so_far.reads.calls.same.shows ∙ shows)
      ∙ ap (λ seen. bytes_at (extent_bytes area extent seen) at count) so_far.reads.seen))))
      (takes (take at bytes) (so_far.holds shows));
}

-- all bytes were taken
pub read_all : (area : ℕ) (extent : Extent) (hasher : Sha256) (first now : Device) (at : ℕ)
    → HasRead area extent hasher first now at → extent.length ≤ at → first.shows ≡ true → Holds256 hasher (extent_bytes area extent first.seen)
read_all area extent hasher first now at so_far whole shows =
    let bytes = extent_bytes area extent first.seen in
    subst (Holds256 hasher) (take_all at bytes (omega (arith, whole, length-take extent.length (drop (extent_start area extent) first.seen), min-le_left extent.length (length (drop (extent_start area extent) first.seen))))) (so_far.holds shows)
