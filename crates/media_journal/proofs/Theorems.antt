-- Laws of what the images of a journal's device give, for those who call the journal.
use Rattle.std.proofs.Common.{◌≡◌, ◌≤◌, ◌+◌, ◌*◌, ℕ, true, List, arith}
use Rattle.disk_trait.specs.Device.{Device, IsDevice, Left, read_with}
use Rattle.disk_trait.specs.Calls.{Elapses, LeavesOnly, Torn}
use Rattle.media_journal.specs.Journal.{Contents, Position, Gives}
use Rattle.media_journal.specs.JournalMoments.{EachGives}
use Rattle.disk_trait.proofs.TornLemmas.{bytes_before}
use Rattle.media_journal.proofs.AppendLemmas.{active_start-most}
use Rattle.media_journal.proofs.CrashLemmas.{gives_before}

-- where nothing is pending, each image gives what a read gives
pub each_gives_settled : (d : Device) (p : Position) (held : Contents) → LeavesOnly d.seen d → Gives d.seen p held → EachGives d p held
each_gives_settled d p held settled given = record { gives = λ left could. rw (settled left could) given }

-- what each image gives, a read gives
pub gives_as_read : (d : Device) (p : Position) (held : Contents) → IsDevice d → d.shows ≡ true → EachGives d p held → Gives d.seen p held
gives_as_read d p held sound shows each =
    let could = sound.itself shows in
    each.gives (read_with d could.0) could.1

-- a call that keeps what the images give, such as a read, or a word to a peer
pub each_gives_kept : (within ended : Left → Left → Type 0) (old new : Device) (p : Position) (held : Contents) → Elapses within ended old new
    → ((before after : Left) → ended before after → after.image ≡ before.image) → EachGives old p held → EachGives new p held
each_gives_kept within ended old new p held time same each = record {
  gives = λ left could.
      let from = time.now left could in
      rw (same from.0 left from.2) (each.gives from.0 from.1);
}

-- a write at or behind the end of the room leaves what the image gives
pub gives_elsewhere : (at n : ℕ) (image other : List ℕ) (p : Position) (held : Contents) → p.gate + p.room ≤ at → Torn at n image other → Gives image p held
    → Gives other p held
gives_elsewhere at n image other p held behind torn g =
    gives_before image other p held torn.same_length (bytes_before at n image other torn 0 (p.gate + 1) (omega (arith, g.half.room, g.half.half.within))) g

-- the room ends before the media blocks
pub gives_before_media : (image : List ℕ) (p : Position) (held : Contents) → Gives image p held → p.gate + p.room ≤ 8192 + 4096 * (2 * held.header.half)
gives_before_media image p held g = omega (arith, g.half.room, g.active, active_start-most image held.header.half)
