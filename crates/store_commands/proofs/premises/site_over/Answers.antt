use Rattle.std.proofs.Common.{◌≡◌, ap, refl, subst, sym, ◌∙◌}
use Rattle.disk_trait.specs.Calls.{LeavesOnly}
use Rattle.disk_trait.specs.History.{seen_of}
use Rattle.disk_trait.specs.MemoryDisk.{memory_device}
use Rattle.site_edge.specs.MemorySite.{site_device}
use Rattle.store_states.specs.States.{StandsFor}
use Rattle.store_commands.proofs.premises.site_over.Goals as goal

-- what was made of the bytes reads as they, and leaves them alone
pub returns-clause-premises : goal.returns-clause-premises
returns-clause-premises c =
    let disk = c.from_bytes-disk.ensures.disk in
    let seen : seen_of c.from_bytes-disk.result.past ≡ c.args.bytes = ap (λ d. seen_of d.past) disk in
    let same : seen_of c.new-3.result.disk.past ≡ seen_of c.from_bytes-disk.result.past = ap (λ s. seen_of s.disk.past) c.new-3.ensures.site in
    let left : LeavesOnly (seen_of c.from_bytes-disk.result.past) (memory_device c.from_bytes-disk.result) =
    subst (λ b. LeavesOnly b (memory_device c.from_bytes-disk.result)) (sym seen) c.from_bytes-disk.ensures.durable in
    λ from stands given few. record {
      tells = record { honest = refl; shows = refl; tells = refl; clock_tells = refl };
      few = few;
      settled = subst (λ b. LeavesOnly b (site_device c.new-3.result)) (sym same) (c.new-3.ensures.durable left);
      stands = subst (λ b. StandsFor b from) (sym (same ∙ seen)) stands;
    }
