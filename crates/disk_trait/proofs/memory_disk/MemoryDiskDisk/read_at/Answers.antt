use Rattle.std.proofs.Common.{length, refl}
use Rattle.std.proofs.lemmas.Result.{err_from_is_err_and}
use Rattle.disk_trait.proofs.MemoryDiskLemmas.{disk_call, same_seen}
use Rattle.disk_trait.specs.declared.history.Call.TheVariants.{Read}
use Rattle.disk_trait.proofs.memory_disk.MemoryDiskDisk.read_at.Goals as goal

pub returns-in_err-make_read-clause-call : goal.returns-in_err-make_read-clause-call
returns-in_err-make_read-clause-call c =
    let p = err_from_is_err_and c.from_residual.result c.from_residual.ensures.1 in
    rw p.1 (disk_call (Read c.args.at (length c.args.out.now) c.in_err-make_read.ensures.0) _ _ _ c.in_err-make_read.ensures.1)

pub returns-in_err-make_read-clause-seen : goal.returns-in_err-make_read-clause-seen
returns-in_err-make_read-clause-seen c =
    same_seen (Read c.args.at (length c.args.out.now) c.in_err-make_read.ensures.0) _ _ _ (λ _. refl) c.in_err-make_read.ensures.1

pub copy_out-requires : goal.copy_out-requires
copy_out-requires c =
    rw (c.image.ensures, same_seen (Read c.args.at (length c.args.out.now) c.in_ok-make_read.ensures.0) _ _ _ (λ _. refl) c.in_ok-make_read.ensures.1)
    c.requires

pub returns-clause-call : goal.returns-clause-call
returns-clause-call c = disk_call (Read c.args.at (length c.args.out.now) c.in_ok-make_read.ensures.0) _ _ _ c.in_ok-make_read.ensures.1

pub returns-clause-read : goal.returns-clause-read
returns-clause-read c =
    λ _. rw (
      c.copy_out.ensures,
      c.image.ensures,
      same_seen (Read c.args.at (length c.args.out.now) c.in_ok-make_read.ensures.0) _ _ _ (λ _. refl)
          c.in_ok-make_read.ensures.1,
    ) refl

pub returns-clause-seen : goal.returns-clause-seen
returns-clause-seen c = same_seen (Read c.args.at (length c.args.out.now) c.in_ok-make_read.ensures.0) _ _ _ (λ _. refl) c.in_ok-make_read.ensures.1
