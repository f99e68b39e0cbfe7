use Rattle.std.proofs.Common.{◌≡◌, ◌<◌, ◌≤◌, ◌-◌, true}
use Rattle.disk_trait.specs.Calls.{DiskReads}
use Rattle.media_journal.specs.File.{AreRecords}
use Rattle.media_journal.specs.Within.Window.{IsPieceOn}
use Rattle.media_journal.proofs.scan.read_chain.Given as goal

abbrev pub invariant-records : goal.invariant-records
invariant-records g l = record {
  reads : DiskReads true (g.D.Disk.device l.initial.disk) (g.D.Disk.device l.disk);
  end : l.window.end ≡ l.initial.window.end;
  piece : IsPieceOn (g.D.Disk.device l.disk) l.window;
  chain : (g.D.Disk.device l.initial.disk).shows ≡ true → AreRecords (g.D.Disk.device l.initial.disk).seen l.from l.records l.at;
  behind : l.from ≤ l.at;
  within : l.at < l.window.end;
}

abbrev pub decreases-records : goal.decreases-records
decreases-records g l = l.window.end - l.at
