use Rattle.std.proofs.Common.{None, arith, rules}
use Rattle.std.proofs.lemmas.Grind.{common_steps}
use Rattle.hls_manifest.specs.Manifests.{last_behind}
use Rattle.hls_manifest.proofs.ManifestLemmas.{manifest_more}
use Rattle.hls_manifest.proofs.manifest.Manifest.name.Goals as goal

-- its fields are those of the manifest with this entry more
pub returns-clause-names : goal.returns-clause-names
returns-clause-names c = λ rows is.
    let same = c.in_ok-entry.ensures.value (last_behind None rows) is.last in
    manifest_more rows c.args.row.now c.args.self.now _ c.in_ok-entry.entry is same
    (record {
      base = search rules;
      body = grind (arith, common_steps);
      target = grind (arith, common_steps);
      objects = grind (arith, common_steps);
      last = grind (arith, common_steps);
    })
