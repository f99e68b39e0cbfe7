use Rattle.std.proofs.Common.{rules, ap}
use Rattle.hls_manifest.specs.Manifests.{ManifestSeen}
use Rattle.hls_manifest.proofs.ManifestLemmas.{manifest_parts}
use Rattle.hls_manifest.proofs.manifest.Manifest.finish.Goals as goal

-- the head, the entries and the end are the manifest's text
pub returns : goal.returns
returns c = λ rows is.
    let target = ap (λ (seen : ManifestSeen). seen.target) c.self.view_is in
    manifest_parts rows c.args.self.now c.self.inside.target _ _ _ _ is target c.new-text.ensures
    c.in_ok-append_head.ensures (search rules) c.in_ok-append_end.ensures
