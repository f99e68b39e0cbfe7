use Rattle.std.proofs.Common.{◌≡◌, Some, rules, ap, subst, ◌∙◌, FitsSigned}
use mir.Syntax.{w128}
use Rattle.std.proofs.lemmas.Int.{to_z-of_z}
use Rattle.shared_tree.specs.Pairs.{with_pair}
use Rattle.object_refs.specs.NameTables.{Renames}
use Rattle.object_refs.specs.Within.Names.{bucket_with}
use Rattle.object_refs.proofs.Naming.{named_with}
use Rattle.object_refs.proofs.names.NameTable.with.Goals as goal

-- the entry stands in the bucket of its number
pub returns : goal.returns
returns c =
    let bucket = c.in_ok-bucket.bucket in
    let old = c.self.inside.buckets in
    let new = c.in_ok-with_value.field-0 in
    let fit : FitsSigned w128 c.number_key.result = search rules in
    let put : new ≡ with_pair (c.number_key.result, bucket) old = simp to_z-of_z at c.in_ok-with_value.ensures in
    subst (λ names. Renames c.args.number c.args.id (Some c.args.serial) names new) c.self.view_is
    (named_with c.args.number (record { id = c.args.id; serial = c.args.serial }) bucket old new
    (c.in_ok-bucket.ensures ∙ ap (bucket_with (record { id = c.args.id; serial = c.args.serial })) c.bucket_at.ensures)
    (put ∙ ap (λ k. with_pair (k, bucket) old) c.number_key.ensures))
