use Rattle.std.proofs.Common.{◌≡◌, None, [], length, rules, ap, sym, subst, ◌∙◌, FitsSigned}
use mir.Syntax.{w128}
use Rattle.std.proofs.lemmas.Bool.{eqb-true}
use Rattle.std.proofs.lemmas.Int.{to_z-of_z}
use Rattle.shared_tree.specs.Pairs.{with_pair, without_key}
use Rattle.object_refs.specs.NameTables.{Renames}
use Rattle.object_refs.specs.Within.Names.{bucket_without}
use Rattle.object_refs.proofs.Lists.{none_of_length}
use Rattle.object_refs.proofs.Naming.{named_none, named_without}
use Rattle.object_refs.proofs.names.NameTable.without.Goals as goal

-- the id is left out of the bucket of its number
pub returns : goal.returns
returns c =
    let bucket = c.in_ok-bucket.bucket in
    let old = c.self.inside.buckets in
    let new = c.in_ok-with_value.field-0 in
    let fit : FitsSigned w128 c.number_key-key.result = search rules in
    let put : new ≡ with_pair (c.number_key-key.result, bucket) old = simp to_z-of_z at c.in_ok-with_value.ensures in
    subst (λ names. Renames c.args.number c.args.id.now None names new) c.self.view_is
    (named_without c.args.number c.args.id.now bucket old new (c.in_ok-bucket.ensures ∙ ap (bucket_without c.args.id.now) c.bucket_at.ensures)
    (put ∙ ap (λ k. with_pair (k, bucket) old) c.number_key-key.ensures))

-- a bucket that is empty goes
pub returns-then-is_empty : goal.returns-then-is_empty
returns-then-is_empty c =
    let bucket = c.in_ok-bucket.bucket in
    let old = c.self.inside.buckets in
    let new = c.in_ok-without_value.field-0 in
    let fit : FitsSigned w128 c.number_key-key.result = search rules in
    let cut : new ≡ without_key c.number_key-key.result old = simp to_z-of_z at c.in_ok-without_value.ensures in
    let none : bucket ≡ [] =
    none_of_length bucket (ap length (sym c.items.ensures) ∙ eqb-true (length c.items.result.now) 0 (sym c.is_empty.ensures ∙ c.if-is_empty.true)) in
    subst (λ names. Renames c.args.number c.args.id.now None names new) c.self.view_is
    (named_none c.args.number c.args.id.now bucket old new (c.in_ok-bucket.ensures ∙ ap (bucket_without c.args.id.now) c.bucket_at.ensures) none
    (cut ∙ ap (λ k. without_key k old) c.number_key-key.ensures))
