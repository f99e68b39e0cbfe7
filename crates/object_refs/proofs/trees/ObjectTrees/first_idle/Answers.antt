use Rattle.std.proofs.Common.{◌≡◌, rules, FitsSigned, Some, None, ap, sym, ◌∙◌, arith}
use mir.Syntax.{w128}
use Rattle.std.proofs.lemmas.Int.{to_z-of_z}
use Rattle.media_rows.specs.Objects.{due_objects}
use Rattle.shared_tree.specs.Pairs.{first, value_at}
use Rattle.object_refs.specs.References.{objects_in, references_in}
use Rattle.object_refs.proofs.Sweeping.{first_found, first_seen, idle_least, is_first_due, none_is, not_over}
use Rattle.object_refs.proofs.trees.ObjectTrees.first_idle.Goals as goal

-- each key is that of an object
pub first_value-requires : goal.first_value-requires
first_value-requires c = record { least = idle_least c.self.inside.rows c.self.inside.names c.self.inside.idle c.self.invariant c.keys_rise-2.ensures }

-- an empty order has no object that is due
pub returns-in_default : goal.returns-in_default
returns-in_default c =
    sym (none_is c.self.inside.rows c.self.inside.names c.self.inside.idle c.args.now c.self.invariant c.keys_rise.ensures (sym c.in_default.ensures))
    ∙ ap (λ kept. first (due_objects (references_in kept) (objects_in kept) c.args.now)) c.self.view_is

-- the first serial is an object's
pub unreachable-requires : goal.unreachable-requires
unreachable-requires c =
    let rows = c.self.inside.rows in
    let fit : FitsSigned w128 c.serial_key.result = search rules in
    let none : None ≡ value_at c.serial_key.result rows = simp to_z-of_z at c.in_default-value_at.ensures in
    let f = first_seen rows c.self.inside.names c.self.inside.idle c.in-Some.serial.now c.self.invariant c.keys_rise.ensures c.keys_rise-2.ensures
    (sym c.in-Some.ensures) (sym (none ∙ ap (λ k. value_at k rows) c.serial_key.ensures)) in
    absurd (grind (arith, f))

-- it is due, and the first that is
pub returns-then-is_over : goal.returns-then-is_over
returns-then-is_over c =
    let rows = c.self.inside.rows in
    let kept = c.in-Some-value_at.kept.now in
    let fit : FitsSigned w128 c.serial_key.result = search rules in
    let there : Some kept ≡ value_at c.serial_key.result rows = simp to_z-of_z at c.in-Some-value_at.ensures in
    let is_first = first_found rows c.self.inside.names c.self.inside.idle c.in-Some.serial.now kept c.self.invariant c.keys_rise.ensures
    c.keys_rise-2.ensures (sym c.in-Some.ensures) (sym (there ∙ ap (λ k. value_at k rows) c.serial_key.ensures)) in
    sym (is_first_due rows c.self.inside.names c.self.inside.idle c.args.now kept c.self.invariant c.keys_rise.ensures is_first
    (sym c.is_over.ensures ∙ c.if-is_over.true))
    ∙ ap (λ all. first (due_objects (references_in all) (objects_in all) c.args.now)) c.self.view_is

-- where it isn't due, none is
pub returns-else-is_over : goal.returns-else-is_over
returns-else-is_over c =
    let rows = c.self.inside.rows in
    let kept = c.in-Some-value_at.kept.now in
    let fit : FitsSigned w128 c.serial_key.result = search rules in
    let there : Some kept ≡ value_at c.serial_key.result rows = simp to_z-of_z at c.in-Some-value_at.ensures in
    let is_first = first_found rows c.self.inside.names c.self.inside.idle c.in-Some.serial.now kept c.self.invariant c.keys_rise.ensures
    c.keys_rise-2.ensures (sym c.in-Some.ensures) (sym (there ∙ ap (λ k. value_at k rows) c.serial_key.ensures)) in
    sym (not_over rows c.self.inside.names c.self.inside.idle c.args.now kept c.self.invariant c.keys_rise.ensures is_first
    (sym c.is_over.ensures ∙ c.if-is_over.false))
    ∙ ap (λ all. first (due_objects (references_in all) (objects_in all) c.args.now)) c.self.view_is
