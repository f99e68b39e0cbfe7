-- Rows that are found by their ids.
use Rattle.std.proofs.Common.{◌≡◌, ℕ, ℤ, int_eq, ◌==◌, List}
use Rattle.std.specs.List.{AllByRecursion}
use Rattle.media_rows.specs.declared.flow.FlowRow.{FlowRow}
use Rattle.media_rows.specs.declared.source.SourceRow.{SourceRow}
use Rattle.media_rows.specs.Catalog.{flow_of, source_of}
use Rattle.media_rows.specs.Views.{flow_key, id_key, source_key}
use Rattle.shared_tree.specs.Pairs.{is_at, value_at, values}
use Rattle.shared_tree.specs.Rows.{IsKeyedBy}
use Rattle.shared_tree.proofs.Rows.{found_is, tests_are}
use Rattle.id_index.proofs.Ids.{same_key}

pub flow_tests : (id : ℕ) (ps : List (ℤ × FlowRow)) → IsKeyedBy flow_key ps → AllByRecursion (λ p. (p.1.body.id == id) ≡ is_at (id_key id) p) ps
flow_tests id ps keyed = tests_are flow_key (λ row. row.body.id == id) (λ k. int_eq k (id_key id)) ps (λ row. same_key row.body.id id) keyed

pub source_tests : (id : ℕ) (ps : List (ℤ × SourceRow)) → IsKeyedBy source_key ps → AllByRecursion (λ p. (p.1.id == id) ≡ is_at (id_key id) p) ps
source_tests id ps keyed = tests_are source_key (λ row. row.id == id) (λ k. int_eq k (id_key id)) ps (λ row. same_key row.id id) keyed

pub flow_found : (id : ℕ) (ps : List (ℤ × FlowRow)) → IsKeyedBy flow_key ps → value_at (id_key id) ps ≡ flow_of id (values ps)
flow_found id ps keyed = found_is (λ row. row.body.id == id) (id_key id) ps (flow_tests id ps keyed)

pub source_found : (id : ℕ) (ps : List (ℤ × SourceRow)) → IsKeyedBy source_key ps → value_at (id_key id) ps ≡ source_of id (values ps)
source_found id ps keyed = found_is (λ row. row.id == id) (id_key id) ps (source_tests id ps keyed)
