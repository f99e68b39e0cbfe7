-- Registries that are made from rows. Our own rules.
use Rattle.std.specs.Prelude.{ℕ, Bool, ◌&&◌}
use Rattle.media_rows.specs.Restoring.{can_restore_catalog, can_restore_outbox, can_restore_requests, catalog_of, outbox_of, requests_of}
use Rattle.core_registry.specs.declared.restores.RegistryRows.{RegistryRows}
use Rattle.core_registry.specs.Registry.{Registry}

-- each book can be made of its rows
abbrev pub can_restore : RegistryRows → Bool
can_restore rows =
    can_restore_catalog rows.sources rows.flows
    && (can_restore_requests rows.requests && can_restore_outbox rows.hooks rows.events)

-- the registry of rows in any order, with this next serial
abbrev pub registry_of_rows : RegistryRows → ℕ → Registry
registry_of_rows rows next_serial = record {
  catalog = catalog_of rows.sources rows.flows;
  requests = requests_of rows.requests;
  outbox = outbox_of rows.hooks rows.events;
  next_serial = next_serial;
}
