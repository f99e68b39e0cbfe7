-- What a sink takes.
use Rattle.std.specs.Prelude.{◌≡◌, Bool, ℕ, List, ◌++◌}
use Rattle.site_edge.specs.Links.{Sends}

-- the bytes taken after a put: these bytes more, or a prefix of them where it failed
abbrev pub Puts : Bool → List ℕ → List ℕ → List ℕ → Type 0
Puts ok bytes old new = (sent : List ℕ) × Sends ok bytes sent × (new ≡ old ++ sent)
