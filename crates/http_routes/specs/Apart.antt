-- The law on the table of routes: no path is one of two.
use Rattle.std.specs.Prelude.{ℕ, List, IsTrue, not, ◌&&◌}
use Rattle.media_rows.specs.Lists.{each_pair}
use Rattle.http_routes.specs.Paths.{is_path_of}
use Rattle.http_routes.specs.Table.{all_routes}

-- a path is one of at most one of each two routes, so their order in the table doesn't matter
abbrev pub AreApart : Type 0
AreApart =
    (path : List ℕ)
    → IsTrue (each_pair (λ route other. not (is_path_of path route && is_path_of path other))
    all_routes)
