-- What was sent whole.
use Rattle.std.proofs.Common.{ℕ, List, [], true, refl, sym, append-nil}
use Rattle.site_edge.specs.Links.{Sends}

pub sends_all : (bytes : List ℕ) → Sends true bytes bytes
sends_all bytes = record { prefix = ([], sym (append-nil bytes)); whole = λ _. refl }
