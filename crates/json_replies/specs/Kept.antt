-- The law on essence texts: what a client said of a flow's media is shown as it was kept, byte by
-- byte.
use Rattle.std.specs.Prelude.{◌≡◌, ℕ, List, IsTrue}
use Rattle.json.specs.Print.{print}
use Rattle.media_rows.specs.Essence.{is_essence}
use Rattle.json_replies.specs.Values.{kept_value}

-- an essence text is what is printed for it
abbrev pub EssenceStands : Type 0
EssenceStands = (text : List ℕ) → IsTrue (is_essence text) → print (kept_value text) ≡ text
