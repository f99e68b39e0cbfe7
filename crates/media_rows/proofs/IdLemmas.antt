-- The text of an id is read as that id.
use Rattle.std.proofs.Common.{◌≡◌, ◌<◌, ◌^◌, ◌∙◌, ℕ, zero, suc, All, Some, option_map, inl, refl, sym, ap, length, arith}
use Rattle.std.specs.Int.{w128, byte_at, bytes_high_first, to_be_bytes, from_be_bytes}
use Rattle.uuid.specs.Text.{lower}
use Rattle.uuid.proofs.RoundTrips.{parses_hyphenated}
use Rattle.uuid.proofs.TextLemmas.{by_index_length}
use Rattle.uuid.proofs.OrderLemmas.{from_be_bytes-to_be_bytes_16}
use Rattle.media_rows.specs.Ids.{id_of, id_text}

byte_fits : (k n : ℕ) → byte_at k n < 256
byte_fits zero n = omega arith
byte_fits (suc k) n = omega arith

bytes_fit : (k n : ℕ) → All (λ b. b < 256) (bytes_high_first k n)
bytes_fit zero n i d h = absurd (omega arith)
bytes_fit (suc k) n zero d h = byte_fits k n
bytes_fit (suc k) n (suc i) d h = bytes_fit k n i d (omega arith)

pub length-id_text : (id : ℕ) → length (id_text id) ≡ 36
unfolding id_text
length-id_text id = by_index_length 36 _

pub id_of-id_text : (id : ℕ) → id < 2 ^ 128 → id_of (id_text id) ≡ Some id
unfolding id_of id_text
id_of-id_text id small =
    ap (option_map (from_be_bytes w128)) (sym (parses_hyphenated lower (to_be_bytes w128 id) (inl refl) refl (bytes_fit 16 id)))
    ∙ ap Some (from_be_bytes-to_be_bytes_16 id small)
