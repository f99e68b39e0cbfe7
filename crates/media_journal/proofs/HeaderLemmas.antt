-- The header of an image, read from its first 41 bytes.
use Rattle.std.proofs.Common.{◌≡◌, ℕ, List, ◌++◌, length, take, drop, Option, Some, None, refl, sym, ap, ap₂, ◌∙◌, arith}
use Rattle.std.proofs.lemmas.List.{take-append-drop}
use Rattle.disk_trait.specs.Calls.{bytes_at}
use Rattle.disk_trait.specs.Numbers.{u64_bytes, u128_bytes}
use Rattle.disk_trait.proofs.NumberLemmas.{length-u64_bytes, same_front, same_rest, same_u64, same_u128}
use Rattle.disk_trait.proofs.OverwriteLemmas.{bytes_at-bytes_at, get_or-bytes_at}
use Rattle.media_journal.specs.declared.header.Header.{Header}
use Rattle.media_journal.specs.File.{magic, header_text, IsHeader, HasOpenHeader, HeaderAnswer}

-- the parts of a header's text are the text
pub header_text-parts : (text : List ℕ) (h : Header) → take 8 text ≡ magic → u64_bytes h.blocks ≡ take 8 (drop 8 text)
    → u64_bytes h.half ≡ take 8 (drop 8 (drop 8 text)) → u128_bytes h.id ≡ drop 8 (drop 8 (drop 8 text)) → text ≡ header_text h
unfolding header_text
header_text-parts text h begins blocks half id =
    sym (take-append-drop 8 text) ∙ ap₂ ◌++◌ begins (sym (take-append-drop 8 (drop 8 text)) ∙ ap₂ ◌++◌ (sym blocks)
    (sym (take-append-drop 8 (drop 8 (drop 8 text))) ∙ ap₂ ◌++◌ (sym half) (sym id)))

-- an image has an open header where its first 41 bytes have
pub has_front : (image : List ℕ) → HasOpenHeader image → HasOpenHeader (bytes_at image 0 41)
has_front image has = record {
  begins = bytes_at-bytes_at image 0 41 0 8 (omega arith) ∙ has.begins;
  gate = get_or-bytes_at image 0 41 40 0 (omega arith) ∙ has.gate;
}

pub front_has : (image : List ℕ) → HasOpenHeader (bytes_at image 0 41) → HasOpenHeader image
front_has image has = record {
  begins = sym (bytes_at-bytes_at image 0 41 0 8 (omega arith)) ∙ has.begins;
  gate = sym (get_or-bytes_at image 0 41 40 0 (omega arith)) ∙ has.gate;
}

-- what the first 41 bytes say, the image says
pub HeaderAnswer-front : (image : List ℕ) (answer : Option Header) → HeaderAnswer (bytes_at image 0 41) answer → HeaderAnswer image answer
HeaderAnswer-front image None h = λ has. h (has_front image has)
HeaderAnswer-front image (Some header) h = record {
  gate = sym (get_or-bytes_at image 0 41 40 0 (omega arith)) ∙ h.gate;
  text = sym (bytes_at-bytes_at image 0 41 0 40 (omega arith)) ∙ h.text;
  blocks = h.blocks;
  half = h.half;
  id = h.id;
}

pub length-magic : length magic ≡ 8
unfolding magic
length-magic = refl

-- an image has one header
pub one_header : (image : List ℕ) (a b : Header) → IsHeader image a → IsHeader image b → a ≡ b
unfolding header_text
one_header image a b first second =
    let texts : magic ++ (u64_bytes a.blocks ++ (u64_bytes a.half ++ u128_bytes a.id)) ≡ magic
    ++ (u64_bytes b.blocks ++ (u64_bytes b.half ++ u128_bytes b.id)) =
    sym first.text ∙ second.text in
    let numbers = same_rest 8 magic _ magic _ length-magic length-magic texts in
    let blocks =
    same_u64 a.blocks b.blocks first.blocks second.blocks (same_front 8 (u64_bytes a.blocks) _ (u64_bytes b.blocks) _ (length-u64_bytes a.blocks)
    (length-u64_bytes b.blocks) numbers) in
    let behind = same_rest 8 (u64_bytes a.blocks) _ (u64_bytes b.blocks) _ (length-u64_bytes a.blocks) (length-u64_bytes b.blocks) numbers in
    let half =
    same_u64 a.half b.half first.half second.half (same_front 8 (u64_bytes a.half) _ (u64_bytes b.half) _ (length-u64_bytes a.half) (length-u64_bytes b.half)
    behind) in
    let id =
    same_u128 a.id b.id first.id second.id (same_rest 8 (u64_bytes a.half) _ (u64_bytes b.half) _ (length-u64_bytes a.half) (length-u64_bytes b.half) behind) in
    let make : ℕ → ℕ → ℕ → Header = λ x y z. record { blocks = x; half = y; id = z } in
    ap₂ (λ (x y : ℕ). make x y a.id) blocks half ∙ ap (λ (z : ℕ). make b.blocks b.half z) id
