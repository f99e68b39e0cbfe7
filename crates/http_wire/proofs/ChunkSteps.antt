-- Chunks one after another, whatever follows.
use Rattle.std.proofs.Common.{◌≡◌, ℕ, zero, suc, ◌+◌, ◌-◌, ◌<◌, ◌≤◌, Bool, true, false, cond, List, [], ◌∷◌, ◌++◌, length, take, drop, refl, sym, ap, ◌∙◌, arith, rules, Option, Some, None, append_assoc, nat_eq, nat_lt, length-append, length-drop, drop-drop, add_assoc}
use Rattle.std.proofs.lemmas.Bool.Decides.{nat_tests}
use Rattle.std.proofs.lemmas.List.{drop-append-le, take-append-le}
use Rattle.http_wire.specs.Chunks.{behind_data, chunk_data, chunks, chunks_within, data_ending, line_size, lined_chunk, one_chunk, prefixed, sized_chunk, trailer, body_end}
use Rattle.http_wire.specs.Heads.{Front, more, refused, whole}
use Rattle.http_wire.specs.declared.framing.WireFault.TheVariants.{TooLarge}
use Rattle.http_wire.specs.Lines.{line_end}
use Rattle.http_wire.specs.Within.Reading.{IsChunk}
use Rattle.http_wire.specs.declared.chunk_line.FrontEnd.{FrontEnd}
use Rattle.http_wire.specs.declared.chunk_line.FrontEnd.TheVariants.{Ended, Open, Wrong}
use Rattle.http_wire.proofs.Ends.{line_end-append_some}

-- ---- what stands before

pub prefixed-prefixed : (a b : List ℕ) (n m : ℕ) (f : Front (List ℕ))
    → prefixed a n (prefixed b m f) ≡ prefixed (a ++ b) (n + m) f
prefixed-prefixed a b n m more = refl
prefixed-prefixed a b n m (refused fault) = refl
prefixed-prefixed a b n m (whole body k) = rw (append_assoc, add_assoc) refl

pub prefixed-nothing : (f : Front (List ℕ)) → prefixed [] 0 f ≡ f
prefixed-nothing more = refl
prefixed-nothing (refused fault) = refl
prefixed-nothing (whole body k) = let e : 0 + k ≡ k = omega arith in ap (λ n. whole body n) e

-- ---- a chunk

open_or_wrong : (b : Bool) → cond b Open Wrong ≡ Ended 2 → ⊥
open_or_wrong true e = cc
open_or_wrong false e = cc

closed-append : (bytes later : List ℕ) → data_ending bytes ≡ Ended 2 → data_ending (bytes ++ later) ≡ Ended 2
closed-append [] later e = cc
closed-append (c ∷ []) later e = absurd (open_or_wrong (nat_eq c 13) e)
closed-append (c ∷ l ∷ bytes) later e = e

-- a chunk's data, whatever follows
data_steps : (rest : List ℕ) (s : ℕ) → s + 2 ≤ length rest → data_ending (drop s rest) ≡ Ended 2 → (next : List ℕ → Front (List ℕ)) (later : List ℕ)
    → chunk_data next s (rest ++ later) ≡ prefixed (take s rest) (s + 2) (next (drop (s + 2) (rest ++ later)))
data_steps rest s inside ends next later =
    let long : s ≤ length (rest ++ later) = omega (arith, length-append rest later) in
    let there : nat_lt (length (rest ++ later)) s ≡ false = search (arith, rules, nat_tests) in
    let within : s ≤ length rest = omega arith in
    let closes = closed-append (drop s rest) later ends in
    rw (there, drop-append-le s rest later within, closes, take-append-le s rest later within) refl

-- a chunk with data, whatever follows
pub chunk_steps : (bytes : List ℕ) (room n s : ℕ) → IsChunk bytes room n s → (next : ℕ → List ℕ → Front (List ℕ)) (later : List ℕ)
    → one_chunk next room (bytes ++ later)
    ≡ prefixed (take s (drop n bytes)) (n + s + 2) (next (room - s) (drop (n + s + 2) (bytes ++ later)))
chunk_steps bytes room n s chunk next later =
    let line = chunk.line in
    let ends = line_end-append_some bytes later n line.ends in
    let in_line = take-append-le n bytes later line.inside in
    let rest = drop-append-le n bytes later line.inside in
    let some : nat_eq s 0 ≡ false = search (arith, rules, nat_tests) in
    let fits : nat_lt room s ≡ false = search (arith, rules, nat_tests) in
    let long : s + 2 ≤ length (drop n bytes) = omega (arith, length-drop n bytes, chunk.inside) in
    let closes : data_ending (drop s (drop n bytes)) ≡ Ended 2 = rw drop-drop chunk.ends in
    let sums : n + (s + 2) ≡ n + s + 2 = omega arith in
    let behind_it : drop (s + 2) (drop n bytes ++ later) ≡ drop (n + s + 2) (bytes ++ later) =
    ap (drop (s + 2)) (sym rest) ∙ drop-drop (s + 2) n (bytes ++ later) ∙ ap (λ k. drop k (bytes ++ later)) sums in
    let content = data_steps (drop n bytes) s long closes (next (room - s)) later in
    rw (ends, in_line, line.sized, some, fits, rest, content, prefixed-prefixed, sums, behind_it) refl

-- ---- more chunks than fit the room are as good as those that fit

data_same : (f g : List ℕ → Front (List ℕ)) (s : ℕ) (bytes : List ℕ) (end : FrontEnd) → ((rest : List ℕ) → f rest ≡ g rest)
    → behind_data f s bytes end ≡ behind_data g s bytes end
data_same f g s bytes Open same = refl
data_same f g s bytes Wrong same = refl
data_same f g s bytes (Ended m) same = ap (prefixed (take s bytes) (s + m)) (same (drop (s + m) bytes))

chunk_data_same : (f g : List ℕ → Front (List ℕ)) (s : ℕ) (bytes : List ℕ) (short : Bool) → ((rest : List ℕ) → f rest ≡ g rest)
    → cond short more (behind_data f s bytes (data_ending (drop s bytes))) ≡ cond short more (behind_data g s bytes (data_ending (drop s bytes)))
chunk_data_same f g s bytes true same = refl
chunk_data_same f g s bytes false same = data_same f g s bytes (data_ending (drop s bytes)) same

-- two ways to go on agree behind each chunk with data
abbrev Agree : ℕ → (ℕ → List ℕ → Front (List ℕ)) → (ℕ → List ℕ → Front (List ℕ)) → Type 0
Agree room f g = (s : ℕ) (rest : List ℕ) → 0 < s → s ≤ room → f (room - s) rest ≡ g (room - s) rest

sized_same : (f g : ℕ → List ℕ → Front (List ℕ)) (room n s : ℕ) (bytes : List ℕ) (last over : Bool) → nat_eq s 0 ≡ last → nat_lt room s ≡ over
    → Agree room f g
    → cond last (prefixed [] n (body_end (trailer bytes))) (cond over (refused TooLarge) (prefixed [] n (chunk_data (f (room - s)) s bytes)))
    ≡ cond last (prefixed [] n (body_end (trailer bytes))) (cond over (refused TooLarge) (prefixed [] n (chunk_data (g (room - s)) s bytes)))
sized_same f g room n s bytes true over is_last is_over same = refl
sized_same f g room n s bytes false true is_last is_over same = refl
sized_same f g room n s bytes false false is_last is_over same =
    let some : 0 < s = grind (arith, nat_tests) in
    let fits : s ≤ room = grind (arith, nat_tests) in
    ap (prefixed [] n) (chunk_data_same (f (room - s)) (g (room - s)) s bytes (nat_lt (length bytes) s) (λ rest. same s rest some fits))

lined_same : (f g : ℕ → List ℕ → Front (List ℕ)) (room n : ℕ) (bytes : List ℕ) (size : Option ℕ) → Agree room f g
    → sized_chunk f room n bytes size ≡ sized_chunk g room n bytes size
lined_same f g room n bytes None same = refl
lined_same f g room n bytes (Some s) same = sized_same f g room n s bytes (nat_eq s 0) (nat_lt room s) refl refl same

chunk_same : (f g : ℕ → List ℕ → Front (List ℕ)) (room : ℕ) (bytes : List ℕ) (end : Option ℕ) → Agree room f g
    → lined_chunk f room bytes end ≡ lined_chunk g room bytes end
chunk_same f g room bytes None same = refl
chunk_same f g room bytes (Some n) same = lined_same f g room n (drop n bytes) (line_size (take n bytes)) same

one_more : (count room : ℕ) (bytes : List ℕ) → room < count → chunks count room bytes ≡ chunks (suc count) room bytes
unfolding chunks
one_more zero room bytes few = absurd (omega arith)
one_more (suc count) room bytes few =
    chunk_same (chunks count) (chunks (suc count)) room bytes (line_end bytes)
    (λ s rest some fits. one_more count (room - s) rest (omega arith))

many_more : (k room : ℕ) (bytes : List ℕ) → chunks (k + suc room) room bytes ≡ chunks_within room bytes
many_more zero room bytes = let e : 0 + suc room ≡ suc room = omega arith in ap (λ n. chunks n room bytes) e
many_more (suc k) room bytes =
    let e : suc k + suc room ≡ suc (k + suc room) = omega arith in
    let few : room < k + suc room = omega arith in
    ap (λ n. chunks n room bytes) e ∙ sym (one_more (k + suc room) room bytes few) ∙ many_more k room bytes

-- so many chunks behind one with data
pub chunks_behind : (room s : ℕ) (bytes : List ℕ) → 0 < s → s ≤ room → chunks room (room - s) bytes ≡ chunks_within (room - s) bytes
chunks_behind room s bytes some fits =
    let e : room ≡ (s - 1) + suc (room - s) = omega arith in
    ap (λ n. chunks n (room - s) bytes) e ∙ many_more (s - 1) (room - s) bytes

-- as many chunks as fit are one, and those behind it
pub chunks_within-one : (room : ℕ) (bytes : List ℕ) → chunks_within room bytes ≡ one_chunk (chunks room) room bytes
unfolding chunks
chunks_within-one room bytes = refl
