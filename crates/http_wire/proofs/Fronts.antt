-- The request at the front, by a head that was found.
use Rattle.std.proofs.Common.{◌≡◌, ℕ, ◌-◌, ◌<◌, ◌≤◌, Bool, true, false, List, length, take, drop, refl, sym, ap, ◌∙◌, arith, rules, Ok, Err, nat_lt, length-drop}
use Rattle.std.proofs.lemmas.Bool.Decides.{nat_tests}
use Rattle.http_wire.specs.Chunks.{chunked}
use Rattle.http_wire.specs.Heads.{Front, more, refused, whole}
use Rattle.http_wire.specs.Requests.{Got, IsNext, after_head, framed_body, with_content}
use Rattle.http_wire.specs.Within.Seeing.{IsFound, IsContentGiven, IsMediaOpened}
use Rattle.http_wire.specs.declared.framing.Framing.{Framing}
use Rattle.http_wire.specs.declared.framing.Framing.TheVariants.{Chunked, Length}
use Rattle.http_wire.specs.declared.framing.WireFault.{WireFault}
use Rattle.http_wire.specs.declared.framing.WireFault.TheVariants.{LengthRequired}
use Rattle.http_wire.specs.declared.head.FoundHead.{FoundHead}

-- a head that is refused
pub next_refused : (unread : List ℕ) (found : FoundHead) (fault : WireFault) → IsFound unread found → found.framing ≡ Err fault
    → IsNext unread (refused fault)
next_refused unread found fault known is = record {
  read = whole known.head found.length;
  head = known.stands;
  is = ap (after_head known.head found.length (drop found.length unread)) (sym is ∙ known.tells.framing);
}

-- what stands behind one that isn't
pub next_framed : (unread : List ℕ) (found : FoundHead) (framing : Framing) (media : Bool) (next : Front Got) (known : IsFound unread found)
    → found.framing ≡ Ok framing → found.is_media ≡ media
    → next ≡ framed_body media known.head found.length (drop found.length unread) framing → IsNext unread next
next_framed unread found framing media next known is kind all = record {
  read = whole known.head found.length;
  head = known.stands;
  is =
      all
      ∙ ap (λ m. framed_body m known.head found.length (drop found.length unread) framing) (sym kind ∙ known.tells.media)
      ∙ ap (after_head known.head found.length (drop found.length unread)) (sym is ∙ known.tells.framing);
}

module _ (unread : List ℕ) (found : FoundHead) (known : IsFound unread found) where
  pub next_opened : (size : ℕ) → found.framing ≡ Ok (Length size) → found.is_media ≡ true → IsMediaOpened unread found size
  next_opened size is kind = record {
    known = known;
    next = next_framed unread found (Length size) true _ known is kind refl;
  }

  pub next_media_chunked : found.framing ≡ Ok Chunked → found.is_media ≡ true → IsNext unread (refused LengthRequired)
  next_media_chunked is kind = next_framed unread found Chunked true _ known is kind refl

  pub next_short : (size : ℕ) → found.framing ≡ Ok (Length size) → found.is_media ≡ false → length unread - found.length < size
      → IsNext unread more
  next_short size is kind short =
      let few : length (drop found.length unread) < size = omega (arith, length-drop found.length unread) in
      let test : nat_lt (length (drop found.length unread)) size ≡ true = search (arith, rules, nat_tests) in
      next_framed unread found (Length size) false _ known is kind (rw test refl)

  pub next_plain : (size : ℕ) → found.framing ≡ Ok (Length size) → found.is_media ≡ false → size ≤ length unread - found.length
      → IsContentGiven unread (take size (drop found.length unread)) found size
  next_plain size is kind long =
      let many : size ≤ length (drop found.length unread) = omega (arith, length-drop found.length unread) in
      let test : nat_lt (length (drop found.length unread)) size ≡ false = search (arith, rules, nat_tests) in
      record {
        known = known;
        next = next_framed unread found (Length size) false _ known is kind (rw test refl);
        inside = omega (arith, known.inside);
      }

  pub next_chunked : (body : Front (List ℕ)) → found.framing ≡ Ok Chunked → found.is_media ≡ false
      → chunked (drop found.length unread) ≡ body → IsNext unread (with_content known.head found.length body)
  next_chunked body is kind all =
      next_framed unread found Chunked false _ known is kind (ap (with_content known.head found.length) (sym all))
