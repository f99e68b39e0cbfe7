-- One request stands at the front of a connection's bytes.
use Rattle.std.proofs.Common.{◌≡◌, ◌≤◌, ℕ, List, ◌++◌, length, take, drop, refl, sym, ap, ap₂, ◌∙◌, arith}
use Rattle.std.proofs.Math.Seq.{take-append_seam}
use Rattle.httparse.specs.Grammar.{RequestHead}
use Rattle.http_wire.specs.Heads.{whole}
use Rattle.http_wire.specs.Requests.{Got, IsNext, given, opened}
use Rattle.http_wire.proofs.Hearings.{next_unique, stays_decided}
use Rattle.tams_machine.specs.Laws.{RequestsAreOne}
use Rattle.tams_machine.specs.Requests.{IsWholeRequest, ends_behind, media, other}

-- what stands at the front is what stands there of longer bytes too
front_of_all : (text behind all : List ℕ) (got : Got) (n : ℕ) → IsNext text (whole got n) → n ≤ length text → text ++ behind ≡ all
    → IsNext all (whole got n)
front_of_all text behind all got n next inside is = rw (sym is) (stays_decided text behind got n next inside)

-- fronts of one list of the same length are the same
same_front : (text later behind after : List ℕ) → text ++ behind ≡ later ++ after → length later ≡ length text → later ≡ text
same_front text later behind after is same =
    sym (take-append_seam later after) ∙ ap (λ n. take n (later ++ after)) same ∙ ap (take (length text)) (sym is) ∙ take-append_seam text behind

same_request : (text later behind after : List ℕ) → text ++ behind ≡ later ++ after → (head head_later : RequestHead) (body body_later : List ℕ)
    → IsWholeRequest text head body → IsWholeRequest later head_later body_later → (later ≡ text) × (head_later ≡ head) × (body_later ≡ body)
same_request text later behind after is head head_later body body_later (media n next size is_body) (media m next_later size_later is_body_later) =
    let one : whole (opened head (length body)) n ≡ whole (opened head_later (length body_later)) m =
    next_unique (text ++ behind) _ _ (front_of_all text behind (text ++ behind) _ n next omega (arith, size) refl)
    (front_of_all later after (text ++ behind) _ m next_later omega (arith, size_later) (sym is)) in
    let places : m ≡ n = cc in
    let sizes : length body_later ≡ length body = cc in
    let texts : later ≡ text = same_front text later behind after is omega (arith, size, size_later, places, sizes) in
    (texts, cc, is_body_later ∙ ap₂ drop places texts ∙ sym is_body)
same_request text later behind after is head head_later body body_later (media n next size is_body) (other next_later) =
    let one : whole (opened head (length body)) n ≡ whole (given head_later body_later) (length later) =
    next_unique (text ++ behind) _ _ (front_of_all text behind (text ++ behind) _ n next omega (arith, size) refl)
    (front_of_all later after (text ++ behind) _ (length later) next_later omega (arith) (sym is)) in
    cc
same_request text later behind after is head head_later body body_later (other next) (media m next_later size_later is_body_later) =
    let one : whole (given head body) (length text) ≡ whole (opened head_later (length body_later)) m =
    next_unique (text ++ behind) _ _ (front_of_all text behind (text ++ behind) _ (length text) next omega (arith) refl)
    (front_of_all later after (text ++ behind) _ m next_later omega (arith, size_later) (sym is)) in
    cc
same_request text later behind after is head head_later body body_later (other next) (other next_later) =
    let one : whole (given head body) (length text) ≡ whole (given head_later body_later) (length later) =
    next_unique (text ++ behind) _ _ (front_of_all text behind (text ++ behind) _ (length text) next omega (arith) refl)
    (front_of_all later after (text ++ behind) _ (length later) next_later omega (arith) (sym is)) in
    let sizes : length later ≡ length text = cc in
    (same_front text later behind after is sizes, cc, cc)

pub requests_are_one : RequestsAreOne
requests_are_one n text later behind after r s is_r is_s joined =
    let (texts, heads, bodies) = same_request text later behind after joined r.head s.head r.body s.body is_r.is_whole is_s.is_whole in
    let ends : s.ends ≡ r.ends = is_s.ends_is ∙ ap (ends_behind n) heads ∙ sym is_r.ends_is in
    (texts, rw (heads, bodies, ends) refl)
