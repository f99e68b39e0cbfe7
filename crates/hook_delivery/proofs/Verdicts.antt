-- Interim heads one after the other, and the one verdict of bytes.
use Rattle.std.proofs.Common.{◌≡◌, ℕ, zero, suc, ◌+◌, ◌<◌, Bool, List, [], ◌∷◌, take, drop, refl, sym, ap, ◌∙◌, arith, Option, Some, None}
use Rattle.std.proofs.lemmas.Bool.{false≢true}
use Rattle.httparse.specs.Grammar.{status_code}
use Rattle.httparse.proofs.GrammarLemmas.{response_unique}
use Rattle.http_wire.specs.Lines.{behind_byte, looked, next_place, one_on}
use Rattle.http_wire.specs.declared.lines.LinePlace.{LinePlace}
use Rattle.http_wire.specs.declared.lines.LinePlace.TheVariants.{Before}
use Rattle.http_wire.specs.declared.lines.Looked.{Looked}
use Rattle.http_wire.specs.declared.lines.Looked.TheVariants.{Ended, Still}
use Rattle.hook_delivery.specs.Judging.{HasStatus, IsInterim, IsVerdict, IsVerdictBy, PassesOver, is_interim, is_last}
use Rattle.hook_delivery.specs.declared.judging.Verdict.{Verdict}
use Rattle.hook_delivery.specs.declared.judging.Verdict.TheVariants.{Status, Silent, More}

-- ---- a head has a byte

one_on-some : (behind : Looked) (n : ℕ) → one_on behind ≡ Ended n → 0 < n
one_on-some (Ended m) n e = let sum : m + 1 ≡ n = cc in omega (arith, sum)
one_on-some (Still place) n e = cc

behind_byte-some : (place : Option LinePlace) (later : LinePlace → Looked) (n : ℕ) → behind_byte place later ≡ Ended n → 0 < n
behind_byte-some None later n e = let one : 1 ≡ n = cc in omega (arith, one)
behind_byte-some (Some place) later n e = one_on-some (later place) n e

-- a head ends behind one byte at least
pub ends_behind_some : (bytes : List ℕ) (end : ℕ) → looked Before bytes ≡ Ended end → 0 < end
ends_behind_some [] end e = cc
ends_behind_some (b ∷ bytes) end e = behind_byte-some (next_place Before b) (λ place. looked place bytes) end e

-- ---- one interim head more

pub passes_one_more : (count : ℕ) (bytes rest : List ℕ) (end : ℕ) → PassesOver count bytes rest → looked Before rest ≡ Ended end
    → IsInterim (take end rest) → PassesOver (suc count) bytes (drop end rest)
passes_one_more zero bytes rest end same ends interim = rw same (end, ends, interim, refl)
passes_one_more (suc count) bytes rest end (first, first_ends, first_interim, behind) ends interim =
    (first, first_ends, first_interim, passes_one_more count (drop first bytes) rest end behind ends interim)

-- ---- one verdict

-- one head has one status
same_status : (bytes : List ℕ) (status other : ℕ) → HasStatus bytes status → HasStatus bytes other → status ≡ other
same_status bytes status other (head, one, is) (other_head, other_one, other_is) =
    sym is ∙ ap status_code (response_unique bytes head other_head [] [] one.reads other_one.reads).0 ∙ other_is

-- an interim head isn't one that decides
not_decided : (end : ℕ) (bytes : List ℕ) (is_last : Bool) (verdict : Verdict) → IsInterim (take end bytes)
    → IsVerdictBy (Ended end) bytes is_last verdict → ⊥
not_decided end bytes is_last (Status status) (code, has, interim) (has_too, final) =
    false≢true (sym final ∙ ap is_interim (same_status (take end bytes) status code has_too has) ∙ interim)
not_decided end bytes is_last Silent (code, (head, one, is), interim) unread = unread head one
not_decided end bytes is_last More interim none = none

-- so where one stands at the front, nothing is decided
passed_first : (bytes : List ℕ) (is_last : Bool) (verdict : Verdict) (end : ℕ) → looked Before bytes ≡ Ended end → IsInterim (take end bytes)
    → IsVerdictBy (looked Before bytes) bytes is_last verdict → ⊥
passed_first bytes is_last verdict end ends interim decided = not_decided end bytes is_last verdict interim (rw (sym ends) decided)

-- a head says one thing
one_by : (end : Looked) (bytes : List ℕ) (is_last : Bool) (verdict other : Verdict) → IsVerdictBy end bytes is_last verdict
    → IsVerdictBy end bytes is_last other → verdict ≡ other
one_by (Ended end) bytes is_last (Status status) (Status other) (has, final) (has_too, final_too) =
    ap Status (same_status (take end bytes) status other has has_too)
one_by (Ended end) bytes is_last (Status status) Silent ((head, one, is), final) unread = absurd (unread head one)
one_by (Ended end) bytes is_last (Status status) More one two = absurd two
one_by (Ended end) bytes is_last Silent (Status other) unread ((head, one, is), final) = absurd (unread head one)
one_by (Ended end) bytes is_last Silent Silent one two = refl
one_by (Ended end) bytes is_last Silent More one two = absurd two
one_by (Ended end) bytes is_last More other one two = absurd one
one_by (Still place) bytes is_last (Status status) other one two = absurd one
one_by (Still place) bytes is_last Silent (Status other) one two = absurd two
one_by (Still place) bytes is_last Silent Silent one two = refl
one_by (Still place) bytes is_last Silent More one two = absurd (false≢true (sym two ∙ one))
one_by (Still place) bytes is_last More (Status other) one two = absurd two
one_by (Still place) bytes is_last More Silent one two = absurd (false≢true (sym one ∙ two))
one_by (Still place) bytes is_last More More one two = refl

-- whichever heads are passed over, the same one decides
one_behind : (count others : ℕ) (bytes rest other_rest : List ℕ) (is_last : Bool) (verdict other : Verdict) → PassesOver count bytes rest
    → PassesOver others bytes other_rest → IsVerdictBy (looked Before rest) rest is_last verdict
    → IsVerdictBy (looked Before other_rest) other_rest is_last other → verdict ≡ other
one_behind zero zero bytes rest other_rest is_last verdict other same same_too one two =
    one_by (looked Before bytes) bytes is_last verdict other (rw same one) (rw same_too two)
one_behind zero (suc others) bytes rest other_rest is_last verdict other same (end, ends, interim, behind) one two =
    absurd (passed_first bytes is_last verdict end ends interim (rw same one))
one_behind (suc count) zero bytes rest other_rest is_last verdict other (end, ends, interim, behind) same one two =
    absurd (passed_first bytes is_last other end ends interim (rw same two))
one_behind (suc count) (suc others) bytes rest other_rest is_last verdict other (end, ends, interim, behind) (end_too, ends_too, interim_too, behind_too) one two =
    let same : Ended end ≡ Ended end_too = sym ends ∙ ends_too in
    let same_end : end ≡ end_too = cc in
    one_behind count others (drop end bytes) rest other_rest is_last verdict other behind (rw same_end behind_too) one two

pub one_verdict : (bytes : List ℕ) (ended : Bool) (verdict other : Verdict) → IsVerdict bytes ended verdict → IsVerdict bytes ended other
    → verdict ≡ other
one_verdict bytes ended verdict other one two =
    one_behind one.count two.count (take 16384 bytes) one.rest two.rest (is_last bytes ended) verdict other one.passed two.passed one.decided two.decided
