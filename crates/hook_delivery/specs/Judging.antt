-- What a peer's bytes say of its answer: the first response that isn't an interim one (RFC 9112,
-- sections 2.1, 2.2 and 4; RFC 9110, section 15.2). The limits are our own rule.
use Rattle.std.specs.Prelude.{◌≡◌, ℕ, zero, suc, ◌≤◌, ◌&&◌, ◌||◌, nat_le, Bool, false, IsTrue, List, [], length, take, drop}
use Rattle.httparse.specs.Grammar.{ReadsResponse, ResponseHead, status_code}
use Rattle.http_wire.specs.Lines.{looked}
use Rattle.http_wire.specs.declared.lines.LinePlace.TheVariants.{Before}
use Rattle.http_wire.specs.declared.lines.Looked.{Looked}
use Rattle.http_wire.specs.declared.lines.Looked.TheVariants.{Ended, Still}
use Rattle.hook_delivery.specs.declared.judging.Verdict.{Verdict}
use Rattle.hook_delivery.specs.declared.judging.Verdict.TheVariants.{Status, Silent, More}

-- ---- heads

-- at most so many bytes are looked at
abbrev pub max_answer : ℕ
max_answer = 16384

-- a head has at most so many fields
abbrev pub max_fields : ℕ
max_fields = 8192

-- these bytes are one head, as `httparse` reads it, with at most 8,192 fields
pub record IsOneHead (bytes : List ℕ) (head : ResponseHead) : Type 0 where
  pub reads : ReadsResponse bytes head []
  pub few : length head.fields ≤ max_fields

-- these bytes are one head with this status
abbrev pub HasStatus : List ℕ → ℕ → Type 0
HasStatus bytes status = (head : ResponseHead) × IsOneHead bytes head × (status_code head ≡ status)

-- these bytes aren't one head
abbrev pub IsUnread : List ℕ → Type 0
IsUnread bytes = (head : ResponseHead) → ¬ (IsOneHead bytes head)

-- the status of an interim response
abbrev pub is_interim : ℕ → Bool
is_interim status = nat_le 100 status && nat_le status 199

-- these bytes are the head of an interim response
abbrev pub IsInterim : List ℕ → Type 0
IsInterim bytes = (status : ℕ) × HasStatus bytes status × IsTrue (is_interim status)

-- ---- verdicts

-- so many heads of interim responses stand at the front of bytes, and rest stands behind them
abbrev pub PassesOver : ℕ → List ℕ → List ℕ → Type 0
PassesOver zero bytes rest = bytes ≡ rest
PassesOver (suc count) bytes rest =
    (end : ℕ) × (looked Before bytes ≡ Ended end) × IsInterim (take end bytes)
    × PassesOver count (drop end bytes) rest

-- What the head at the front of bytes says, by where it ends: a whole one that isn't interim has
-- its status, or can't be read; one that isn't whole waits for more bytes, unless these are the
-- last.
abbrev pub IsVerdictBy : Looked → List ℕ → Bool → Verdict → Type 0
IsVerdictBy (Ended end) bytes is_last (Status status) =
    HasStatus (take end bytes) status × (is_interim status ≡ false)
IsVerdictBy (Ended end) bytes is_last Silent = IsUnread (take end bytes)
IsVerdictBy (Ended end) bytes is_last More = ⊥
IsVerdictBy (Still place) bytes is_last (Status status) = ⊥
IsVerdictBy (Still place) bytes is_last Silent = IsTrue is_last
IsVerdictBy (Still place) bytes is_last More = is_last ≡ false

-- the same, where no more bytes come, or enough have come
abbrev pub is_last : List ℕ → Bool → Bool
is_last bytes ended = ended || nat_le max_answer (length bytes)

-- What the bytes that came so far say: the first head decides that isn't passed over. It stands
-- behind `count` interim ones, and at the front of `rest`.
pub record IsVerdict (bytes : List ℕ) (ended : Bool) (verdict : Verdict) : Type 0 where
  pub count : ℕ
  pub rest : List ℕ
  pub passed : PassesOver count (take max_answer bytes) rest
  pub decided : IsVerdictBy (looked Before rest) rest (is_last bytes ended) verdict

-- bytes have one verdict
abbrev pub IsOneVerdict : Type 0
IsOneVerdict =
    (bytes : List ℕ) (ended : Bool) (verdict other : Verdict)
    → IsVerdict bytes ended verdict → IsVerdict bytes ended other → verdict ≡ other
