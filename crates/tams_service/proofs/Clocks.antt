-- How often a turn reads the clock.
use Rattle.std.proofs.Common.{◌≡◌, ◌<◌, ◌+◌, ◌-◌, ◌^◌, ℕ, Bool, true, List, [], ◌∷◌, ◌++◌, length, Option, Some, None, ap, arith}
use Rattle.std.proofs.lemmas.List.{length_push}
use Rattle.std.proofs.lemmas.List.Elements.{All-cons, All-nil}
use Rattle.site_edge.specs.Clocks.{IsMoment}
use Rattle.connection_loop.specs.declared.ending.ConnectionEnd.{ConnectionEnd}
use Rattle.connection_loop.specs.Turns.{ClockCalls, moments_taken}
use Rattle.connection_loop.proofs.Turning.{clock_most, clock_none}

-- it was read once
pub clock_once : (tells_first tells : Bool) (first given : List ℕ) (moment : ℕ) → IsMoment moment → (tells ≡ true → tells_first ≡ true)
    → (tells_first ≡ true → length first + 1 < 2 ^ 64 → tells ≡ true) → (tells ≡ true → given ≡ first ++ moment ∷ [])
    → ClockCalls 1 tells_first tells first given
clock_once tells_first tells first given moment is before lasts more = record {
  told_before = before;
  moments = λ yes. record { more = moment ∷ []; given_is = more yes; moments = All-cons IsMoment moment [] is (All-nil IsMoment) };
  lasts = λ yes few.
      let now = lasts yes few in (now, omega (arith, ap length (more now), length_push first moment));
}

-- it wasn't read
pub clock_unread : (tells : Bool) (given : List ℕ) → ClockCalls 1 tells tells given given
clock_unread tells given = clock_most 0 1 tells tells given given (omega arith) (clock_none tells given)

-- once for a request, and once where the connection ends
pub clock_turn : (result : Option ConnectionEnd) (before now : ℕ) (tells_first tells : Bool) (first given : List ℕ) → now ≡ before + 1
    → ClockCalls 1 tells_first tells first given → ClockCalls (moments_taken result before now) tells_first tells first given
clock_turn None before now tells_first tells first given is once =
    clock_most 1 (now - before) tells_first tells first given (omega (arith, is)) once
clock_turn (Some ending) before now tells_first tells first given is once = once
