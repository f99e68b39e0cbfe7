-- Turns of a connection, one behind another, and connections one behind another.
use Rattle.std.proofs.Common.{◌≡◌, ◌≤◌, ◌<◌, ◌+◌, ◌-◌, ◌^◌, ℕ, Bool, true, List, [], ◌++◌, Option, Some, None, refl, sym, ap, ◌∙◌, arith}
use Rattle.std.proofs.lemmas.Bool.{false≢true}
use Rattle.std.proofs.lemmas.List.{append-nil, append_assoc}
use Rattle.std.proofs.lemmas.List.Elements.{All-append, All-nil}
use Rattle.disk_trait.specs.Device.{Device}
use Rattle.disk_trait.specs.Calls.{IsCounted, SameDevice}
use Rattle.disk_trait.proofs.Theorems.{counted_twice, same_device_twice}
use Rattle.site_edge.specs.Clocks.{IsMoment}
use Rattle.run_history.specs.Machine.{Machine}
use Rattle.run_history.specs.Steps.{Step}
use Rattle.run_history.specs.Sessions.{Session}
use Rattle.run_history.specs.Runs.{Beginning}
use Rattle.run_history.specs.Serving.{RunCounts, Going}
use Rattle.connection_loop.specs.declared.ending.ConnectionEnd.{ConnectionEnd}
use Rattle.connection_loop.specs.declared.ending.ConnectionEnd.TheVariants.{Complete, Cut, Unlinked, Starved, Stopped}
use Rattle.connection_loop.specs.Turns.{ClockCalls, GivesMore, GoesOn, LinkCount, SiteCalls, disk_held, held_with}
use Rattle.connection_loop.specs.Loops.{HasTurned}
use Rattle.connection_loop.specs.Endings.{TellsAll}

-- a count that no call raised
pub counted_none : (before now : ℕ) → now ≡ before → IsCounted true before now
counted_none before now same = record {
  never_falls = omega (arith, same);
  stays = λ _. same;
  rises = λ no. absurd (false≢true (sym no));
}

-- nothing was called
pub no_calls : (d : Device) → SiteCalls None d d
no_calls d = record {
  same = record { size = refl; honest = refl; shows = refl; tells = refl };
  faults = counted_none d.faults d.faults refl;
  link_faults = refl;
  peer_faults = refl;
  under_way = refl;
  closed = refl;
  dials = refl;
}

-- calls that go on and others behind them
pub link_more : (ending : Option ConnectionEnd) (a b c : ℕ) → b ≡ a → LinkCount ending b c → LinkCount ending a c
link_more None a b c same count = count ∙ same
link_more (Some Complete) a b c same count = count ∙ same
link_more (Some Cut) a b c same count = count ∙ same
link_more (Some Starved) a b c same count = omega (arith, same, count)
link_more (Some Stopped) a b c same count = omega (arith, same, count)
link_more (Some Unlinked) a b c same count = (omega (arith, same, count.0), λ small. let rose = count.1 in omega (arith, same, rose))

pub calls_more : (ending : Option ConnectionEnd) (a b c : Device) → SiteCalls None a b → SiteCalls ending b c → SiteCalls ending a c
calls_more ending a b c first second = record {
  same = same_device_twice a b c first.same second.same;
  faults = counted_twice (disk_held ending) a.faults b.faults c.faults first.faults second.faults;
  link_faults = link_more ending a.link.faults b.link.faults c.link.faults first.link_faults second.link_faults;
  peer_faults = second.peer_faults ∙ first.peer_faults;
  under_way = second.under_way ∙ first.under_way;
  closed = second.closed ∙ first.closed;
  dials = second.dials ∙ first.dials;
}

-- what is told stays so
pub tells_later : (a b : Device) (clock : Bool) → SameDevice a b → TellsAll a clock → TellsAll b clock
tells_later a b clock same all = record {
  honest = same.honest ∙ all.honest;
  shows = same.shows ∙ all.shows;
  tells = same.tells ∙ all.tells;
  clock_tells = all.clock_tells;
}

-- ---- moments

-- none was given
pub gives_none : (given : List ℕ) → GivesMore given given
gives_none given = record { more = []; given_is = sym (append-nil given); moments = All-nil IsMoment }

-- some were given, and then more
pub gives_twice : (a b c : List ℕ) → GivesMore a b → GivesMore b c → GivesMore a c
gives_twice a b c first second = record {
  more = first.more ++ second.more;
  given_is = second.given_is ∙ ap (λ xs. xs ++ second.more) first.given_is ∙ append_assoc a first.more second.more;
  moments = All-append IsMoment first.more second.more first.moments second.moments;
}

-- ---- a clock

-- it was not read
pub clock_none : (tells : Bool) (given : List ℕ) → ClockCalls 0 tells tells given given
clock_none tells given = record {
  told_before = λ yes. yes;
  moments = λ yes. gives_none given;
  lasts = λ yes few. (yes, omega arith);
}

-- it was read so often, and then more
pub clock_twice : (j k : ℕ) (x y z : Bool) (a b c : List ℕ) → ClockCalls j x y a b → ClockCalls k y z b c → ClockCalls (j + k) x z a c
clock_twice j k x y z a b c first second = record {
  told_before = λ yes. first.told_before (second.told_before yes);
  moments = λ yes. gives_twice a b c (first.moments (second.told_before yes)) (second.moments yes);
  lasts = λ yes few.
      let so_far = first.lasts yes (omega (arith, few)) in
      let after = second.lasts so_far.0 (omega (arith, few, so_far.1)) in (after.0, omega (arith, so_far.1, after.1));
}

-- it was read so often at most
pub clock_most : (j k : ℕ) (x y : Bool) (a b : List ℕ) → j ≤ k → ClockCalls j x y a b → ClockCalls k x y a b
clock_most j k x y a b least calls = record {
  told_before = calls.told_before;
  moments = calls.moments;
  lasts = λ yes few.
      let so_far = calls.lasts yes (omega (arith, few, least)) in (so_far.0, omega (arith, so_far.1, least));
}

-- what is told at its end was told at first
pub tells_before : (d : Device) (k : ℕ) (x y : Bool) (a b : List ℕ) → ClockCalls k x y a b → TellsAll d y → TellsAll d x
tells_before d k x y a b calls all = record {
  honest = all.honest;
  shows = all.shows;
  tells = all.tells;
  clock_tells = calls.told_before all.clock_tells;
}

-- before the first turn
pub turned_first : {State Request Setting : Type 0} (m : Machine State Request) (setting : Setting) (ready : Type 0) (d : Device) (tells : Bool)
    (given unread : List ℕ) (taken : ℕ) (keeps : State → Type 0) (n : RunCounts) (size turns : ℕ) → ready → taken ≡ 0 → turns ≡ 0
    → HasTurned m setting setting ready d d tells tells given given unread unread taken taken keeps keeps n n size size turns 0
turned_first m setting ready d tells given unread taken keeps n size turns is_ready none zero = record {
  calls = no_calls d;
  setting_is = refl;
  is_ready = is_ready;
  size_is = omega arith;
  clock = rw none (clock_none tells given);
  few = omega (arith, none);
  answers = omega (arith, none);
  moved = omega arith;
  most = omega (arith, zero);
  reached = λ all b finished s kept going. record { steps = []; state = s; kept = kept; going = going };
}

-- a turn that goes on
pub turned_more : {State Request Setting : Type 0} (machine : Setting → Machine State Request) (setting_first setting setting_next : Setting)
    (ready ready_next : Type 0) (first now next : Device) (tells_first tells_now tells_next : Bool)
    (given_first given more unread_first unread unread_next : List ℕ) (taken_first taken taken_next : ℕ) (keeps_first keeps keeps_next : State → Type 0)
    (n_first n n_next : RunCounts) (size_first size size_next turns turns_next counter : ℕ)
    → HasTurned (machine setting_first) setting_first setting ready first now tells_first tells_now given_first given unread_first unread taken_first taken
    keeps_first keeps n_first n size_first size turns counter
    → SiteCalls None now next → setting_next ≡ setting → ready_next → size_next ≤ size → ClockCalls (taken_next - taken) tells_now tells_next given more
    → taken_next < 1000000 → taken ≤ taken_next
    → n_next.answers + taken ≡ n.answers + taken_next → turns < turns_next → turns_next < 2 ^ 64 - 1
    → (TellsAll now tells_next → (b : Beginning State) → (finished : List (Session Request)) (steps : List (Step Request)) (s : State) → keeps s
    → Going (machine setting) b now given (held_with s unread taken) finished steps n
    → GoesOn (machine setting) b next more unread_next taken_next keeps_next finished n_next)
    → HasTurned (machine setting_first) setting_first setting_next ready_next first next tells_first tells_next given_first more unread_first unread_next
    taken_first taken_next keeps_first keeps_next n_first n_next size_first size_next turns_next (counter + 1)
turned_more machine setting_first setting setting_next ready ready_next first now next tells_first tells_now tells_next given_first given more
    unread_first unread unread_next taken_first taken taken_next keeps_first keeps keeps_next n_first n n_next size_first size size_next turns turns_next
    counter h calls same_setting is_ready size_is clock few grows counted moves most goes =
    record {
      calls = calls_more None first now next h.calls calls;
      setting_is = same_setting ∙ h.setting_is;
      is_ready = is_ready;
      size_is = omega (arith, size_is, h.size_is);
      clock = clock_most (taken + (taken_next - taken)) taken_next tells_first tells_next given_first more (omega (arith, grows))
          (clock_twice taken (taken_next - taken) tells_first tells_now tells_next given_first given more h.clock clock);
      few = few;
      answers = omega (arith, counted, h.answers);
      moved = omega (arith, moves, h.moved);
      most = most;
      reached = λ all b finished s kept going.
          let so_far =
          h.reached (tells_before _ _ _ _ _ _ clock all) b finished s kept going in
          (rw h.setting_is at goes) (tells_later first now tells_next h.calls.same all) b finished so_far.steps so_far.state so_far.kept so_far.going;
    }
