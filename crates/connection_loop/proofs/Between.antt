-- Connections one behind another: what waiting for one, serving it and closing it leave.
use Rattle.std.proofs.Common.{◌≡◌, ◌≢◌, ◌≤◌, ◌<◌, ◌+◌, ◌*◌, ℕ, Bool, true, false, List, [], ◌∷◌, ◌++◌, length, Option, None, Some, refl, sym, ap, ◌∙◌, arith}
use Rattle.std.specs.Prelude.{is_some}
use Rattle.std.proofs.lemmas.Bool.{false≢true}
use Rattle.std.proofs.lemmas.List.{length-append}
use Rattle.disk_trait.specs.Device.{Device, Left}
use Rattle.disk_trait.specs.Calls.{Elapses, IsCounted, Rose, Unchanged}
use Rattle.disk_trait.proofs.Theorems.{counted_twice, same_device_twice}
use Rattle.site_edge.specs.Links.{AddsConnection, Closed, LinkCall}
use Rattle.run_history.specs.Machine.{Machine}
use Rattle.run_history.specs.Steps as steps
use Rattle.run_history.specs.Steps.{Step}
use Rattle.run_history.specs.Sessions.{Hearing, LinkEnd, Saying, Session, Whole, last_step, stop_of}
use Rattle.run_history.specs.Runs.{Beginning}
use Rattle.run_history.specs.Serving.{RunCounts}
use Rattle.run_history.specs.Parts.{stops}
use Rattle.run_history.proofs.Ends.{failure-push, run_stops-push}
use Rattle.run_history.proofs.Going.{served_quiet}
use Rattle.connection_loop.specs.declared.ending.ConnectionEnd.{ConnectionEnd}
use Rattle.connection_loop.specs.declared.ending.ConnectionEnd.TheVariants.{Complete, Cut, Unlinked, Starved, Stopped}
use Rattle.connection_loop.specs.declared.connection.Next.TheVariants as next
use Rattle.connection_loop.specs.declared.run.RunEnd.TheVariants as run
use Rattle.connection_loop.specs.Turns.{ClockCalls, EndsAs, IsBetween, LinkCount, SameImages, SiteCalls, disk_held, is_stopped}
use Rattle.connection_loop.specs.Loops.{GoesOnBetween, HasEnded, HasServedSo, NextCalls, NextLeads, RunCalls}
use Rattle.connection_loop.specs.Endings.{AreCounted, TellsAll, ending_by, ending_of}
use Rattle.connection_loop.proofs.Turning.{clock_most, clock_none, clock_twice, counted_none, tells_before, tells_later}

-- ---- images

pub same_unchanged : (old new : Device) → Elapses Unchanged Unchanged old new → SameImages old new
same_unchanged old new time =
    record { images = λ p could. let from = time.now p could in (from.0, from.1, ap (λ (l : Left). l.image) from.2) }

pub same_connected : (old new : Device) → Elapses AddsConnection AddsConnection old new → SameImages old new
same_connected old new time =
    record { images = λ p could. let from = time.now p could in (from.0, from.1, from.2.image) }

-- ---- one connection

-- It was closed.
pub ends_closed : {State Request : Type 0} (m : Machine State Request) (b : Beginning State) (old new : Device) (given : List ℕ)
    (keeps keeps_now : State → Type 0) (finished : List (Session Request)) (n : RunCounts) (ending : ConnectionEnd)
    → EndsAs m b old given keeps finished n ending → Elapses Unchanged Unchanged old new → new.link.connections ≡ old.link.connections → new.handed ≡ old.handed
    → ((s : State) → keeps s → keeps_now s) → EndsAs m b new given keeps_now finished n ending
ends_closed m b old new given keeps keeps_now finished n ending e time same handed kept = record {
  session = e.session;
  served = served_quiet m b old new given _ n e.served time same handed;
  unstopped = e.unstopped;
  ending_is = e.ending_is;
  kept = λ on. kept _ (e.kept on);
}

-- None came.
pub between_quiet : {State Request : Type 0} (m : Machine State Request) (b : Beginning State) (old new : Device) (given : List ℕ)
    (keeps keeps_now : State → Type 0) (sessions : List (Session Request)) (n : RunCounts) → IsBetween m b old given keeps sessions n
    → Elapses Unchanged Unchanged old new → new.link.connections ≡ old.link.connections → new.handed ≡ old.handed
    → ((s : State) → keeps s → keeps_now s) → IsBetween m b new given keeps_now sessions n
between_quiet m b old new given keeps keeps_now sessions n i time same handed kept = record {
  served = served_quiet m b old new given sessions n i.served time same handed;
  unstopped = i.unstopped;
  kept = kept _ i.kept;
}

-- the calls for a connection that came, was served and was closed
pub ended_calls : (ending : ConnectionEnd) (within ended within_too ended_too : Left → Left → Type 0) (old came served new : Device)
    → LinkCall within ended true old came → IsCounted true old.link.peer_faults came.link.peer_faults
    → (old.tells ≡ true → IsCounted true old.link.closed came.link.closed) → came.link.dials ≡ old.link.dials → SiteCalls (Some ending) came served
    → LinkCall within_too ended_too true served new → Closed served new → NextCalls (next.Ended ending) old new
ended_calls ending within ended within_too ended_too old came served new waits peers closings dials calls closes closed = record {
  same = same_device_twice old served new (same_device_twice old came served waits.same calls.same) closes.same;
  faults = rw (closes.faults, ← waits.faults) calls.faults;
  link_faults = rw (closes.counted.stays refl, ← waits.counted.stays refl) calls.link_faults;
  peer_faults = rw (closed.peers.peer_faults, calls.peer_faults) peers;
  closed = λ idle. closed.under_way;
  closings = λ tells. rw (closed.peers.closed, calls.closed) (closings tells);
  dials = closed.peers.dials ∙ calls.dials ∙ dials;
}

-- the call that found that no more will come
pub no_more_calls : (within ended : Left → Left → Type 0) (old new : Device) → LinkCall within ended true old new
    → IsCounted true old.link.peer_faults new.link.peer_faults → (old.tells ≡ true → IsCounted false old.link.closed new.link.closed)
    → new.link.under_way ≡ false → new.link.dials ≡ old.link.dials → NextCalls next.NoMore old new
no_more_calls within ended old new call peers closings closed dials = record {
  same = call.same;
  faults = counted_none old.faults new.faults call.faults;
  link_faults = call.counted.stays refl;
  peer_faults = peers;
  closed = λ idle. closed;
  closings = closings;
  dials = dials;
}

-- the call that failed
pub unlinked_calls : (within ended : Left → Left → Type 0) (old new : Device) → LinkCall within ended false old new
    → IsCounted false old.link.peer_faults new.link.peer_faults → (old.tells ≡ true → IsCounted true old.link.closed new.link.closed)
    → new.link.under_way ≡ old.link.under_way → new.link.dials ≡ old.link.dials → NextCalls next.Unlinked old new
unlinked_calls within ended old new call peers closings same dials = record {
  same = call.same;
  faults = counted_none old.faults new.faults call.faults;
  link_faults = (call.counted.never_falls, call.counted.rises refl);
  peer_faults = peers;
  closed = λ idle. same ∙ idle;
  closings = closings;
  dials = dials;
}

-- ---- many

-- whether the disk failed shows in how a connection ended
pub stopped-ending : {Request : Type 0} (session : Session Request) → is_stopped (ending_of session) ≡ stops session.steps
stopped-ending session = by_last (last_step session.steps) session.link
  where
    by_last : {Request : Type 0} (last : Option (Step Request)) (link : LinkEnd) → is_stopped (ending_by last link) ≡ is_some (stop_of last)
    by_last None Whole = refl
    by_last None Hearing = refl
    by_last None Saying = refl
    by_last (Some (steps.Answered a t)) Whole = refl
    by_last (Some (steps.Answered a t)) Hearing = refl
    by_last (Some (steps.Answered a t)) Saying = refl
    by_last (Some (steps.Refused t r)) Whole = refl
    by_last (Some (steps.Refused t r)) Hearing = refl
    by_last (Some (steps.Refused t r)) Saying = refl
    by_last (Some (steps.Starved a)) link = refl
    by_last (Some (steps.Stopped a f)) link = refl
    by_last (Some (steps.Cut t i m)) Whole = refl
    by_last (Some (steps.Cut t i m)) Hearing = refl
    by_last (Some (steps.Cut t i m)) Saying = refl

stops-by : {Request : Type 0} (session : Session Request) (ending : ConnectionEnd) (b : Bool) → ending ≡ ending_of session → is_stopped ending ≡ b
    → stops session.steps ≡ b
stops-by session ending b is by = sym (ap is_stopped is ∙ stopped-ending session) ∙ by

link_least : (ending : ConnectionEnd) (before now : ℕ) → LinkCount (Some ending) before now → before ≤ now
link_least Complete before now count = omega (arith, count)
link_least Cut before now count = omega (arith, count)
link_least Unlinked before now count = count.0
link_least Starved before now count = count
link_least Stopped before now count = count

-- a count that rose has risen from before and by now
rose_over : (a b c d : ℕ) → a ≤ b → b ≤ c → c ≤ d → Rose b c → Rose a d
rose_over a b c d one two three rose = λ small. grind (arith, one, two, three, rose, small)

link_rose : (ending : ConnectionEnd) (before now : ℕ) → LinkCount (Some ending) before now → ending ≡ Unlinked → Rose before now
link_rose Complete before now count e = absurd cc
link_rose Cut before now count e = absurd cc
link_rose Unlinked before now count e = count.1
link_rose Starved before now count e = absurd cc
link_rose Stopped before now count e = absurd cc

-- connections and one more, with what each left of the count of link faults
counted_more : {Request : Type 0} (a b c : ℕ) (sessions : List (Session Request)) (session : Session Request) (ending : ConnectionEnd)
    → AreCounted a b sessions → a ≤ b → ending ≡ ending_of session → LinkCount (Some ending) b c → AreCounted a c (sessions ++ session ∷ [])
counted_more a b c [] session ending so_far least is count =
    ((λ e. rose_over a b c c least (link_least ending b c count) (omega arith) (link_rose ending b c count (is ∙ e))), tt)
counted_more a b c (s ∷ sessions) session ending so_far least is count =
    let more = link_least ending b c count in
    ((λ e. rose_over a a b c (omega arith) least more (so_far.0 e)), counted_more a b c sessions session ending so_far.1 least is count)

-- and over calls that fail between two connections
pub counted_later : {Request : Type 0} (a b c : ℕ) (sessions : List (Session Request)) → AreCounted a b sessions → a ≤ b → b ≤ c → AreCounted a c sessions
counted_later a b c [] so_far least more = tt
counted_later a b c (s ∷ sessions) so_far least more =
    ((λ e. rose_over a a b c (omega arith) least more (so_far.0 e)), counted_later a b c sessions so_far.1 least more)

some-there : {A : Type 0} (x : Option A) {y : Option A} → is_some x ≡ true → y ≡ x → y ≢ None
some-there x some is none = false≢true (ap is_some (sym none ∙ is) ∙ some)

-- a connection more
pub between_more : {State Request : Type 0} (m : Machine State Request) (b : Beginning State) (first now d : Device) (given : List ℕ)
    (keeps : State → Type 0) (sessions : List (Session Request)) (n : RunCounts) (ending : ConnectionEnd) (counter : ℕ)
    → EndsAs m b d given keeps sessions n ending → is_stopped ending ≡ false → length sessions ≡ counter
    → AreCounted first.link.faults now.link.faults sessions
    → first.link.faults ≤ now.link.faults → LinkCount (Some ending) now.link.faults d.link.faults
    → GoesOnBetween m b first d given keeps n (counter + 1)
between_more m b first now d given keeps sessions n ending counter e on count counted least faults =
    let going = stops-by e.session ending false e.ending_is on in
    record {
      sessions = sessions ++ e.session ∷ [];
      between = record {
        served = e.served;
        unstopped = run_stops-push sessions e.session e.unstopped ∙ going;
        kept = e.kept going;
      };
      count = omega (arith, count, length-append sessions (e.session ∷ []));
      counted = counted_more first.link.faults now.link.faults d.link.faults sessions e.session ending counted least e.ending_is faults;
    }

-- the disk failed in it
pub ended_stopped : {State Request : Type 0} (m : Machine State Request) (b : Beginning State) (first now d : Device) (given : List ℕ)
    (keeps : State → Type 0) (sessions : List (Session Request)) (n : RunCounts) (ending : ConnectionEnd) (counter connections : ℕ)
    → EndsAs m b d given keeps sessions n ending → is_stopped ending ≡ true → length sessions ≡ counter → counter < connections
    → AreCounted first.link.faults now.link.faults sessions → first.link.faults ≤ now.link.faults → LinkCount (Some ending) now.link.faults d.link.faults
    → HasEnded m b first d given n connections run.Stopped
ended_stopped m b first now d given keeps sessions n ending counter connections e on count few counted least faults = record {
  sessions = sessions ++ e.session ∷ [];
  served = e.served;
  ends = (
    omega (arith, count, few, length-append sessions (e.session ∷ [])),
    some-there (stop_of (last_step e.session.steps)) (stops-by e.session ending true e.ending_is on) (failure-push sessions e.session),
  );
  counted = counted_more first.link.faults now.link.faults d.link.faults sessions e.session ending counted least e.ending_is faults;
}

-- the calls of a run that goes on, and those for the next connection
held_by : (ending : ConnectionEnd) → is_stopped ending ≡ false → disk_held (Some ending) ≡ true
held_by Complete e = refl
held_by Cut e = refl
held_by Unlinked e = refl
held_by Starved e = refl
held_by Stopped e = absurd (false≢true (sym e))

failed_by : (ending : ConnectionEnd) → is_stopped ending ≡ true → disk_held (Some ending) ≡ false
failed_by Complete e = absurd (false≢true e)
failed_by Cut e = absurd (false≢true e)
failed_by Unlinked e = absurd (false≢true e)
failed_by Starved e = absurd (false≢true e)
failed_by Stopped e = refl

-- the counts of closings over a run that goes on, and over what comes behind it
closings_twice : (stays : Bool) (a b c : Device) → RunCalls run.Complete a b → (b.tells ≡ true → IsCounted stays b.link.closed c.link.closed)
    → a.tells ≡ true → IsCounted stays a.link.closed c.link.closed
closings_twice stays a b c first second tells =
    counted_twice stays a.link.closed b.link.closed c.link.closed (first.closings tells) (second (first.same.tells ∙ tells))

pub calls_on : (ending : ConnectionEnd) (a b c : Device) → RunCalls run.Complete a b → NextCalls (next.Ended ending) b c → is_stopped ending ≡ false
    → RunCalls run.Complete a c
calls_on ending a b c first second on = record {
  same = same_device_twice a b c first.same second.same;
  faults = counted_twice true a.faults b.faults c.faults first.faults (rw (held_by ending on) at second.faults);
  peer_faults = counted_twice true a.link.peer_faults b.link.peer_faults c.link.peer_faults first.peer_faults second.peer_faults;
  link_faults = let least = link_least ending b.link.faults c.link.faults second.link_faults in omega (arith, first.link_faults, least);
  unlinked = λ e. absurd cc;
  closed = λ idle. second.closed (first.closed idle);
  closings = closings_twice true a b c first second.closings;
  dials = second.dials ∙ first.dials;
}

pub calls_stopped : (ending : ConnectionEnd) (a b c : Device) → RunCalls run.Complete a b → NextCalls (next.Ended ending) b c → is_stopped ending ≡ true
    → RunCalls run.Stopped a c
calls_stopped ending a b c first second on = record {
  same = same_device_twice a b c first.same second.same;
  faults = counted_twice false a.faults b.faults c.faults first.faults (rw (failed_by ending on) at second.faults);
  peer_faults = counted_twice true a.link.peer_faults b.link.peer_faults c.link.peer_faults first.peer_faults second.peer_faults;
  link_faults = let least = link_least ending b.link.faults c.link.faults second.link_faults in omega (arith, first.link_faults, least);
  unlinked = λ e. absurd cc;
  closed = λ idle. second.closed (first.closed idle);
  closings = closings_twice true a b c first second.closings;
  dials = second.dials ∙ first.dials;
}

pub calls_no_more : (a b c : Device) → RunCalls run.Complete a b → NextCalls next.NoMore b c → RunCalls run.NoMore a c
calls_no_more a b c first second = record {
  same = same_device_twice a b c first.same second.same;
  faults = counted_twice true a.faults b.faults c.faults first.faults second.faults;
  peer_faults = counted_twice true a.link.peer_faults b.link.peer_faults c.link.peer_faults first.peer_faults second.peer_faults;
  link_faults = omega (arith, first.link_faults, second.link_faults);
  unlinked = λ e. absurd cc;
  closed = λ idle. second.closed (first.closed idle);
  closings = closings_twice false a b c first second.closings;
  dials = second.dials ∙ first.dials;
}

pub calls_unlinked : (a b c : Device) → RunCalls run.Complete a b → NextCalls next.Unlinked b c → RunCalls run.Unlinked a c
calls_unlinked a b c first second = record {
  same = same_device_twice a b c first.same second.same;
  faults = counted_twice true a.faults b.faults c.faults first.faults second.faults;
  peer_faults = counted_twice false a.link.peer_faults b.link.peer_faults c.link.peer_faults first.peer_faults second.peer_faults;
  link_faults = omega (arith, first.link_faults, second.link_faults.0);
  unlinked = λ e small.
      let rose = second.link_faults.1 in
      rose_over a.link.faults b.link.faults c.link.faults c.link.faults first.link_faults second.link_faults.0 (omega arith) rose small;
  closed = λ idle. second.closed (first.closed idle);
  closings = closings_twice true a b c first second.closings;
  dials = second.dials ∙ first.dials;
}

pub no_run_calls : (d : Device) → RunCalls run.Complete d d
no_run_calls d = record {
  same = record { size = refl; honest = refl; shows = refl; tells = refl };
  faults = counted_none d.faults d.faults refl;
  peer_faults = counted_none d.link.peer_faults d.link.peer_faults refl;
  link_faults = omega arith;
  unlinked = λ e. absurd cc;
  closed = λ idle. idle;
  closings = λ tells. counted_none d.link.closed d.link.closed refl;
  dials = refl;
}

-- before the first connection
pub served_first : {State Request Setting : Type 0} (m : Machine State Request) (setting : Setting) (d : Device) (tells : Bool) (given : List ℕ)
    (keeps : State → Type 0) (n : RunCounts) (size : ℕ) → n.answers ≡ 0 → HasServedSo m setting setting d d tells tells given given keeps keeps n n size size 0
served_first m setting d tells given keeps n size none = record {
  calls = no_run_calls d;
  setting_is = refl;
  size_is = omega arith;
  clock = clock_none tells given;
  answers = omega (arith, none);
  reached = λ all b between. record { sessions = []; between = between; count = refl; counted = tt };
}

-- a connection more
pub served_more : {State Request Setting : Type 0} (machine : Setting → Machine State Request) (setting_first setting setting_next : Setting)
    (first now last : Device) (tells_first tells_now tells_next : Bool)
    (given_first given more : List ℕ) (keeps_first keeps keeps_next : State → Type 0) (n_first n n_next : RunCounts)
    (size_first size size_next counter : ℕ) (ending : ConnectionEnd)
    → HasServedSo (machine setting_first) setting_first setting first now tells_first tells_now given_first given keeps_first keeps n_first n size_first size
    counter
    → NextCalls (next.Ended ending) now last → is_stopped ending ≡ false → size_next ≤ size → setting_next ≡ setting
    → ClockCalls 1000000 tells_now tells_next given more → n_next.answers ≤ n.answers + 1000000
    → (TellsAll now tells_next → (b : Beginning State) → (sessions : List (Session Request))
    → IsBetween (machine setting) b now given keeps sessions n
    → NextLeads (machine setting) b now.link.closed last more keeps_next sessions n_next (next.Ended ending))
    → HasServedSo (machine setting_first) setting_first setting_next first last tells_first tells_next given_first more keeps_first keeps_next n_first n_next
    size_first size_next (counter + 1)
served_more machine setting_first setting setting_next first now last tells_first tells_now tells_next given_first given more keeps_first keeps keeps_next
    n_first n n_next size_first size size_next counter ending h calls on size_is same_setting clock answers leads = record {
      calls = calls_on ending first now last h.calls calls on;
      setting_is = same_setting ∙ h.setting_is;
      size_is = omega (arith, size_is, h.size_is);
      clock = clock_most (1000000 * counter + 1000000) (1000000 * (counter + 1)) tells_first tells_next given_first more (omega arith)
          (clock_twice (1000000 * counter) 1000000 tells_first tells_now tells_next given_first given more h.clock clock);
      answers = omega (arith, answers, h.answers);
      reached = λ all b between.
          let so_far = h.reached (tells_before _ _ _ _ _ _ clock all) b between in
          between_more (machine setting_first) b first now last more keeps_next so_far.sessions n_next ending counter
          ((rw h.setting_is at leads) (tells_later first now tells_next h.calls.same all) b so_far.sessions so_far.between) on so_far.count so_far.counted
          h.calls.link_faults
          calls.link_faults;
    }
