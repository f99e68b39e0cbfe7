-- A history worked out: a small machine over numbers, and six steps on four connections, each with
-- what it comes to.
use Rattle.std.specs.Prelude.{◌≡◌, ◌+◌, ◌-◌, ℕ, true, false, List, [], ◌∷◌, length, Option, Some, None, nat_lt, if◌then◌else◌}
use Rattle.disk_trait.specs.Device.{Connection, Gave, HearCall, HearEnd, Unheard}
use Rattle.run_history.specs.Machine.{Machine, MachineReply, BeforeAnswer, InAnswer, InTurn}
use Rattle.run_history.specs.Steps.{TakenRequest, IsStep, Step, Answered, Refused, Starved, Stopped, Cut, Made, Piece, Interim}
use Rattle.run_history.specs.Steps as steps
use Rattle.run_history.specs.Sessions.{Hearing, IsServed, LinkEnd, Saying, Session, Whole, run_effect}
use Rattle.run_history.specs.Runs.{StandsNow}
use Rattle.run_history.specs.Traces.{Trace, begun, counts_of_run, start_of, states_of, trace_of}

-- what the small machine is asked: to show its number, or to add to it
pub data Demand : Type 0 where
  Show : Demand
  Add : (n : ℕ) → Demand

-- 100 and the number, or 101 and what was added
abbrev pub demand_reply : Demand → ℕ → MachineReply ℕ
demand_reply Show s = record { bytes = 100 ∷ s ∷ []; change = None }
demand_reply (Add n) s = record { bytes = 101 ∷ n ∷ []; change = Some (s + n) }

-- an interim stands before an addition
abbrev pub demand_interim : Demand → Option (List ℕ)
demand_interim Show = None
demand_interim (Add n) = Some (1 ∷ [])

-- of nothing nothing was told, and of the head of an addition its interim
abbrev pub IsCutAddition : List ℕ → Option (List ℕ) → Type 0
IsCutAddition text None = text ≡ []
IsCutAddition text (Some interim) = (text ≡ 101 ∷ []) × (interim ≡ 1 ∷ [])

-- an addition hands the device a byte for each that it adds, and 10 more
abbrev pub demand_handed : Demand → ℕ
demand_handed Show = 0
demand_handed (Add n) = n + 10

-- Its text is its reply's, its turn takes 5 from a number above 5 and hands 20 bytes to the device,
-- and a file of one number stands for it. A request that was cut may have handed on what was heard.
abbrev pub adder : Machine ℕ Demand
adder = record {
  spells = λ n text d. text ≡ (demand_reply d 0).bytes;
  heads = λ n text d. ⊥;
  refuses = λ text refusal. (text ≡ 9 ∷ []) × (refusal.response ≡ 4 ∷ []);
  cuts = λ text cutting. IsCutAddition text cutting.interim;
  interim = demand_interim;
  answer = λ d moment s. demand_reply d s;
  no_memory = λ d. 5 ∷ [];
  disk_fault = λ d. 6 ∷ [];
  may_fail = λ failure. Unit {0};
  ends = λ d. false;
  due = λ moment s. nat_lt 5 s;
  turn = λ moment s. if nat_lt 5 s then Some (s - 5) else None;
  handed = λ d moment s. demand_handed d;
  turn_handed = λ moment s. if nat_lt 5 s then 20 else 0;
  cut_handed = λ text. length text;
  stands = λ image s. image ≡ s ∷ [];
  good = λ s. Unit {0};
}

-- a demand at a moment
abbrev pub asks : Demand → ℕ → TakenRequest Demand
asks demand moment =
    record { text = (demand_reply demand 0).bytes; request = demand; moment = moment }

-- On four connections: an answer behind an interim, and a refusal of the wire; an answer with a
-- turn behind it, and no memory; a request that was cut; and a fault of the disk within an answer.
abbrev pub six : List (Session Demand)
six =
    record {
      steps = Answered (asks (Add 1) 10) Made
          ∷ Refused (9 ∷ []) (record { interim = None; response = 4 ∷ [] }) ∷ [];
      link = Whole;
    }
    ∷ record { steps = Answered (asks (Add 3) 11) Made ∷ Starved (asks Show 12) ∷ []; link = Whole }
    ∷ record { steps = Cut (101 ∷ []) (Some (1 ∷ [])) (Some 13) ∷ []; link = Whole }
    ∷ record { steps = Stopped (asks Show 14) InAnswer ∷ []; link = Whole }
    ∷ []

-- What they come to from the number 3: each answer with the changes up to it, the states, the
-- moments, the bytes of the two additions and of the turn behind the second one, the byte of what
-- was cut, and what had begun, by what was told when a crash came: an interim alone, a byte of the
-- second connection's answer, all of its answers, and a byte of the last one.
pub record SixSteps : Type 0 where
  pub scripts : (trace_of adder 3 six).scripts ≡
      (Interim (1 ∷ []) ∷ steps.Reply (101 ∷ 1 ∷ []) 1 ∷ steps.Reply (4 ∷ []) 1 ∷ [])
      ∷ (Interim (1 ∷ []) ∷ steps.Reply (101 ∷ 3 ∷ []) 2 ∷ steps.Reply (5 ∷ []) 3 ∷ [])
      ∷ (Interim (1 ∷ []) ∷ [])
      ∷ (steps.Reply (100 ∷ 2 ∷ []) 3 ∷ [])
      ∷ []
  pub states : states_of (trace_of adder 3 six) ≡ 3 ∷ 4 ∷ 7 ∷ 2 ∷ []
  pub moments : (run_effect adder (start_of 3) six).moments ≡ 10 ∷ 11 ∷ 12 ∷ 13 ∷ 14 ∷ []
  pub handed : (run_effect adder (start_of 3) six).handed ≡ 11 + (13 + 20)
  pub cut : (run_effect adder (start_of 3) six).cut ≡ 1
  pub counts : counts_of_run adder 3 six ≡ record { answers = 5; changes = 3; skipped = 0 }
  pub none : begun (trace_of adder 3 six).scripts ((1 ∷ []) ∷ []) ≡ 0
  pub first : begun (trace_of adder 3 six).scripts ((1 ∷ 101 ∷ []) ∷ []) ≡ 1
  pub second : begun (trace_of adder 3 six).scripts
      ((1 ∷ 101 ∷ 1 ∷ 4 ∷ []) ∷ (1 ∷ 101 ∷ []) ∷ []) ≡ 2
  pub starved : begun (trace_of adder 3 six).scripts
      ((1 ∷ 101 ∷ 1 ∷ 4 ∷ []) ∷ (1 ∷ 101 ∷ 3 ∷ 5 ∷ []) ∷ (1 ∷ []) ∷ []) ≡ 3
  pub last : begun (trace_of adder 3 six).scripts
      ((1 ∷ 101 ∷ 1 ∷ 4 ∷ []) ∷ (1 ∷ 101 ∷ 3 ∷ 5 ∷ []) ∷ (1 ∷ []) ∷ (100 ∷ []) ∷ []) ≡ 3

-- One session with other failures: the turn skipped; the disk failed before an answer and in a
-- turn, while a record was being written and while none was.
abbrev pub alone : Step Demand → List (Session Demand)
alone step = record { steps = step ∷ []; link = Whole } ∷ []

pub record OtherSteps : Type 0 where
  pub skipped : states_of (trace_of adder 3 (alone (Answered (asks (Add 3) 1) steps.Skipped)))
      ≡ 3 ∷ 6 ∷ []
  pub skipped_handed : (run_effect adder (start_of 3)
      (alone (Answered (asks (Add 3) 1) steps.Skipped))).handed ≡ 13
  pub counted : counts_of_run adder 3 (alone (Answered (asks (Add 3) 1) steps.Skipped))
      ≡ record { answers = 1; changes = 1; skipped = 1 }
  pub torn : trace_of adder 3 (alone (Stopped (asks (Add 3) 1) (BeforeAnswer true))) ≡
      record {
        scripts = (Interim (1 ∷ []) ∷ steps.Reply (6 ∷ []) 0 ∷ []) ∷ [];
        first = 3;
        changes = 6 ∷ [];
      }
  pub untorn : trace_of adder 3 (alone (Stopped (asks (Add 3) 1) (BeforeAnswer false))) ≡
      record {
        scripts = (Interim (1 ∷ []) ∷ steps.Reply (6 ∷ []) 0 ∷ []) ∷ [];
        first = 3;
        changes = [];
      }
  pub turning : trace_of adder 3 (alone (Stopped (asks (Add 3) 1) (InTurn true))) ≡
      record {
        scripts = (Interim (1 ∷ []) ∷ steps.Reply (101 ∷ 3 ∷ []) 1 ∷ []) ∷ [];
        first = 3;
        changes = 6 ∷ 1 ∷ [];
      }
  pub before_turn : trace_of adder 3 (alone (Stopped (asks (Add 3) 1) (InTurn false))) ≡
      record {
        scripts = (Interim (1 ∷ []) ∷ steps.Reply (101 ∷ 3 ∷ []) 1 ∷ []) ∷ [];
        first = 3;
        changes = 6 ∷ [];
      }

-- ---- how a connection is served

-- a connection on which no call failed, with these hearings
abbrev pub unfailed : List ℕ → List ℕ → List HearCall → Connection
unfailed heard told hearings = record {
  heard = heard;
  told = told;
  ended = false;
  unheard = false;
  unsaid = false;
  hearings = hearings;
}

-- a hearing behind so many bytes heard and told
abbrev pub hears : ℕ → ℕ → HearEnd → HearCall
hears heard told end = record { heard = heard; told = told; unsaid = false; end = end }

-- The second of the six connections. The head of its addition was heard, and told its interim;
-- then the rest of it was heard, another request, and a byte behind that.
abbrev pub starved_connection : Connection
starved_connection =
    unfailed (101 ∷ 3 ∷ 100 ∷ 0 ∷ 7 ∷ []) (1 ∷ 101 ∷ 3 ∷ 5 ∷ []) (hears 0 0 (Gave 1)
    ∷ hears 1 1 (Gave 4) ∷ [])

-- what its session is to be, whatever its hearings
abbrev pub starved_session : Session Demand
starved_session = record {
  steps = Answered (asks (Add 3) 11) Made ∷ Starved (asks Show 12) ∷ [];
  link = Whole;
}

-- the same bytes, of which the rest of the addition was heard before its interim was told
abbrev pub late_connection : Connection
late_connection =
    record starved_connection { hearings = hears 0 0 (Gave 1) ∷ hears 1 0 (Gave 4) ∷ [] }

-- and the same, of which the second request was heard before the first was answered
abbrev pub batch_connection : Connection
batch_connection =
    record starved_connection { hearings = hears 0 0 (Gave 2) ∷ hears 2 1 (Gave 3) ∷ [] }

-- one that heard a whole request, and on which the next hearing failed
abbrev pub unheard_connection : Connection
unheard_connection =
    record (unfailed (101 ∷ 1 ∷ []) [] (hears 0 0 (Gave 2) ∷ hears 2 0 Unheard ∷ []))
    { unheard = true }

-- One that heard two requests at once and was told the answer to the first, and on which the next
-- hearing failed.
abbrev pub dropping_connection : Connection
dropping_connection = record (unfailed (100 ∷ 0 ∷ 100 ∷ 0 ∷ []) (100 ∷ 3 ∷ [])
    (hears 0 0 (Gave 4) ∷ hears 4 2 Unheard ∷ [])) { unheard = true }

-- one that heard two requests and was told nothing, since the first saying failed
abbrev pub silent_connection : Connection
silent_connection =
    record (unfailed (101 ∷ 1 ∷ 100 ∷ 0 ∷ []) [] (hears 0 0 (Gave 4) ∷ [])) { unsaid = true }

-- The first is served by its session, and not where its interim comes late, nor where it waits for
-- the second request before it answers the first. Nor is one served where its whole request is left
-- unanswered; where the second of two is, whichever call of the link is said to have failed; and
-- where a request behind a failed saying is taken in silence.
pub record Serving : Type 0 where
  pub starved : IsServed adder record { made = 1; state = 4 } starved_connection starved_session
  pub late : ¬ (IsServed adder record { made = 1; state = 4 } late_connection starved_session)
  pub batch : ¬ (IsServed adder record { made = 1; state = 4 } batch_connection starved_session)
  pub unanswered : ¬ (IsServed adder (start_of 3) unheard_connection record {
    steps = [];
    link = Hearing;
  })
  pub dropped : (link : LinkEnd) → ¬ (IsServed adder (start_of 3) dropping_connection record {
    steps = Answered (asks Show 10) Made ∷ [];
    link = link;
  })
  pub silent : ¬ (IsServed adder (start_of 3) silent_connection record {
    steps = Answered (asks (Add 1) 10) Made ∷ Answered (asks Show 11) Made ∷ [];
    link = Saying;
  })

-- ---- where the disk may fail

-- the same machine, were its disk called only to write the record of an answer's change
abbrev pub writing_adder : Machine ℕ Demand
writing_adder = record adder { may_fail = λ failure. failure ≡ BeforeAnswer true }

-- a connection that was told a byte of its answer
abbrev pub broken_connection : Connection
broken_connection = unfailed (100 ∷ 0 ∷ []) (100 ∷ []) (hears 0 0 (Gave 2) ∷ [])

-- its session, where the disk failed within that answer
abbrev pub broken_session : Session Demand
broken_session = record { steps = Stopped (asks Show 14) InAnswer ∷ []; link = Whole }

-- one that was told nothing of it
abbrev pub mute_connection : Connection
mute_connection = unfailed (100 ∷ 0 ∷ []) [] (hears 0 0 (Gave 2) ∷ [])

-- The disk fails within an answer only of a machine that calls it there, and only once a byte of
-- the answer was told; and while a record is being written only of a request that has a change.
pub record Failing : Type 0 where
  pub within : IsServed adder (start_of 2) broken_connection broken_session
  pub mute : (link : LinkEnd) → ¬ (IsServed adder (start_of 2) mute_connection record {
    steps = broken_session.steps;
    link = link;
  })
  pub not_within : ¬ (IsServed writing_adder (start_of 2) broken_connection broken_session)
  pub writing : IsStep writing_adder 0 3 (Stopped (asks (Add 3) 1) (BeforeAnswer true))
  pub unchanged : ¬ (IsStep adder 0 3 (Stopped (asks Show 1) (BeforeAnswer true)))

-- ---- how a connection ends

-- a connection of which nothing was heard, nor its end
abbrev pub open_connection : Connection
open_connection = unfailed [] [] []

-- the disk failed while the record of an addition was being written
abbrev pub torn_trace : Trace ℕ
torn_trace = trace_of adder 3 (alone (Stopped (asks (Add 3) 1) (BeforeAnswer true)))

-- A connection that nothing ended is heard to its peer's end. Where a record was being written, the
-- file may stand for the state before its change or after it, and otherwise for the last one alone.
pub record WorkedEndings : Type 0 where
  pub unheard : ¬ (IsServed adder (start_of 3) open_connection record { steps = []; link = Whole })
  pub before : StandsNow adder (3 ∷ []) torn_trace true
  pub after : StandsNow adder (6 ∷ []) torn_trace true
  pub last : ¬ (StandsNow adder (3 ∷ []) torn_trace false)
