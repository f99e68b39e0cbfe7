-- Attempts to send events to their webhooks: what is sent, in which order, and what was answered.
-- Our own profile of the Time-addressable Media Store.
use Rattle.std.specs.Prelude.{◌≡◌, ◌≤◌, ℕ, suc, ◌+◌, Bool, true, false, List, [], ◌∷◌, ◌++◌, Option, Some, None, is_some, filter, map, length, Contains, if◌then◌else◌}
use Rattle.disk_trait.specs.Device.{Connection, Dials}
use Rattle.site_edge.specs.Links.{dials_after}
use Rattle.media_rows.specs.declared.event.EventRow.{EventRow}
use Rattle.media_rows.specs.declared.hook.HookRow.{HookRow}
use Rattle.media_rows.specs.Library.{Library}
use Rattle.hook_delivery.specs.declared.exchanging.Answered.{Answered}
use Rattle.hook_delivery.specs.declared.exchanging.Answered.TheVariants.{Accepted, Other, Silent, Failed}
use Rattle.hook_delivery.specs.declared.request.Outgoing.{Outgoing}
use Rattle.hook_delivery.specs.Exchanging.{IsAnswer}
use Rattle.hook_delivery.specs.Posting.{request_of}

-- An attempt to send an event to its hook: the request, the connection, if the dial began one, and
-- what came of it.
pub record Attempt : Type 0 where
  pub hook : HookRow
  pub event : EventRow
  pub out : Outgoing
  pub connection : Option Connection
  pub answer : Answered

-- the answer accepts the event
abbrev pub accepts : Answered → Bool
accepts Accepted = true
accepts (Other status) = false
accepts Silent = false
accepts Failed = false

abbrev pub is_accepted : Attempt → Bool
is_accepted x = accepts x.answer

-- The attempts whose events were accepted, and these events.
abbrev pub accepted_in : List Attempt → List Attempt
accepted_in attempts = filter is_accepted attempts

abbrev pub accepted_events : List Attempt → List EventRow
accepted_events attempts = map (λ x. x.event) (accepted_in attempts)

-- ---- one attempt

-- the dial failed; or it began a connection, which had this answer to the request
abbrev pub HasAnswer : Attempt → Option Connection → Type 0
HasAnswer x None = x.answer ≡ Failed
HasAnswer x (Some c) = IsAnswer x.answer x.out.bytes c

-- An attempt over a library: the hook is one of its hooks, the event waits for that hook, the
-- request is the one by which the event goes there, and it had its answer.
pub record IsAttempt (library : Library) (x : Attempt) : Type 0 where
  pub kept : Contains library.outbox.hooks x.hook
  pub waits : x.event.hook ≡ x.hook.serial
  pub request : request_of library.id x.hook x.event ≡ Some x.out
  pub answered : HasAnswer x x.connection

-- ---- one after the other

-- the least serial that the hook of a next attempt may have: that of the same hook, where the event
-- was accepted, and a higher one otherwise
abbrev pub least_behind : Attempt → ℕ
least_behind x = if is_accepted x then x.hook.serial else suc x.hook.serial

-- Attempts go by rising serial of their hooks, from a least one on. Behind one whose event wasn't
-- accepted none goes to the same hook.
abbrev pub AreInTurn : ℕ → List Attempt → Type 0
AreInTurn least [] = Unit {0}
AreInTurn least (x ∷ xs) = (least ≤ x.hook.serial) × AreInTurn (least_behind x) xs

-- ---- the link

-- a connection, if there is one
abbrev pub connection_list : Option Connection → List Connection
connection_list None = []
connection_list (Some c) = c ∷ []

-- the connections that attempts began, in order
abbrev pub connections_of : List Attempt → List Connection
connections_of [] = []
connections_of (x ∷ xs) = connection_list x.connection ++ connections_of xs

-- the calls of `dial` behind those from before: one an attempt, to its port, behind so many
-- connections
abbrev pub dials_by : ℕ → List Attempt → Dials → Dials
dials_by place [] dials = dials
dials_by place (x ∷ xs) dials =
    dials_by (place + length (connection_list x.connection)) xs
    (dials_after (is_some x.connection) x.out.port place dials)
