-- What a device means at one moment. Our own model of a disk and of the links to the outside.
use Rattle.std.specs.Prelude.{◌≡◌, ◌≤◌, ℕ, Bool, true, List, length, map}

-- how a call of `hear` ended: it gave so many bytes, it came to the peer's end, or it failed
pub data HearEnd : Type 0 where
  Gave : (count : ℕ) → HearEnd
  AtEnd : HearEnd
  Unheard : HearEnd

-- A call of `hear` at its place in its connection: how many bytes had been heard and told on it
-- when the call began, whether a `say` had failed on it by then, and how the call ended.
pub record HearCall : Type 0 where
  pub heard : ℕ
  pub told : ℕ
  pub unsaid : Bool
  pub end : HearEnd

-- One connection: the bytes that `hear` gave, the bytes that it was told, whether `hear` answered
-- 0, whether a `hear` failed on it, whether a `say` did, and its calls of `hear` in order, up to
-- the first that failed.
pub record Connection : Type 0 where
  pub heard : List ℕ
  pub told : List ℕ
  pub ended : Bool
  pub unheard : Bool
  pub unsaid : Bool
  pub hearings : List HearCall

-- a connection that `dial` began: its place, which is the number of connections that had begun
-- before it, and the port that was dialled
pub record Dialled : Type 0 where
  pub place : ℕ
  pub port : ℕ

-- The calls of `dial`: the connections that they began, in order, and for each port whether a call
-- to it failed. Where nothing is told of the ports their list is empty.
pub record Dials : Type 0 where
  pub begun : List Dialled
  pub missed : List Bool

-- The links to the outside: the counts of their faults, whether a connection is under way, the
-- connections in the order in which they began, how often `next_peer` said that no more will come,
-- and the calls of `dial`.
pub record Link : Type 0 where
  pub faults : ℕ
  pub peer_faults : ℕ
  pub under_way : Bool
  pub connections : List Connection
  pub closed : ℕ
  pub dials : Dials

-- what a crash leaves: the bytes of the file, and what each connection had been told
pub record Left : Type 0 where
  pub image : List ℕ
  pub told : List (List ℕ)

-- A device: its length in bytes, the count of its faults, whether it is honest, whether it shows
-- its bytes as read and tells all else, these bytes, the number of bytes handed to `write_at`, its
-- links, the moment as a number that doesn't fall, and what a crash at a moment since another may
-- leave.
pub record Device : Type 1 where
  pub size : ℕ
  pub faults : ℕ
  pub honest : Bool
  pub shows : Bool
  pub tells : Bool
  pub seen : List ℕ
  pub handed : ℕ
  pub link : Link
  pub moment : ℕ
  pub left_since : ℕ → Left → Type 0

-- what a crash may leave now
abbrev pub may_leave : Device → Left → Type 0
may_leave d = d.left_since d.moment

-- what each connection was told
abbrev pub told_by : Device → List (List ℕ)
told_by d = map (λ c. c.told) d.link.connections

-- the bytes that a read gives, where this was told
abbrev pub read_with : Device → List (List ℕ) → Left
read_with d told = record { image = d.seen; told = told }

-- What holds of every device at every moment: each image that a crash may leave of an honest one
-- has its length, and so has what it shows; what a crash since one moment may leave it may leave
-- since any earlier one; a crash now may leave the bytes that a read gives, so that what holds of
-- each image that a crash may leave holds of what is shown; and a crash now leaves told just what
-- was told.
pub record IsDevice (d : Device) : Type 0 where
  pub images : d.honest ≡ true → (t : ℕ) (p : Left) → d.left_since t p → length p.image ≡ d.size
  pub length : d.shows ≡ true → length d.seen ≡ d.size
  pub earlier : (t u : ℕ) (p : Left) → t ≤ u → u ≤ d.moment → d.left_since u p → d.left_since t p
  pub itself : d.shows ≡ true → (told : List (List ℕ)) × may_leave d (read_with d told)
  pub told : d.honest ≡ true → d.tells ≡ true → (p : Left) → may_leave d p → p.told ≡ told_by d
