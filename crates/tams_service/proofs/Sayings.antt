-- Sayings one after another, with reads of the disk before them.
use Rattle.std.proofs.Common.{◌≡◌, ◌≤◌, ℕ, Bool, true, false, ◌||◌, List, [], ◌++◌, length, inl, inr, refl, sym, ap, ◌∙◌, subst, arith}
use Rattle.std.proofs.lemmas.Bool.{false≢true}
use Rattle.std.proofs.lemmas.List.{append-nil, append_assoc, length-append}
use Rattle.disk_trait.specs.Device.{Connection, Device, Left, Link}
use Rattle.disk_trait.specs.Calls.{Elapses, SameDevice, Unchanged}
use Rattle.disk_trait.proofs.Theorems.{elapses_twice, elapses_weaker, no_time}
use Rattle.site_edge.specs.Links.{Said, Sends, Tells, after_say, change_last}
use Rattle.request_hearing.proofs.SiteLemmas.{change_last-itself, change_last-none, change_last-twice}
use Rattle.tams_service.specs.Saying.{Says, SaysAnswer}

-- ---- what was sent

-- all of some bytes and then what was sent of others
sends_twice : (ok : Bool) (a b s t : List ℕ) → Sends true a s → Sends ok b t → Sends ok (a ++ b) (s ++ t)
sends_twice ok a b s t one two = record {
  prefix = (two.prefix.0, rw (one.whole refl) (ap (λ l. a ++ l) two.prefix.1 ∙ sym (append_assoc a t two.prefix.0)));
  whole = λ all. rw (one.whole refl, two.whole all) refl;
}

-- a part of the first bytes alone
sends_front : (ok : Bool) (a b s : List ℕ) → Sends ok a s → Sends false (a ++ b) s
sends_front ok a b s one = record {
  prefix = (one.prefix.0 ++ b, ap (λ l. l ++ b) one.prefix.1 ∙ append_assoc s one.prefix.0 b);
  whole = λ all. absurd (false≢true all);
}

-- nothing of them
sends_none : (bytes : List ℕ) → Sends false bytes []
sends_none bytes = record { prefix = (bytes, refl); whole = λ all. absurd (false≢true all) }

-- ---- steps of what a crash leaves

tells_twice : (ok : Bool) (a b : List ℕ) (q m p : Left) → Tells true a q m → Tells ok b m p → Tells ok (a ++ b) q p
tells_twice ok a b q m p one two = record {
  image = two.image ∙ one.image;
  told = (
    one.told.0 ++ two.told.0,
    sends_twice ok a b one.told.0 two.told.0 one.told.1 two.told.1,
    two.told.2 ∙ ap (change_last (λ t. t ++ two.told.0)) one.told.2
        ∙ change_last-twice (λ t. t ++ two.told.0) (λ t. t ++ one.told.0) (λ t. t ++ (one.told.0 ++ two.told.0)) q.told
        (λ t. append_assoc t one.told.0 two.told.0),
  );
}

tells_front : (a b : List ℕ) (q p : Left) → Tells false a q p → Tells false (a ++ b) q p
tells_front a b q p one = record { image = one.image; told = (one.told.0, sends_front false a b one.told.0 one.told.1, one.told.2) }

tells_nothing : (bytes : List ℕ) (q p : Left) → Unchanged q p → Tells false bytes q p
tells_nothing bytes q p same = record {
  image = ap (λ (l : Left). l.image) same;
  told = ([], sends_none bytes, ap (λ (l : Left). l.told) same ∙ sym (change_last-none q.told));
}

-- ---- connections

or_nothing : (x : Bool) → (x || false) ≡ x
or_nothing true = refl
or_nothing false = refl

said_twice : (linked : Bool) (s t : List ℕ) (c : Connection) → after_say linked t (after_say true s c) ≡ after_say linked (s ++ t) c
said_twice linked s t c = rw (append_assoc c.told s t, or_nothing c.unsaid) refl

said_nothing : (c : Connection) → after_say true [] c ≡ c
said_nothing c = rw (append-nil c.told, or_nothing c.unsaid) refl

-- ---- sayings

-- one call
pub says_once : (ok : Bool) (bytes : List ℕ) (old new : Device) → Elapses (Tells false bytes) (Tells ok bytes) old new → Said ok bytes old new
    → new.handed ≡ old.handed → Says ok ok bytes old new
says_once ok bytes old new time said handed = record { time = time; connections = said.connections; handed = handed }

-- one call behind which no more is said
pub says_at_most : (bytes more : List ℕ) (linked : Bool) (old new : Device) → Says false linked bytes old new → Says false linked (bytes ++ more) old new
says_at_most bytes more linked old new says = record {
  time = elapses_weaker _ _ _ _ old new says.time (λ q p could tells. tells_front bytes more q p tells)
      (λ q p could left tells. tells_front bytes more q p tells);
  connections = λ tells.
      let told = says.connections tells in
      (told.0, sends_front false bytes more told.0 told.1, told.2);
  handed = says.handed;
}

-- bytes that were said whole, and others behind them
pub says_twice : (whole linked : Bool) (a b : List ℕ) (old mid new : Device) → SameDevice old mid → Says true true a old mid → Says whole linked b mid new
    → Says whole linked (a ++ b) old new
says_twice whole linked a b old mid new same one two = record {
  time = elapses_weaker _ _ _ _ old new (elapses_twice _ _ _ _ old mid new one.time two.time)
      (λ q p could steps. elim steps [
        | inl so_far ↦ tells_front a b q p so_far
        | inr then ↦ tells_twice false a b q then.0 p then.1 then.2
      ])
      (λ q p could left then. tells_twice whole a b q then.0 p then.1 then.2);
  connections = λ tells.
      let first = one.connections tells in
      let second = two.connections (same.tells ∙ tells) in (
        first.0 ++ second.0,
        sends_twice whole a b first.0 second.0 first.1 second.1,
        second.2 ∙ ap (change_last (after_say linked second.0)) first.2
            ∙ change_last-twice (after_say linked second.0) (after_say true first.0) (after_say linked (first.0 ++ second.0)) old.link.connections
            (said_twice linked first.0 second.0),
      );
  handed = two.handed ∙ one.handed;
}

-- ---- reads

-- a read before them
pub reads_then : (whole linked : Bool) (bytes : List ℕ) (old mid new : Device) → SameDevice old mid → mid.link ≡ old.link → Elapses Unchanged Unchanged old mid
    → mid.handed ≡ old.handed → Says whole linked bytes mid new → Says whole linked bytes old new
reads_then whole linked bytes old mid new same link time handed says = record {
  time = elapses_weaker _ _ _ _ old new (elapses_twice _ _ _ _ old mid new time says.time)
      (λ q p could steps. elim steps [
        | inl so_far ↦ tells_nothing bytes q p so_far
        | inr then ↦ subst (λ m. Tells false bytes m p) then.1 then.2
      ])
      (λ q p could left then. subst (λ m. Tells whole bytes m p) then.1 then.2);
  connections = λ tells.
      let told = says.connections (same.tells ∙ tells) in
      (told.0, told.1, told.2 ∙ ap (λ (l : Link). change_last (after_say linked told.0) l.connections) link);
  handed = says.handed ∙ handed;
}

-- a read that failed, behind which nothing is said
pub reads_alone : (bytes : List ℕ) (old new : Device) → new.link ≡ old.link → Elapses Unchanged Unchanged old new → new.handed ≡ old.handed
    → Says false true bytes old new
reads_alone bytes old new link time handed = record {
  time = elapses_weaker _ _ _ _ old new time (λ q p could same. tells_nothing bytes q p same) (λ q p could left same. tells_nothing bytes q p same);
  connections = λ tells. (
    [],
    sends_none bytes,
    ap (λ (l : Link). l.connections) link ∙ sym (change_last-itself (after_say true []) old.link.connections said_nothing),
  );
  handed = handed;
}

-- no call at all
pub says_none : (d : Device) → Says true true [] d d
says_none d = record {
  time = elapses_weaker _ _ _ _ d d (no_time Unchanged d (λ p. refl)) (λ q p could same. tells_nothing [] q p same)
      (λ q p could left same. none_told q p same);
  connections = λ tells. ([], all_of_none, sym (change_last-itself (after_say true []) d.link.connections said_nothing));
  handed = refl;
}
  where
    all_of_none : Sends true [] []
    all_of_none = record { prefix = ([], refl); whole = λ _. refl }

    none_told : (q p : Left) → Unchanged q p → Tells true [] q p
    none_told q p same = record {
      image = ap (λ (l : Left). l.image) same;
      told = ([], all_of_none, ap (λ (l : Left). l.told) same ∙ sym (change_last-none q.told));
    }

-- ---- a response, and what follows it

sent-more : (xs ys : List ℕ) (n : ℕ) → n ≤ length xs → n ≤ length (xs ++ ys)
sent-more xs ys n least = omega (arith, least, length-append xs ys)

-- it couldn't be said
pub answers_part : (response behind : List ℕ) (old new : Device) → Says false false response old new → SaysAnswer false false response behind old new
answers_part response behind old new says =
    record { says = says_at_most response behind false old new says; front = λ tells linked. absurd (false≢true linked) }

-- it was said whole, and nothing follows it
pub answers_alone : (response : List ℕ) (old new : Device) → Says true true response old new → SaysAnswer true true response [] old new
answers_alone response old new says = record {
  says = record {
    time = subst (λ b. Elapses (Tells false b) (Tells true b) old new) (sym (append-nil response)) says.time;
    connections = λ tells.
        let told = says.connections tells in
        (told.0, subst (λ b. Sends true b told.0) (sym (append-nil response)) told.1, told.2);
    handed = says.handed;
  };
  front = λ tells linked. let all = ap length ((says.connections tells).1.whole refl) in omega (arith, all);
}

-- it was said whole, and then what follows it, or a part of that
pub answers_twice : (whole linked : Bool) (response behind : List ℕ) (old mid new : Device) → SameDevice old mid → Says true true response old mid
    → Says whole linked behind mid new → SaysAnswer whole linked response behind old new
unfolding says_twice
answers_twice whole linked response behind old mid new same one two = record {
  says = says_twice whole linked response behind old mid new same one two;
  front = λ tells on.
      let all = ap length ((one.connections tells).1.whole refl) in
      sent-more (one.connections tells).0 (two.connections (same.tells ∙ tells)).0 (length response) (omega (arith, all));
}
