-- Laws of calls in a row, over any device.
use Rattle.std.proofs.Common.{◌≡◌, ◌∙◌, ◌≤◌, ◌+◌, ℕ, Bool, true, List, inl, inr, refl, sym, arith}
use Rattle.std.proofs.lemmas.Bool.{false≢true}
use Rattle.disk_trait.specs.Device.{Device, Left, may_leave}
use Rattle.disk_trait.specs.Calls.{SameDevice, Torn, TornWrite, Follows, Elapses, IsCounted, DiskCall, DiskCalls, DiskReads, DiskWrites, Unchanged}
use Rattle.std.specs.Prelude.{IsTrue}
use Rattle.disk_trait.specs.DiskMoments.{Then, Throughout, WithinTwo}
use Rattle.disk_trait.proofs.TornLemmas.{torn_itself, torn_wider}

-- time over two calls in a row
pub elapses_twice : (within1 ended1 within2 ended2 : Left → Left → Type 0) (old mid new : Device) → Elapses within1 ended1 old mid
    → Elapses within2 ended2 mid new → Elapses (WithinTwo within1 ended1 within2) (Then ended1 ended2) old new
elapses_twice within1 ended1 within2 ended2 old mid new first second = record {
  later = omega (arith, first.later, second.later);
  now = λ p left.
      let after = second.now p left in
      let before = first.now after.0 after.1 in
      (before.0, before.1, (after.0, before.2, after.2));
  since = λ t p le left. elim (second.since t p (omega (arith, first.later)) left) [
    | inl earlier ↦ elim (first.since t p le earlier) [
      | inl was ↦ inl was
      | inr so_far ↦ inr (so_far.0, so_far.1, inl so_far.2)
    ]
    | inr so_far ↦
        let before = first.now so_far.0 so_far.1 in
        inr (before.0, before.1, inr (so_far.0, before.2, so_far.2))
  ];
  keeps = λ t p le left. second.keeps t p (omega (arith, first.later)) (first.keeps t p le left);
}

-- a call at each moment of which a crash leaves what has P
pub throughout_call : (within ended : Left → Left → Type 0) (P : Left → Type 0) (old new : Device) → Elapses within ended old new
    → ((p : Left) → Follows within (may_leave old) p → P p) → Throughout P old new
throughout_call within ended P old new time holds = record {
  later = time.later;
  since = λ t p le left. elim (time.since t p le left) [ inl was ↦ inl was | inr so_far ↦ inr (holds p so_far) ];
  keeps = time.keeps;
}

pub throughout_twice : (P : Left → Type 0) (old mid new : Device) → Throughout P old mid → Throughout P mid new → Throughout P old new
throughout_twice P old mid new first second = record {
  later = omega (arith, first.later, second.later);
  since = λ t p le left. elim (second.since t p (omega (arith, first.later)) left) [ inl earlier ↦ first.since t p le earlier | inr holds ↦ inr holds ];
  keeps = λ t p le left. second.keeps t p (omega (arith, first.later)) (first.keeps t p le left);
}

-- what holds of each crash at a moment since the calls began
pub throughout_each : (P : Left → Type 0) (old new : Device) → Throughout P old new → ((p : Left) → may_leave old p → P p) → (p : Left)
    → new.left_since old.moment p → P p
throughout_each P old new calls before p left =
    elim (calls.since old.moment p (omega arith) left) [ inl was ↦ before p was | inr holds ↦ holds ]

-- a weaker fact
pub throughout_weaker : (P Q : Left → Type 0) (old new : Device) → ((p : Left) → P p → Q p) → Throughout P old new → Throughout Q old new
throughout_weaker P Q old new weaker calls = record {
  later = calls.later;
  since = λ t p le left. elim (calls.since t p le left) [ inl was ↦ inl was | inr holds ↦ inr (weaker p holds) ];
  keeps = calls.keeps;
}

pub same_device_twice : (old mid new : Device) → SameDevice old mid → SameDevice mid new → SameDevice old new
same_device_twice old mid new first second = record {
  size = second.size ∙ first.size;
  honest = second.honest ∙ first.honest;
  shows = second.shows ∙ first.shows;
  tells = second.tells ∙ first.tells;
}

-- a count over two calls, of which the second is made only where the first succeeds
pub counted_twice : (ok : Bool) (before mid now : ℕ) → IsCounted true before mid → IsCounted ok mid now → IsCounted ok before now
counted_twice ok before mid now first second =
    let same : mid ≡ before = first.stays refl in
    rw (← same) second

-- two writes to one range that were cut short
pub torn_twice : (at n : ℕ) (old mid new : List ℕ) → Torn at n old mid → Torn at n mid new → Torn at n old new
torn_twice at n old mid new first second = record {
  before = second.before ∙ first.before;
  after = second.after ∙ first.after;
  same_length = second.same_length ∙ first.same_length;
}

-- time by weaker steps, from what could be left before
pub elapses_weaker : (within ended other last : Left → Left → Type 0) (old new : Device) → Elapses within ended old new
    → ((q p : Left) → may_leave old q → within q p → other q p) → ((q p : Left) → may_leave old q → may_leave new p → ended q p → last q p)
    → Elapses other last old new
elapses_weaker within ended other last old new time so_far end = record {
  later = time.later;
  now = λ p left. let from = time.now p left in (from.0, from.1, end from.0 p from.1 left from.2);
  since = λ t p le left. elim (time.since t p le left) [ inl was ↦ inl was | inr from ↦ inr (from.0, from.1, so_far from.0 p from.1 from.2) ];
  keeps = time.keeps;
}

-- time over two calls in a row that make the same step, which may be made twice
pub elapses_along : (R : Left → Left → Type 0) (old mid new : Device) → ((q m p : Left) → R q m → R m p → R q p) → Elapses R R old mid → Elapses R R mid new
    → Elapses R R old new
elapses_along R old mid new twice first second =
    let both = elapses_twice R R R R old mid new first second in
    elapses_weaker (WithinTwo R R R) (Then R R) R R old new both
    (λ q p could steps. elim steps [ inl so_far ↦ so_far | inr then ↦ twice q then.0 p then.1 then.2 ])
    (λ q p could left then. twice q then.0 p then.1 then.2)

-- no call at all
pub no_calls : (d : Device) → DiskCalls true d d
no_calls d = record {
  same = record { size = refl; honest = refl; shows = refl; tells = refl };
  link = refl;
  counted = record { never_falls = omega arith; stays = λ _. refl; rises = λ no. absurd (false≢true (sym no)) };
}

pub no_time : (R : Left → Left → Type 0) (d : Device) → ((p : Left) → R p p) → Elapses R R d d
no_time R d itself = record {
  later = omega arith;
  now = λ p left. (p, left, itself p);
  since = λ t p le left. inl left;
  keeps = λ t p le left. left;
}

-- calls in a row, of which the later ones are made only where the earlier ones succeed
pub calls_twice : (ok : Bool) (old mid new : Device) → DiskCalls true old mid → DiskCalls ok mid new → DiskCalls ok old new
calls_twice ok old mid new first second = record {
  same = same_device_twice old mid new first.same second.same;
  link = second.link ∙ first.link;
  counted = counted_twice ok old.faults mid.faults new.faults first.counted second.counted;
}

-- Reads in a row: none, one call, and some before others.
pub no_reads : (d : Device) → DiskReads true d d
no_reads d = record { calls = no_calls d; seen = refl; handed = refl; time = no_time Unchanged d (λ p. refl) }

pub one_read : (ok : Bool) (old new : Device) → DiskCall Unchanged ok old new → new.seen ≡ old.seen → new.handed ≡ old.handed → DiskReads ok old new
one_read ok old new call seen handed = record {
  calls = record { same = call.same; link = call.link; counted = call.counted };
  seen = seen;
  handed = handed;
  time = call.time;
}

pub reads_twice : (ok : Bool) (old mid new : Device) → DiskReads true old mid → DiskReads ok mid new → DiskReads ok old new
reads_twice ok old mid new first second = record {
  calls = calls_twice ok old mid new first.calls second.calls;
  seen = second.seen ∙ first.seen;
  handed = second.handed ∙ first.handed;
  time = elapses_along Unchanged old mid new (λ q m p one two. two ∙ one) first.time second.time;
}

-- Steps of writes within a range: none, and one after the other.
pub write_itself : (at n : ℕ) (p : Left) → TornWrite at n p p
write_itself at n p = record { image = torn_itself at n p.image; told = refl }

pub write_twice : (at n : ℕ) (q m p : Left) → TornWrite at n q m → TornWrite at n m p → TornWrite at n q p
write_twice at n q m p one two = record {
  image = torn_twice at n q.image m.image p.image one.image two.image;
  told = two.told ∙ one.told;
}

pub write_wider : (at n from k : ℕ) (q p : Left) → from ≤ at → at + n ≤ from + k → TornWrite at n q p → TornWrite from k q p
write_wider at n from k q p below above one = record {
  image = torn_wider at n q.image p.image one.image from k below above;
  told = one.told;
}

-- Writes in a row: none, one call within the range, a sync, and some before others.
pub no_writes : (at n : ℕ) (d : Device) → DiskWrites at n 0 true d d
no_writes at n d = record {
  calls = no_calls d;
  torn = λ _. torn_itself at n d.seen;
  handed = λ _ _. omega arith;
  handed_at_most = λ _. omega arith;
  time = no_time (TornWrite at n) d (write_itself at n);
}

pub one_write : (at n from k : ℕ) (ok : Bool) (old new : Device) → from ≤ at → at + n ≤ from + k → DiskCall (TornWrite at n) ok old new
    → (old.shows ≡ true → Torn at n old.seen new.seen) → (old.tells ≡ true → IsTrue ok → new.handed ≡ old.handed + n)
    → (old.tells ≡ true → new.handed ≤ old.handed + n) → DiskWrites from k n ok old new
one_write at n from k ok old new below above call torn handed at_most = record {
  calls = record { same = call.same; link = call.link; counted = call.counted };
  torn = λ shows. torn_wider at n old.seen new.seen (torn shows) from k below above;
  handed = handed;
  handed_at_most = at_most;
  time = elapses_weaker (TornWrite at n) (TornWrite at n) (TornWrite from k) (TornWrite from k) old new call.time
      (λ q p could one. write_wider at n from k q p below above one)
      (λ q p could left one. write_wider at n from k q p below above one);
}

pub writes_twice : (at n first_count count : ℕ) (ok : Bool) (old mid new : Device) → DiskWrites at n first_count true old mid → DiskWrites at n count ok mid new
    → DiskWrites at n (first_count + count) ok old new
writes_twice at n first_count count ok old mid new first second = record {
  calls = calls_twice ok old mid new first.calls second.calls;
  torn = λ shows. torn_twice at n old.seen mid.seen new.seen (first.torn shows) (second.torn (first.calls.same.shows ∙ shows));
  handed = λ tells passed. omega (arith, first.handed tells refl, second.handed (first.calls.same.tells ∙ tells) passed);
  handed_at_most = λ tells. omega (arith, first.handed tells refl, second.handed_at_most (first.calls.same.tells ∙ tells));
  time = elapses_along (TornWrite at n) old mid new (write_twice at n) first.time second.time;
}
