-- The reader of ranges, with all seconds: it reads exactly the texts of ranges.
use Rattle.std.proofs.Common.{◌≡◌, ℕ, ◌+◌, ◌*◌, ◌==◌, nat_lt, ◌&&◌, Bool, true, false, if◌then◌else◌, List, [], ◌∷◌, ◌++◌, Option, Some, None, IfSome, ◌⊎◌, inl, inr, sym, ◌∙◌, ap, refl, subst}
use Rattle.std.specs.Option.{option_map, option_and_then, option_or}
use Rattle.std.proofs.lemmas.Bool.Decides.{Decides-eqb}
use Rattle.std.proofs.lemmas.List.{append_assoc, append-nil}
use Rattle.time_range.specs.Spelling.{ts_text, IsStamp, left_text, right_text, stamp_text, middle_text, range_text, HasStamps}
use Rattle.time_range.specs.Within.Scanning.{run, digit_of, stamp_read, left_bracket, right_bracket, after_bracket, longer, closed, range_read, range_next}
use Rattle.time_range.specs.Prefixes.{BeginsSome}
use Rattle.time_range.specs.declared.spelling.TsParts.{TsParts}
use Rattle.time_range.specs.declared.spelling.Bracket.{Bracket}
use Rattle.time_range.specs.declared.spelling.Bracket.TheVariants.{Square, Round}
use Rattle.time_range.specs.declared.spelling.Middle.{Middle}
use Rattle.time_range.specs.declared.spelling.Middle.TheVariants.{Empty, Single, Split}
use Rattle.time_range.specs.declared.spelling.RangeParts.{RangeParts}
use Rattle.time_range.specs.declared.scanning.TsScan.{TsScan}
use Rattle.time_range.specs.declared.scanning.TsScan.TheVariants.{Start, Signed, Seconds, Colon, Nanos}
use Rattle.time_range.specs.declared.scanning.RangeScan.{RangeScan}
use Rattle.time_range.specs.declared.scanning.RangeScan.TheVariants.{Left, First, Mark, Second, Right}
use Rattle.time_range.proofs.Machines.{IsText, IsReader, run_on, along, map_some}
use Rattle.time_range.proofs.TsMachine.{next_ts, said, Fine, stamp_inv, ts_step, ts_ending, ts_reads}

-- the reader that keeps all seconds
abbrev pub next_range : RangeScan → ℕ → Option RangeScan
next_range = range_next (λ n. n)

-- ---- the text that leads to each state

-- the text that has been read, from the state
abbrev pub said_of : RangeScan → List ℕ
said_of (Left left) = left_text left
said_of (First left first) = left_text left ++ said first
said_of (Mark left first) = left_text left ++ (stamp_text first ++ 95 ∷ [])
said_of (Second left first second) = left_text left ++ (stamp_text first ++ (95 ∷ said second))
said_of (Right p) = range_text p

-- each timestamp in the state has at most nine digits of nanoseconds
abbrev pub FineRange : RangeScan → Type 0
FineRange (Left left) = Unit {0}
FineRange (First left first) = Fine first
FineRange (Mark left first) = IfSome first IsStamp
FineRange (Second left first second) = IfSome first IsStamp × Fine second
FineRange (Right p) = HasStamps p.middle

-- the text so far is the one that leads to the state
abbrev pub GoodRange : List ℕ → RangeScan → Type 0
GoodRange front scan = (front ≡ said_of scan) × FineRange scan

-- ---- what follows from an answer

-- one of two values is the answer
option_or_inv : (a b : Option RangeScan) (t : RangeScan) → option_or a b ≡ Some t → (a ≡ Some t) ⊎ (b ≡ Some t)
option_or_inv None b t e = inr e
option_or_inv (Some x) b t e = inl e

-- a byte that is taken as a left bracket is its text
left_inv : (c : ℕ) (b : Bracket) (p q : Bool) → (p ≡ true → c ≡ 91) → (q ≡ true → c ≡ 40) →
    (if p then Some Square else (if q then Some Round else None)) ≡ Some b → c ∷ [] ≡ left_text (Some b)
left_inv c b true q is_p is_q e = let same : Square ≡ b = cc in subst (λ k. c ∷ [] ≡ left_text (Some k)) same (ap (λ k. k ∷ []) (is_p refl))
left_inv c b false true is_p is_q e = let same : Round ≡ b = cc in subst (λ k. c ∷ [] ≡ left_text (Some k)) same (ap (λ k. k ∷ []) (is_q refl))
left_inv c b false false is_p is_q e = cc

-- a byte that is taken as a right bracket is its text
right_inv : (c : ℕ) (b : Bracket) (p q : Bool) → (p ≡ true → c ≡ 93) → (q ≡ true → c ≡ 41) →
    (if p then Some Square else (if q then Some Round else None)) ≡ Some b → c ∷ [] ≡ right_text (Some b)
right_inv c b true q is_p is_q e = let same : Square ≡ b = cc in subst (λ k. c ∷ [] ≡ right_text (Some k)) same (ap (λ k. k ∷ []) (is_p refl))
right_inv c b false true is_p is_q e = let same : Round ≡ b = cc in subst (λ k. c ∷ [] ≡ right_text (Some k)) same (ap (λ k. k ∷ []) (is_q refl))
right_inv c b false false is_p is_q e = cc

-- a timestamp's reader takes one more byte inside the range's text
said_more : (s u : TsScan) (c : ℕ) → Fine s → next_ts s c ≡ Some u → (said s ++ c ∷ [] ≡ said u) × Fine u
said_more s u c fine e = ts_step (said s) s u c (refl, fine) e

-- ---- one byte more

-- the first byte behind the left bracket makes the next text
begun_step : (left : Option Bracket) (c : ℕ) (t : RangeScan) (b : Bool) → (b ≡ true → c ≡ 95) →
    (if b then Some (Mark left None) else option_map (First left) (next_ts Start c)) ≡ Some t →
    GoodRange (left_text left ++ c ∷ []) t
begun_step left c t true mark e =
    let same : Mark left None ≡ t = cc in
    subst (GoodRange (left_text left ++ c ∷ [])) same (ap (λ k. left_text left ++ k ∷ []) (mark refl), tt)
begun_step left c t false mark e =
    let (u, next, same) = map_some (First left) (next_ts Start c) t e in
    let more = said_more Start u c tt next in
    subst (GoodRange (left_text left ++ c ∷ [])) same (ap (λ l. left_text left ++ l) more.0, more.1)

-- a byte behind a part of the first timestamp makes the next text
first_step : (left : Option Bracket) (s : TsScan) (c : ℕ) (t : RangeScan) (b : Bool) → Fine s → (b ≡ true → c ≡ 95) →
    (if b then option_map (λ p. Mark left (Some p)) (stamp_read s) else option_map (First left) (next_ts s c)) ≡ Some t →
    GoodRange ((left_text left ++ said s) ++ c ∷ []) t
first_step left s c t true fine mark e =
    let (p, read, same) = map_some (λ p. Mark left (Some p)) (stamp_read s) t e in
    let is = stamp_inv s p read in
    let text = append_assoc (left_text left) (said s) (c ∷ []) ∙ ap (λ k. left_text left ++ (said s ++ k ∷ [])) (mark refl) ∙ ap
    (λ u. left_text left ++ (said u ++ 95 ∷ [])) is in
    subst (GoodRange ((left_text left ++ said s) ++ c ∷ [])) same (text, subst Fine is fine)
first_step left s c t false fine mark e =
    let (u, next, same) = map_some (First left) (next_ts s c) t e in
    let more = said_more s u c fine next in
    subst (GoodRange ((left_text left ++ said s) ++ c ∷ [])) same (
      append_assoc (left_text left) (said s) (c ∷ []) ∙ ap (λ l. left_text left ++ l) more.0,
      more.1,
    )

-- behind the mark and a part of the second timestamp
second_step : (left : Option Bracket) (first : Option TsParts) (s : TsScan) (c : ℕ) (t : RangeScan) →
    IfSome first IsStamp → Fine s → option_map (Second left first) (next_ts s c) ≡ Some t →
    GoodRange ((left_text left ++ (stamp_text first ++ (95 ∷ said s))) ++ c ∷ []) t
second_step left first s c t stamp fine e =
    let (u, next, same) = map_some (Second left first) (next_ts s c) t e in
    let more = said_more s u c fine next in
    let text = append_assoc (left_text left) (stamp_text first ++ (95 ∷ said s)) (c ∷ []) ∙ ap (λ l. left_text left ++ l)
    (append_assoc (stamp_text first) (95 ∷ said s) (c ∷ [])) in
    subst (GoodRange ((left_text left ++ (stamp_text first ++ (95 ∷ said s))) ++ c ∷ [])) same
    (text ∙ ap (λ l. left_text left ++ (stamp_text first ++ (95 ∷ l))) more.0, (stamp, more.1))

-- each byte that is no right bracket makes the next text
longer_step : (s t : RangeScan) (c : ℕ) → FineRange s → longer (λ n. n) s c ≡ Some t → GoodRange (said_of s ++ c ∷ []) t
longer_step (Left None) t c fine e =
    elim (option_or_inv (option_map (λ b. Left (Some b)) (left_bracket c)) (after_bracket (λ n. n) None c) t e) [
      | inl bracket ↦
          let (b, is, same) = map_some (λ b. Left (Some b)) (left_bracket c) t bracket in
          subst (GoodRange (c ∷ [])) same (left_inv c b (c == 91) (c == 40) ((Decides-eqb c 91).0) ((Decides-eqb c 40).0) is, tt)
      | inr start ↦ begun_step None c t (c == 95) ((Decides-eqb c 95).0) start
    ]
longer_step (Left (Some b)) t c fine e = begun_step (Some b) c t (c == 95) ((Decides-eqb c 95).0) e
longer_step (First left s) t c fine e = first_step left s c t (c == 95) fine ((Decides-eqb c 95).0) e
longer_step (Mark left first) t c fine e = second_step left first Start c t fine tt e
longer_step (Second left first s) t c fine e = second_step left first s c t fine.0 fine.1 e
longer_step (Right p) t c fine e = cc

-- ---- whole ranges

-- what has been read, where it is a whole range, is the text of its parts
pub read_text : (s : RangeScan) (p : RangeParts) → FineRange s → range_read s ≡ Some p → HasStamps p.middle × (said_of s ≡ range_text p)
read_text (Left left) p fine e =
    let same : record { left = left; middle = Empty; right = None } ≡ p = cc in
    subst (λ q. HasStamps q.middle × (left_text left ≡ range_text q)) same (tt, sym (append-nil (left_text left)))
read_text (First left s) p fine e =
    let (at, read, same) = map_some (λ q. record { left = left; middle = Single q; right = None }) (stamp_read s) p e in
    let is = stamp_inv s at read in
    subst (λ q. HasStamps q.middle × (left_text left ++ said s ≡ range_text q)) same
    (subst Fine is fine, ap (λ u. left_text left ++ said u) is ∙ ap (λ l. left_text left ++ l) (sym (append-nil (ts_text at))))
read_text (Mark left first) p fine e =
    let same : record { left = left; middle = Split first None; right = None } ≡ p = cc in
    subst (λ q. HasStamps q.middle × (said_of (Mark left first) ≡ range_text q)) same
    ((fine, tt), ap (λ l. left_text left ++ l) (sym (append-nil (stamp_text first ++ 95 ∷ []))))
read_text (Second left first s) p fine e =
    let (at, read, same) = map_some (λ q. record { left = left; middle = Split first (Some q); right = None }) (stamp_read s) p e in
    let is = stamp_inv s at read in
    subst (λ q. HasStamps q.middle × (said_of (Second left first s) ≡ range_text q)) same (
      (fine.0, subst Fine is fine.1),
      ap (λ u. left_text left ++ (stamp_text first ++ (95 ∷ said u))) is ∙ ap (λ l. left_text left ++ l)
          (sym (append-nil (stamp_text first ++ (95 ∷ ts_text at)))),
    )
read_text (Right q) p fine e = let same : q ≡ p = cc in subst (λ r. HasStamps r.middle × (range_text q ≡ range_text r)) same (fine, refl)

-- a right bracket makes the next text
close_step : (left : Option Bracket) (middle : Middle) (right : Option Bracket) (c : ℕ) (t : RangeScan) →
    HasStamps middle → closed (record { left = left; middle = middle; right = right }) c ≡ Some t →
    GoodRange ((left_text left ++ (middle_text middle ++ right_text right)) ++ c ∷ []) t
close_step left middle (Some b) c t fine e = cc
close_step left middle None c t fine e =
    let (b, is, same) = map_some (λ k. Right (record { left = left; middle = middle; right = Some k })) (right_bracket c) t e in
    let bracket = right_inv c b (c == 93) (c == 41) ((Decides-eqb c 93).0) ((Decides-eqb c 41).0) is in
    subst (GoodRange ((left_text left ++ (middle_text middle ++ [])) ++ c ∷ [])) same (
      ap (λ l. (left_text left ++ l) ++ c ∷ []) (append-nil (middle_text middle)) ∙ append_assoc (left_text left) (middle_text middle) (c ∷ [])
          ∙ ap (λ l. left_text left ++ (middle_text middle ++ l)) bracket,
      fine,
    )

-- where two steps in a row come from
pub and_then_inv : {A B : Type 0} (f : A → Option B) (o : Option A) (t : B) → option_and_then f o ≡ Some t → (p : A) × (o ≡ Some p) × (f p ≡ Some t)
and_then_inv f None t e = cc
and_then_inv f (Some p) t e = (p, refl, e)

-- each byte that is taken makes the text of the next state
range_step : (front : List ℕ) (s t : RangeScan) (c : ℕ) → GoodRange front s → next_range s c ≡ Some t → GoodRange (front ++ c ∷ []) t
range_step front s t c good e =
    subst (λ l. GoodRange (l ++ c ∷ []) t) (sym good.0)
    (elim (option_or_inv (longer (λ n. n) s c) (option_and_then (λ p. closed p c) (range_read s)) t e) [
      | inl longer_is ↦ longer_step s t c good.1 longer_is
      | inr closing ↦
          let (p, read, end) = and_then_inv (λ p. closed p c) (range_read s) t closing in
          let whole = read_text s p good.1 read in
          subst (λ l. GoodRange (l ++ c ∷ []) t) (sym whole.1) (close_step p.left p.middle p.right c t whole.0 end)
    ])

-- what has been read is the text that leads to the state
pub range_good : (text : List ℕ) (s : RangeScan) → run next_range (Left None) text ≡ Some s → GoodRange text s
range_good text s e = along next_range GoodRange range_step [] (Left None) text s (refl, tt) e

-- ---- each state can be ended

-- each timestamp has at most nine digits of nanoseconds
abbrev pub HasFineStamps : RangeParts → Type 0
HasFineStamps p = HasStamps p.middle

-- the text is one that a range's parts have
abbrev IsRange : List ℕ → Type 0
IsRange = IsText next_range (Left None) range_read range_text HasFineStamps

-- a state that is a whole range is ended
ended : (s : RangeScan) (p : RangeParts) → FineRange s → range_read s ≡ Some p → BeginsSome IsRange (said_of s)
ended s p fine e = let whole = read_text s p fine e in ([], (p, whole.0, append-nil (said_of s) ∙ whole.1))

-- what has been read can be ended to a range's text
range_ending : (s : RangeScan) → FineRange s → BeginsSome IsRange (said_of s)
range_ending (Left left) fine = ended (Left left) _ fine refl
range_ending (First left s) fine =
    let (rest, (p, stamp, text)) = ts_ending s fine in (
      rest,
      (
        record { left = left; middle = Single p; right = None },
        stamp,
        append_assoc (left_text left) (said s) rest ∙ ap (λ l. left_text left ++ l) (text ∙ sym (append-nil (ts_text p))),
      ),
    )
range_ending (Mark left first) fine = ended (Mark left first) _ fine refl
range_ending (Second left first s) fine =
    let (rest, (p, stamp, text)) = ts_ending s fine.1 in (
      rest,
      (
        record { left = left; middle = Split first (Some p); right = None },
        (fine.0, stamp),
        append_assoc (left_text left) (stamp_text first ++ (95 ∷ said s)) rest
            ∙ ap (λ l. left_text left ++ l) (append_assoc (stamp_text first) (95 ∷ said s) rest ∙ ap (λ l. stamp_text first ++ (95 ∷ l)) text ∙ sym
            (append-nil (stamp_text first ++ (95 ∷ ts_text p)))),
      ),
    )
range_ending (Right p) fine = ended (Right p) p fine refl

-- ---- each text is read

-- a choice between two equal values
same_parts : {T : Type 0} (b : Bool) (x : T) → (if b then x else x) ≡ x
same_parts true x = refl
same_parts false x = refl

-- a byte that stands in no timestamp
no_stamp : (c : ℕ) → (c == 45) ≡ false → (c == 58) ≡ false → digit_of c ≡ None → (s : TsScan) → next_ts s c ≡ None
no_stamp c sign colon digit Start = ap (λ b. if b then Some Signed else option_map (Seconds false) (digit_of c)) sign ∙ ap (option_map (Seconds false)) digit
no_stamp c sign colon digit Signed = ap (option_map (Seconds true)) digit
no_stamp c sign colon digit (Seconds n s) =
    ap (λ b. if b then Some (Colon n s) else (if nat_lt 0 s then option_map (λ d. Seconds n (10 * s + d)) (digit_of c) else None)) colon
    ∙ ap (λ o. if nat_lt 0 s then option_map (λ d. Seconds n (10 * s + d)) o else None) digit ∙ same_parts (nat_lt 0 s) None
no_stamp c sign colon digit (Colon n s) = ap (option_map _) digit
no_stamp c sign colon digit (Nanos p) =
    ap (λ o. if nat_lt 0 p.nanos && nat_lt p.nanos 100_000_000 then option_map
    (λ d. Nanos (record { negative = p.negative; seconds = p.seconds; nanos = 10 * p.nanos + d })) o else None) digit
    ∙ same_parts (nat_lt 0 p.nanos && nat_lt p.nanos 100_000_000) None

-- `_` stands in no timestamp
no_mark : (s : TsScan) → next_ts s 95 ≡ None
no_mark = no_stamp 95 refl refl refl

-- a test that cannot be true is false
pub false_unless : (b : Bool) → (b ≡ true → ⊥) → b ≡ false
false_unless false never = refl
false_unless true never = absurd (never refl)

-- a byte that a timestamp's reader takes is none that it never takes
other_byte : (k : ℕ) → ((s : TsScan) → next_ts s k ≡ None) → (s u : TsScan) (c : ℕ) → next_ts s c ≡ Some u → (c == k) ≡ false
other_byte k never s u c e =
    false_unless (c == k) (λ yes. let is = ap (next_ts s) ((Decides-eqb c k).0 yes) in let none = never s in cc)

-- a byte that begins a timestamp begins the first one
begun_takes : (left : Option Bracket) (u : TsScan) (c : ℕ) → next_ts Start c ≡ Some u → after_bracket (λ n. n) left c ≡ Some (First left u)
begun_takes left u c e =
    ap (λ b. if b then Some (Mark left None) else option_map (First left) (next_ts Start c)) (other_byte 95 no_mark Start u c e)
    ∙ ap (option_map (First left)) e

-- also where a left bracket could still stand
left_takes : (left : Option Bracket) (u : TsScan) (c : ℕ) → next_ts Start c ≡ Some u → next_range (Left left) c ≡ Some (First left u)
left_takes (Some b) u c e = ap (λ o. option_or o (option_and_then (λ p. closed p c) (range_read (Left (Some b))))) (begun_takes (Some b) u c e)
left_takes None u c e =
    let square = other_byte 91 (no_stamp 91 refl refl refl) Start u c e in
    let round = other_byte 40 (no_stamp 40 refl refl refl) Start u c e in
    let bracket : left_bracket c ≡ None = ap (λ b. if b then Some Square else (if c == 40 then Some Round else None)) square ∙ ap
    (λ b. if b then Some Round else None) round in
    let taken : longer (λ n. n) (Left None) c ≡ Some (First None u) = ap (λ o. option_or (option_map (λ b. Left (Some b)) o)
    (after_bracket (λ n. n) None c)) bracket ∙
    begun_takes None u c e in
    ap (λ o. option_or o (option_and_then (λ p. closed p c) (range_read (Left None)))) taken

-- a byte of the first timestamp is taken
first_takes : (left : Option Bracket) (s u : TsScan) (c : ℕ) → next_ts s c ≡ Some u → next_range (First left s) c ≡ Some (First left u)
first_takes left s u c e =
    let rest = option_and_then (λ p. closed p c) (range_read (First left s)) in
    ap (λ b. option_or (if b then option_map (λ p. Mark left (Some p)) (stamp_read s) else option_map (First left) (next_ts s c)) rest)
    (other_byte 95 no_mark s u c e)
    ∙ ap (λ o. option_or (option_map (First left) o) rest) e

-- a byte of the second timestamp is taken
second_takes : (left : Option Bracket) (first : Option TsParts) (s u : TsScan) (c : ℕ) → next_ts s c ≡ Some u →
    next_range (Second left first s) c ≡ Some (Second left first u)
second_takes left first s u c e =
    ap (λ o. option_or (option_map (Second left first) o) (option_and_then (λ p. closed p c) (range_read (Second left first s)))) e

-- a byte that begins a timestamp begins the second one behind `_`
mark_takes : (left : Option Bracket) (first : Option TsParts) (u : TsScan) (c : ℕ) → next_ts Start c ≡ Some u →
    next_range (Mark left first) c ≡ Some (Second left first u)
mark_takes left first u c e =
    ap (λ o. option_or (option_map (Second left first) o) (option_and_then (λ p. closed p c) (range_read (Mark left first)))) e

-- a range's reader follows a timestamp's
module _ (inside : TsScan → RangeScan) (takes : (s u : TsScan) (c : ℕ) → next_ts s c ≡ Some u → next_range (inside s) c ≡ Some (inside u)) where
  follows : (text : List ℕ) (s u : TsScan) → run next_ts s text ≡ Some u → run next_range (inside s) text ≡ Some (inside u)
  follows [] s u e = let same : s ≡ u = cc in ap (λ v. Some (inside v)) same
  follows (c ∷ cs) s u e =
      let (v, next, rest) = and_then_inv (λ v. run next_ts v cs) (next_ts s c) u e in
      ap (option_and_then (λ r. run next_range r cs)) (takes s v c next) ∙ follows cs v u rest

  enters : (scan : RangeScan) →
      ((u : TsScan) (c : ℕ) → next_ts Start c ≡ Some u → next_range scan c ≡ Some (inside u)) →
      (text : List ℕ) (p : TsParts) → run next_ts Start text ≡ Some (Nanos p) →
      run next_range scan text ≡ Some (inside (Nanos p))
  enters scan first [] p e = cc
  enters scan first (c ∷ cs) p e =
      let (v, next, rest) = and_then_inv (λ v. run next_ts v cs) (next_ts Start c) (Nanos p) e in
      ap (option_and_then (λ r. run next_range r cs)) (first v c next) ∙ follows cs v (Nanos p) rest

-- the state behind a left bracket and what follows it
abbrev state_of : Option Bracket → Middle → RangeScan
state_of left Empty = Left left
state_of left (Single at) = First left (Nanos at)
state_of left (Split first None) = Mark left first
state_of left (Split first (Some at)) = Second left first (Nanos at)

-- the state has the parts that led to it
read_state : (left : Option Bracket) (middle : Middle) →
    range_read (state_of left middle) ≡ Some (record { left = left; middle = middle; right = None })
read_state left Empty = refl
read_state left (Single at) = refl
read_state left (Split first None) = refl
read_state left (Split first (Some at)) = refl

-- a left bracket is read
run_left : (left : Option Bracket) → run next_range (Left None) (left_text left) ≡ Some (Left left)
run_left None = refl
run_left (Some Square) = refl
run_left (Some Round) = refl

-- the first timestamp is read
run_first : (left : Option Bracket) (p : TsParts) → IsStamp p → run next_range (Left left) (ts_text p) ≡ Some (First left (Nanos p))
run_first left p fine = enters (First left) (first_takes left) (Left left) (left_takes left) (ts_text p) p (ts_reads p fine)

-- the first timestamp, where there is one, and `_` are read
run_mark : (left : Option Bracket) (first : Option TsParts) → IfSome first IsStamp →
    run next_range (Left left) (stamp_text first ++ 95 ∷ []) ≡ Some (Mark left first)
run_mark None None fine = refl
run_mark (Some b) None fine = refl
run_mark left (Some p) fine = run_on next_range (Left left) (First left (Nanos p)) (ts_text p) (95 ∷ []) (run_first left p fine)

-- the second timestamp, where there is one, is read
run_second : (left : Option Bracket) (first second : Option TsParts) → IfSome second IsStamp →
    run next_range (Mark left first) (stamp_text second) ≡ Some (state_of left (Split first second))
run_second left first None fine = refl
run_second left first (Some p) fine =
    enters (Second left first) (second_takes left first) (Mark left first) (mark_takes left first) (ts_text p) p (ts_reads p fine)

-- what stands between the brackets is read
run_middle : (left : Option Bracket) (middle : Middle) → HasStamps middle →
    run next_range (Left left) (middle_text middle) ≡ Some (state_of left middle)
run_middle left Empty fine = refl
run_middle left (Single at) fine = run_first left at fine
run_middle left (Split first second) fine =
    ap (run next_range (Left left)) (sym (append_assoc (stamp_text first) (95 ∷ []) (stamp_text second)))
    ∙ run_on next_range (Left left) (Mark left first) (stamp_text first ++ 95 ∷ []) (stamp_text second) (run_mark left first fine.0)
    ∙ run_second left first second fine.1

-- a byte that begins no timestamp does not stand behind a left bracket
begun_none : (c : ℕ) → (c == 95) ≡ false → ((s : TsScan) → next_ts s c ≡ None) → (left : Option Bracket) → after_bracket (λ n. n) left c ≡ None
begun_none c mark never left =
    ap (λ b. if b then Some (Mark left None) else option_map (First left) (next_ts Start c)) mark ∙ ap (option_map (First left)) (never Start)

-- a right bracket is no part of what goes on
longer_none : (c : ℕ) → (c == 95) ≡ false → left_bracket c ≡ None → ((s : TsScan) → next_ts s c ≡ None) → (s : RangeScan) → longer (λ n. n) s c ≡ None
longer_none c mark bracket never (Left None) =
    ap (λ o. option_or (option_map (λ b. Left (Some b)) o) (after_bracket (λ n. n) None c)) bracket ∙ begun_none c mark never None
longer_none c mark bracket never (Left (Some b)) = begun_none c mark never (Some b)
longer_none c mark bracket never (First left s) =
    ap (λ b. if b then option_map (λ p. Mark left (Some p)) (stamp_read s) else option_map (First left) (next_ts s c)) mark ∙ ap (option_map (First left))
    (never s)
longer_none c mark bracket never (Mark left first) = ap (option_map (Second left first)) (never Start)
longer_none c mark bracket never (Second left first s) = ap (option_map (Second left first)) (never s)
longer_none c mark bracket never (Right p) = refl

-- a right bracket behind a whole range is taken
closes : (left : Option Bracket) (middle : Middle) (c : ℕ) (b : Bracket) → right_bracket c ≡ Some b →
    longer (λ n. n) (state_of left middle) c ≡ None →
    next_range (state_of left middle) c ≡ Some (Right (record { left = left; middle = middle; right = Some b }))
closes left middle c b is none =
    ap (λ o. option_or o (option_and_then (λ p. closed p c) (range_read (state_of left middle)))) none
    ∙ ap (option_and_then (λ p. closed p c)) (read_state left middle)
    ∙ ap (option_map (λ k. Right (record { left = left; middle = middle; right = Some k }))) is

-- the right bracket is read
run_right : (left : Option Bracket) (middle : Middle) (b : Bracket) →
    run next_range (state_of left middle) (right_text (Some b)) ≡ Some (Right (record { left = left; middle = middle; right = Some b }))
run_right left middle Square =
    ap (option_and_then (λ s. Some s)) (closes left middle 93 Square refl (longer_none 93 refl refl (no_stamp 93 refl refl refl) (state_of left middle)))
run_right left middle Round =
    ap (option_and_then (λ s. Some s)) (closes left middle 41 Round refl (longer_none 41 refl refl (no_stamp 41 refl refl refl) (state_of left middle)))

-- the left bracket, what follows it, and then the rest
run_both : (left : Option Bracket) (middle : Middle) (rest : List ℕ) → HasStamps middle →
    run next_range (Left None) (left_text left ++ (middle_text middle ++ rest)) ≡ run next_range (state_of left middle) rest
run_both left middle rest fine =
    run_on next_range (Left None) (Left left) (left_text left) (middle_text middle ++ rest) (run_left left)
    ∙ run_on next_range (Left left) (state_of left middle) (middle_text middle) rest (run_middle left middle fine)

-- the text of each list of parts is read to them
read_parts : (left : Option Bracket) (middle : Middle) (right : Option Bracket) → HasStamps middle →
    (s : RangeScan) × (run next_range (Left None) (left_text left ++ (middle_text middle ++ right_text right)) ≡ Some s) ×
    (range_read s ≡ Some (record { left = left; middle = middle; right = right }))
read_parts left middle None fine = (state_of left middle, run_both left middle [] fine, read_state left middle)
read_parts left middle (Some b) fine =
    (Right (record { left = left; middle = middle; right = Some b }), run_both left middle (right_text (Some b)) fine ∙ run_right left middle b, refl)

-- the reader reads each range's text, and ends what it has read
pub range_reader : IsReader next_range (Left None) range_read range_text HasFineStamps
range_reader = record {
  reads = λ p fine. read_parts p.left p.middle p.right fine;
  completes = λ text s e. let good = range_good text s e in subst (BeginsSome IsRange) (sym good.0) (range_ending s good.1);
}
