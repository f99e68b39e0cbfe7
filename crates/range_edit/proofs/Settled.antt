-- A text has one answer.
use Rattle.std.proofs.Common.{◌≡◌, ◌≢◌, ◌∙◌, ◌<◌, ◌≤◌, ◌+◌, ◌⊎◌, ℕ, ℤ, List, [], ◌∷◌, ◌++◌, Option, None, Result, Ok, Err, length, ap, sym, refl, inl, inr, arith}
use Rattle.std.specs.List.{AllZip}
use Rattle.csv.specs.Machine.{next_record}
use Rattle.csv.specs.Reading.{Reached, default_config}
use Rattle.csv.specs.declared.parser.State.{State}
use Rattle.time_range.specs.declared.ranges.Span.{Span}
use Rattle.time_range.specs.Spelled.{TsInIsSpelled, RangeInIsSpelled}
use Rattle.range_edit.specs.Lists.{BeginsWith, Fields, HasBad, HasBadRow, HasRecords, IsAnswer, IsListOf, IsOneAnswer, LacksFlow, LacksHead, LacksTimes, SpellsRow, head_fields, max_list}
use Rattle.range_edit.specs.declared.list.EditRow.{EditRow}
use Rattle.range_edit.specs.declared.fault.EditFault.{EditFault}
use Rattle.range_edit.specs.declared.fault.EditFault.TheVariants.{TooLong, BadRow, BadTime, NoFlow, FormatDiffers, TooFar, RowsOverlap, Occupied, NoRate, TooMany, Memory}

-- ---- rows

-- a record spells no row
abbrev NoRow : Fields → Type 0
NoRow fields = (row : EditRow) → SpellsRow fields row → ⊥

-- a record that names no flow spells no row
lacks_flow : (fields : Fields) → LacksFlow fields → NoRow fields
lacks_flow fields lacks row s =
    lacks (record { id = s.id; range = s.range; at = s.at; three = s.three; flow = row.flow; names = s.names })

-- a row of these parts
made : ℕ → Option Span → ℤ → EditRow
made flow range at = record { flow = flow; range = range; at = at }

-- rows of the same parts are one
same_row : (a b : EditRow) → a.flow ≡ b.flow → a.range ≡ b.range → a.at ≡ b.at → a ≡ b
unfolding made
same_row a b flow range at =
    ap (λ f. made f a.range a.at) flow ∙ ap (λ r. made b.flow r a.at) range ∙ ap (λ t. made b.flow b.range t) at

-- a record spells one row
one_row : TsInIsSpelled → RangeInIsSpelled → (fields : Fields) (a b : EditRow)
    → SpellsRow fields a → SpellsRow fields b → a ≡ b
one_row ts range fields a b x y =
    let id : x.id ≡ y.id = cc (x.three, y.three) in
    let second : x.range ≡ y.range = cc (x.three, y.three) in
    let third : x.at ≡ y.at = cc (x.three, y.three) in
    let range_a = (range x.range a.range).1 (x.spells_range.spelled, x.spells_range.sound) in
    let range_b = (range y.range b.range).1 (y.spells_range.spelled, y.spells_range.sound) in
    let at_a = (ts x.at a.at).1 (x.spells_at.spelled, x.spells_at.within) in
    let at_b = (ts y.at b.at).1 (y.spells_at.spelled, y.spells_at.within) in
    same_row a b (cc (x.names, y.names)) (cc (range_a, range_b)) (cc (at_a, at_b))

-- records spell one list of rows
one_rows : TsInIsSpelled → RangeInIsSpelled → (records : List Fields) (a b : List EditRow)
    → AllZip SpellsRow records a → AllZip SpellsRow records b → a ≡ b
one_rows ts range [] [] [] x y = refl
one_rows ts range [] [] (b ∷ seconds) x y = absurd y
one_rows ts range [] (a ∷ firsts) b x y = absurd x
one_rows ts range (r ∷ records) [] b x y = absurd x
one_rows ts range (r ∷ records) (a ∷ firsts) [] x y = absurd y
one_rows ts range (r ∷ records) (a ∷ firsts) (b ∷ seconds) x y =
    let first = one_row ts range r a b x.0 y.0 in
    let others = one_rows ts range records firsts seconds x.1 y.1 in cc

-- ---- records

-- a text has one list of records
same_records : (s : State) (xs : List ℕ) (a b : List Fields) (s1 s2 : State) (y1 y2 : List ℕ)
    → Reached default_config s xs a s1 y1 → next_record default_config s1 [] [] y1 ≡ None
    → Reached default_config s xs b s2 y2 → next_record default_config s2 [] [] y2 ≡ None → a ≡ b
unfolding Reached
same_records s xs [] [] s1 s2 y1 y2 a end_a b end_b = refl
same_records s xs [] (r ∷ b) s1 s2 y1 y2 (same_s, same_y) end_a (p, next, is, more) end_b =
    cc (next, rw (← same_s, ← same_y) at end_a)
same_records s xs (r ∷ a) [] s1 s2 y1 y2 (p, next, is, more) end_a (same_s, same_y) end_b =
    cc (next, rw (← same_s, ← same_y) at end_b)
same_records s xs (r ∷ a) (q ∷ b) s1 s2 y1 y2 (p, next, is, more) end_a (p2, next2, is2, more2) end_b =
    let same : p2 ≡ p = cc (next, next2) in
    let others = same_records p.1 p.2 a b s1 s2 y1 y2 more end_a (rw same at more2) end_b in
    let first : r ≡ q = is ∙ ap (λ t. t.0) (sym same) ∙ sym is2 in cc

-- the first records of a text are one list up to the first that spells no row
same_bad : (s : State) (xs : List ℕ) (a b : List Fields) (rows_a rows_b : List EditRow)
    (f g : Fields) (s1 s2 : State) (y1 y2 : List ℕ)
    → Reached default_config s xs (a ++ f ∷ []) s1 y1 → Reached default_config s xs (b ++ g ∷ []) s2 y2
    → AllZip SpellsRow a rows_a → AllZip SpellsRow b rows_b → NoRow f → NoRow g → (a ≡ b) × (f ≡ g)
unfolding Reached
same_bad s xs [] [] rows_a rows_b f g s1 s2 y1 y2 (p, next, is, more) (p2, next2, is2, more2) all_a all_b no_f no_g =
    let same : p2 ≡ p = cc (next, next2) in (refl, is ∙ ap (λ t. t.0) (sym same) ∙ sym is2)
same_bad s xs [] (q ∷ b) rows_a [] f g s1 s2 y1 y2 one two all_a all_b no_f no_g = absurd all_b
same_bad s xs [] (q ∷ b) rows_a (x ∷ rows_b) f g s1 s2 y1 y2 (p, next, is, more) (p2, next2, is2, more2) all_a all_b no_f no_g =
    let same : p2 ≡ p = cc (next, next2) in
    let first : q ≡ f = is2 ∙ ap (λ t. t.0) same ∙ sym is in absurd (no_f x (rw first at all_b.0))
same_bad s xs (r ∷ a) [] [] rows_b f g s1 s2 y1 y2 one two all_a all_b no_f no_g = absurd all_a
same_bad s xs (r ∷ a) [] (x ∷ rows_a) rows_b f g s1 s2 y1 y2 (p, next, is, more) (p2, next2, is2, more2) all_a all_b no_f no_g =
    let same : p2 ≡ p = cc (next, next2) in
    let first : r ≡ g = is ∙ ap (λ t. t.0) (sym same) ∙ sym is2 in absurd (no_g x (rw first at all_a.0))
same_bad s xs (r ∷ a) (q ∷ b) [] rows_b f g s1 s2 y1 y2 one two all_a all_b no_f no_g = absurd all_a
same_bad s xs (r ∷ a) (q ∷ b) (x ∷ rows_a) [] f g s1 s2 y1 y2 one two all_a all_b no_f no_g = absurd all_b
same_bad s xs (r ∷ a) (q ∷ b) (x ∷ rows_a) (z ∷ rows_b) f g s1 s2 y1 y2 (p, next, is, more) (p2, next2, is2, more2) all_a all_b no_f no_g =
    let same : p2 ≡ p = cc (next, next2) in
    let others = same_bad p.1 p.2 a b rows_a rows_b f g s1 s2 y1 y2 more (rw same at more2) all_a.1 all_b.1 no_f no_g in
    let first : r ≡ q = is ∙ ap (λ t. t.0) (sym same) ∙ sym is2 in
    let rest = others.0 in (cc, others.1)

-- a text all of whose records spell rows has none that doesn't
all_good : (s : State) (xs : List ℕ) (a b : List Fields) (rows_a rows_b : List EditRow)
    (g : Fields) (s1 s2 : State) (y1 y2 : List ℕ)
    → Reached default_config s xs a s1 y1 → next_record default_config s1 [] [] y1 ≡ None
    → Reached default_config s xs (b ++ g ∷ []) s2 y2
    → AllZip SpellsRow a rows_a → AllZip SpellsRow b rows_b → NoRow g → ⊥
unfolding Reached
all_good s xs [] [] rows_a rows_b g s1 s2 y1 y2 (same_s, same_y) end (p, next, is, more) all_a all_b no_g =
    cc (next, rw (← same_s, ← same_y) at end)
all_good s xs [] (q ∷ b) rows_a rows_b g s1 s2 y1 y2 (same_s, same_y) end (p, next, is, more) all_a all_b no_g =
    cc (next, rw (← same_s, ← same_y) at end)
all_good s xs (r ∷ a) [] [] rows_b g s1 s2 y1 y2 one end two all_a all_b no_g = all_a
all_good s xs (r ∷ a) [] (x ∷ rows_a) rows_b g s1 s2 y1 y2 (p, next, is, more) end (p2, next2, is2, more2) all_a all_b no_g =
    let same : p2 ≡ p = cc (next, next2) in
    let first : r ≡ g = is ∙ ap (λ t. t.0) (sym same) ∙ sym is2 in no_g x (rw first at all_a.0)
all_good s xs (r ∷ a) (q ∷ b) [] rows_b g s1 s2 y1 y2 one end two all_a all_b no_g = all_a
all_good s xs (r ∷ a) (q ∷ b) (x ∷ rows_a) [] g s1 s2 y1 y2 one end two all_a all_b no_g = all_b
all_good s xs (r ∷ a) (q ∷ b) (x ∷ rows_a) (z ∷ rows_b) g s1 s2 y1 y2 (p, next, is, more) end (p2, next2, is2, more2) all_a all_b no_g =
    let same : p2 ≡ p = cc (next, next2) in
    all_good p.1 p.2 a b rows_a rows_b g s1 s2 y1 y2 more end (rw same at more2) all_a.1 all_b.1 no_g

-- a text that doesn't begin with the head has no record behind it
no_head : (text : List ℕ) (records : List Fields) → LacksHead text → BeginsWith text (head_fields ∷ records) → ⊥
unfolding Reached
no_head text records (inl (s1, y1, (same_s, same_y), end)) (s2, y2, (p, next, is, more)) =
    cc (next, rw (← same_s, ← same_y) at end)
no_head text records (inr (fields, (s1, y1, (p, next, is, more)), other)) (s2, y2, (p2, next2, is2, more2)) =
    let same : p2 ≡ p = cc (next, next2) in
    other (is ∙ ap (λ t. t.0) (sym same) ∙ sym is2)

-- ---- answers

-- all records of a text are its first ones
begins_all : (text : List ℕ) (records : List Fields) → HasRecords text records → BeginsWith text records
begins_all text records (s1, y1, reached, end) = (s1, y1, reached)

-- a list has one list of rows
same_list : TsInIsSpelled → RangeInIsSpelled → (text : List ℕ) (a b : List EditRow)
    → IsListOf text a → IsListOf text b → a ≡ b
same_list ts range text a b x y =
    let (s1, y1, reached_a, end_a) = x.all in
    let (s2, y2, reached_b, end_b) = y.all in
    let same = same_records _ _ _ _ s1 s2 y1 y2 reached_a end_a reached_b end_b in
    let records : x.records ≡ y.records = cc same in
    one_rows ts range y.records a b (rw records at x.spelled) y.spelled

-- a list has no bad record
list_or_bad : (IsBad : Fields → Type 0) → ((fields : Fields) → IsBad fields → NoRow fields)
    → (text : List ℕ) (rows : List EditRow) (n : ℕ) → IsListOf text rows → HasBad IsBad text n → ⊥
unfolding Reached
list_or_bad IsBad no_row text rows n x y =
    let (s1, y1, (p, next, is, more), end) = x.all in
    let (s2, y2, (p2, next2, is2, more2)) = y.begins in
    let same : p2 ≡ p = cc (next, next2) in
    all_good p.1 p.2 x.records y.records rows y.rows y.bad s1 s2 y1 y2 more end (rw same at more2) x.spelled y.spelled
    (no_row y.bad y.is_bad)

-- a text has one first bad record
same_place : (IsBad IsWrong : Fields → Type 0) → ((fields : Fields) → IsBad fields → NoRow fields)
    → ((fields : Fields) → IsWrong fields → NoRow fields)
    → (text : List ℕ) (n m : ℕ) (x : HasBad IsBad text n) (y : HasBad IsWrong text m)
    → (n ≡ m) × (x.bad ≡ y.bad)
unfolding Reached
same_place IsBad IsWrong no_row none text n m x y =
    let (s1, y1, (p, next, is, more)) = x.begins in
    let (s2, y2, (p2, next2, is2, more2)) = y.begins in
    let same : p2 ≡ p = cc (next, next2) in
    let both = same_bad p.1 p.2 x.records y.records x.rows y.rows x.bad y.bad s1 s2 y1 y2 more (rw same at more2) x.spelled y.spelled
    (no_row x.bad x.is_bad) (none y.bad y.is_bad) in
    (x.place ∙ ap (λ records. length records + 2) both.0 ∙ sym y.place, both.1)

-- a record without times spells no row
lacks_times : (fields : Fields) → LacksTimes fields → NoRow fields
lacks_times fields lacks = lacks.no_row

-- a list has no bad row
list_or_row : (text : List ℕ) (rows : List EditRow) (n : ℕ) → IsListOf text rows → HasBadRow text n → ⊥
list_or_row text rows n x (inl (one, lacks)) = no_head text _ lacks (begins_all _ _ x.all)
list_or_row text rows n x (inr bad) = list_or_bad LacksFlow lacks_flow text rows n x bad

-- the first bad row stands at one place
same_bad_row : (text : List ℕ) (n m : ℕ) → HasBadRow text n → HasBadRow text m → n ≡ m
same_bad_row text n m (inl (one, lacks)) (inl (first, none)) = one ∙ sym first
same_bad_row text n m (inl (one, lacks)) (inr bad) = absurd (no_head text _ lacks bad.begins)
same_bad_row text n m (inr bad) (inl (one, lacks)) = absurd (no_head text _ lacks bad.begins)
same_bad_row text n m (inr x) (inr y) = (same_place LacksFlow LacksFlow lacks_flow lacks_flow text n m x y).0

-- the first bad record names a flow, or doesn't
row_or_time : (text : List ℕ) (n m : ℕ) → HasBadRow text n → HasBad LacksTimes text m → ⊥
row_or_time text n m (inl (one, lacks)) y = no_head text _ lacks y.begins
row_or_time text n m (inr x) y =
    let same = (same_place LacksFlow LacksTimes lacks_flow lacks_times text n m x y).1 in
    x.is_bad (rw (← same) at y.is_bad.names)

-- an answer is one of four, with what stands
abbrev Outcome : List ℕ → Result (List EditRow) EditFault → Type 0
Outcome text answer =
    ((rows : List EditRow) × (answer ≡ Ok rows) × IsListOf text rows)
    ⊎ ((answer ≡ Err TooLong) × (max_list < length text))
    ⊎ ((n : ℕ) × (answer ≡ Err (BadRow n)) × (length text ≤ max_list) × HasBadRow text n)
    ⊎ ((n : ℕ) × (answer ≡ Err (BadTime n)) × (length text ≤ max_list) × HasBad LacksTimes text n)

-- an answer but for want of memory has an outcome
outcome : (text : List ℕ) (answer : Result (List EditRow) EditFault)
    → IsAnswer text answer → answer ≢ Err Memory → Outcome text answer
outcome text (Ok rows) is known = inl (rows, refl, is)
outcome text (Err TooLong) is known = inr (inl (refl, is))
outcome text (Err (BadRow n)) is known = inr (inr (inl (n, refl, is.0, is.1)))
outcome text (Err (BadTime n)) is known = inr (inr (inr (n, refl, is.0, is.1)))
outcome text (Err Memory) is known = absurd (known refl)
outcome text (Err (NoFlow n)) is known = absurd is
outcome text (Err (FormatDiffers n)) is known = absurd is
outcome text (Err (TooFar n)) is known = absurd is
outcome text (Err (RowsOverlap n)) is known = absurd is
outcome text (Err (Occupied n)) is known = absurd is
outcome text (Err (NoRate n)) is known = absurd is
outcome text (Err TooMany) is known = absurd is

-- two outcomes are one
one_outcome : TsInIsSpelled → RangeInIsSpelled → (text : List ℕ) (a b : Result (List EditRow) EditFault)
    → Outcome text a → Outcome text b → a ≡ b
one_outcome ts range text a b (inl (x, is, list)) (inl (y, same, other)) =
    is ∙ ap Ok (same_list ts range text x y list other) ∙ sym same
one_outcome ts range text a b (inl (x, is, list)) (inr (inl (same, long))) =
    absurd (omega (arith, list.short))
one_outcome ts range text a b (inl (x, is, list)) (inr (inr (inl (n, same, short, bad)))) =
    absurd (list_or_row text x n list bad)
one_outcome ts range text a b (inl (x, is, list)) (inr (inr (inr (n, same, short, bad)))) =
    absurd (list_or_bad LacksTimes lacks_times text x n list bad)
one_outcome ts range text a b (inr (inl (is, long))) (inl (y, same, other)) =
    absurd (omega (arith, other.short))
one_outcome ts range text a b (inr (inl (is, long))) (inr (inl (same, longer))) = is ∙ sym same
one_outcome ts range text a b (inr (inl (is, long))) (inr (inr (inl (n, same, short, bad)))) =
    absurd (omega arith)
one_outcome ts range text a b (inr (inl (is, long))) (inr (inr (inr (n, same, short, bad)))) =
    absurd (omega arith)
one_outcome ts range text a b (inr (inr (inl (n, is, short, bad)))) (inl (y, same, other)) =
    absurd (list_or_row text y n other bad)
one_outcome ts range text a b (inr (inr (inl (n, is, short, bad)))) (inr (inl (same, long))) =
    absurd (omega arith)
one_outcome ts range text a b (inr (inr (inl (n, is, short, bad)))) (inr (inr (inl (m, same, few, wrong)))) =
    is ∙ ap (λ k. Err (BadRow k)) (same_bad_row text n m bad wrong) ∙ sym same
one_outcome ts range text a b (inr (inr (inl (n, is, short, bad)))) (inr (inr (inr (m, same, few, wrong)))) =
    absurd (row_or_time text n m bad wrong)
one_outcome ts range text a b (inr (inr (inr (n, is, short, bad)))) (inl (y, same, other)) =
    absurd (list_or_bad LacksTimes lacks_times text y n other bad)
one_outcome ts range text a b (inr (inr (inr (n, is, short, bad)))) (inr (inl (same, long))) =
    absurd (omega arith)
one_outcome ts range text a b (inr (inr (inr (n, is, short, bad)))) (inr (inr (inl (m, same, few, wrong)))) =
    absurd (row_or_time text m n wrong bad)
one_outcome ts range text a b (inr (inr (inr (n, is, short, bad)))) (inr (inr (inr (m, same, few, wrong)))) =
    is ∙ ap (λ k. Err (BadTime k)) (same_place LacksTimes LacksTimes lacks_times lacks_times text n m bad wrong).0 ∙ sym same

-- a text has one answer, but for want of memory
pub one_answer : TsInIsSpelled → RangeInIsSpelled → IsOneAnswer
one_answer ts range text a b x y known sure =
    one_outcome ts range text a b (outcome text a x known) (outcome text b y sure)
