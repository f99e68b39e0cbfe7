-- A list is cut in one way, or has one fault.
use Rattle.std.proofs.Common.{◌≡◌, ◌≢◌, ◌∙◌, inl, inr, ℕ, List, [], ◌∷◌, refl, sym, ap, subst, arith, Ok, Err}
use Rattle.std.specs.List.{AllZip}
use Rattle.media_rows.specs.Library.{Library}
use Rattle.media_rows.specs.declared.segment.PostList.{PostList}
use Rattle.media_rows.specs.declared.segment.Segment.{Segment}
use Rattle.segment_pieces.specs.Laws.{IsOnePiece}
use Rattle.range_edit.specs.Assembling.{EachIsTaken, FirstRefused, IsCutFor, IsCuttingFault, IsOneCut, IsPieceOf, RowFault, RowsFault, Taking, Where, number_behind}
use Rattle.range_edit.specs.declared.fault.EditFault.{EditFault}
use Rattle.range_edit.specs.declared.fault.EditFault.TheVariants.{Memory}
use Rattle.range_edit.specs.declared.list.EditRow.{EditRow}
use Rattle.range_edit.proofs.CutLemmas.{two_ways}

-- ---- faults

-- at most one fault is so
abbrev IsOneFault : (EditFault → Type 0) → Type 0
IsOneFault IsSo = (a b : EditFault) → IsSo a → IsSo b → a ≡ b

-- a fault that comes first is one, where the later ones are
one_where : (Stands : Type 0) (this : EditFault) (Later : EditFault → Type 0) → IsOneFault Later
    → IsOneFault (Where Stands this Later)
one_where Stands this Later later a b (inl (stands, is)) (inl (there, so)) = is ∙ sym so
one_where Stands this Later later a b (inl (stands, is)) (inr (not, why)) = absurd (not stands)
one_where Stands this Later later a b (inr (not, why)) (inl (stands, is)) = absurd (not stands)
one_where Stands this Later later a b (inr (not, why)) (inr (nor, so)) = later a b why so

-- a row has one fault
one_of_row : (library : Library) (target : ℕ) (before : List EditRow) (row : EditRow) (n : ℕ)
    → IsOneFault (RowFault library target before row n)
one_of_row library target before row n =
    one_where _ _ _ (one_where _ _ _ (one_where _ _ _ (one_where _ _ _ (one_where _ _ _
    (one_where _ _ _ (one_where _ _ _ (λ a b none so. absurd none)))))))

-- where each row is taken none is refused
none_refused : (library : Library) (target : ℕ) (rows : List EditRow) (fault : EditFault)
    → EachIsTaken library target rows → ¬ (FirstRefused library target rows fault)
none_refused library target rows fault taken first =
    taken first.before first.row first.behind first.split fault first.refused

-- the first row that is refused is one, and so is its fault
one_first : (library : Library) (target : ℕ) (rows : List EditRow)
    → IsOneFault (FirstRefused library target rows)
one_first library target rows a b one two =
    elim (two_ways one.before one.row one.behind two.before two.row two.behind
    (sym one.split ∙ two.split)) [
      | inl same ↦ one_of_row library target two.before two.row (number_behind two.before) a b
          (subst (λ (x : EditRow). RowFault library target two.before x
          (number_behind two.before) a)
          same.1 (subst (λ (l : List EditRow). RowFault library target l one.row
          (number_behind l) a)
          same.0 one.refused)) two.refused
      | inr (inl more) ↦ absurd (two.taken one.before one.row more.0 more.1 a one.refused)
      | inr (inr more) ↦ absurd (one.taken two.before two.row more.0 more.1 b two.refused)
    ]

-- rows have one fault
one_of_rows : (library : Library) (target : ℕ) (rows : List EditRow)
    → IsOneFault (RowsFault library target rows)
one_of_rows library target rows a b (inl one) (inl two) = one_first library target rows a b one two
one_of_rows library target rows a b (inl one) (inr two) =
    absurd (none_refused library target rows a two.taken one)
one_of_rows library target rows a b (inr one) (inl two) =
    absurd (none_refused library target rows b one.taken two)
one_of_rows library target rows a b (inr one) (inr two) = one.is ∙ sym two.is

-- ---- pieces

-- takings have one list of pieces
one_list : IsOnePiece → (takings : List Taking) (xs ys : List Segment)
    → AllZip IsPieceOf takings xs → AllZip IsPieceOf takings ys → xs ≡ ys
one_list piece [] [] [] one two = refl
one_list piece [] [] (y ∷ ys) one two = absurd two
one_list piece [] (x ∷ xs) ys one two = absurd one
one_list piece (t ∷ takings) [] ys one two = absurd one
one_list piece (t ∷ takings) (x ∷ xs) [] one two = absurd two
one_list piece (t ∷ takings) (x ∷ xs) (y ∷ ys) one two =
    let head = piece t.clip t.segment x y one.0 two.0 in
    let tail = one_list piece takings xs ys one.1 two.1 in
    cc

-- a list that is cut has no fault
none_of_cut : (library : Library) (target : ℕ) (rows : List EditRow) (posts : PostList)
    (fault : EditFault) → IsCutFor library target rows posts
    → IsCuttingFault library target rows fault → fault ≡ Memory
none_of_cut library target rows posts fault cut (inl (inl (unkept, is))) = absurd (cut.kept unkept)
none_of_cut library target rows posts fault cut (inl (inr (kept, inl first))) =
    absurd (none_refused library target rows fault cut.taken first)
none_of_cut library target rows posts fault cut (inl (inr (kept, inr many))) =
    absurd (let few = cut.few in let more = many.many in omega arith)
none_of_cut library target rows posts fault cut (inr memory) = memory

-- two faults of which neither is want of memory are one
one_fault : (library : Library) (target : ℕ) (rows : List EditRow) (a b : EditFault)
    → IsCuttingFault library target rows a → IsCuttingFault library target rows b
    → a ≢ Memory → b ≢ Memory → a ≡ b
one_fault library target rows a b (inr memory) two c d = absurd (c memory)
one_fault library target rows a b (inl one) (inr memory) c d = absurd (d memory)
one_fault library target rows a b (inl one) (inl two) c d =
    one_where _ _ _ (one_of_rows library target rows) a b one two

-- two posts of the same pieces as a list
one_post : (a b : PostList) → a.single ≡ b.single → a.segments ≡ b.segments → a ≡ b
one_post a b single segments =
    ap (λ s. let p : PostList = record { single = s; segments = a.segments } in p) single
    ∙ ap (λ l. let p : PostList = record { single = b.single; segments = l } in p) segments

-- and so two answers of which neither is want of memory are one
pub one_cut : IsOnePiece → IsOneCut
one_cut piece library target rows (Ok a) (Ok b) one two c d =
    ap Ok (one_post a b (one.list ∙ sym two.list)
    (one_list piece _ a.segments b.segments one.pieces two.pieces))
one_cut piece library target rows (Ok a) (Err b) one two c d =
    absurd (d (ap Err (none_of_cut library target rows a b one two)))
one_cut piece library target rows (Err a) (Ok b) one two c d =
    absurd (c (ap Err (none_of_cut library target rows b a two one)))
one_cut piece library target rows (Err a) (Err b) one two c d =
    ap Err (one_fault library target rows a b one two (λ e. c (ap Err e)) (λ e. d (ap Err e)))
