-- A look at bytes finds the end of a head exactly behind the lines of one, and so it is of a trailer, of a line, and of
-- what a chunk's line names.
use Rattle.std.proofs.Common.{◌≡◌, ◌≤◌, ◌+◌, ◌==◌, inl, inr, ℕ, zero, suc, Bool, true, false, true≢false, List, [], ◌∷◌, ◌++◌, length, take, drop, Option, Some, None, refl, sym, ap, subst, ◌∙◌, arith, append_assoc, length-append, length-take-le, take-append-drop}
use Rattle.std.specs.Prelude.{if◌then◌else◌}
use Rattle.std.specs.List.{flat_map}
use Rattle.std.proofs.lemmas.Bool.{eq-eqb, eqb-true, ne_eqb}
use Rattle.http_wire.specs.HeadLines.{AreFilledLines, AreHeadLines, ChunkLinesNameSizes, HasNoFeed, HeadsEndAtEmptyLines, IsEmptyLine, IsFilledLine, IsHeadText, IsLineText, LinesEndAtFeeds, TrailersEndAtEmptyLines, line_text}
use Rattle.http_wire.specs.Lines.{behind_byte, further, line_end, looked, next_place, one_on}
use Rattle.http_wire.specs.declared.lines.LinePlace.{LinePlace}
use Rattle.http_wire.specs.declared.lines.LinePlace.TheVariants.{After, AfterReturn, Before, BeforeReturn, Within}
use Rattle.http_wire.specs.declared.lines.Looked.{Looked}
use Rattle.http_wire.specs.declared.lines.Looked.TheVariants.{Ended, Still}
use Rattle.http_wire.proofs.ChunkLine.{line_size_read, line_size_reads}
use Rattle.http_wire.proofs.Ends.{line_end-append_some, looked-append_ended, looked-append_still, looked_inside, on_by}

apart : (x n : ℕ) → (x == n) ≡ false → x ≡ n → ⊥
apart x n no_one e = true≢false (sym (eq-eqb x n e) ∙ no_one)

-- ---- what has to stand behind a place, up to the end of the head

abbrev EndsFilled : List ℕ → Type 0
EndsFilled text = (lines : List (List ℕ)) × AreFilledLines lines × (text ≡ flat_map line_text lines)

abbrev EndsLine : List ℕ → Type 0
EndsLine text = (content : List ℕ) × (rest : List ℕ) × HasNoFeed content × EndsFilled rest × (text ≡ content ++ 10 ∷ rest)

abbrev Rest : LinePlace → List ℕ → Type 0
Rest Before text = IsHeadText text
Rest BeforeReturn text = IsHeadText (13 ∷ text)
Rest Within text = EndsLine text
Rest After text = EndsFilled text
Rest AfterReturn text = EndsFilled (13 ∷ text)

-- one line more
lines_text : (content rest : List ℕ) (lines : List (List ℕ)) → rest ≡ flat_map line_text lines
    → content ++ 10 ∷ rest ≡ flat_map line_text (content ∷ lines)
lines_text content rest lines e = ap (λ t. content ++ 10 ∷ t) e ∙ sym (append_assoc content (10 ∷ []) (flat_map line_text lines))

empty_first : (content rest : List ℕ) → IsEmptyLine content → IsHeadText rest → IsHeadText (content ++ 10 ∷ rest)
empty_first content rest empty h = (content ∷ h.0, inl (empty, h.1), lines_text content rest h.0 h.2)

filled_first : (content rest : List ℕ) → IsFilledLine content → EndsFilled rest → IsHeadText (content ++ 10 ∷ rest)
filled_first content rest filled h = (content ∷ h.0, inr (filled, h.1), lines_text content rest h.0 h.2)

filled_next : (content rest : List ℕ) → IsFilledLine content → EndsFilled rest → EndsFilled (content ++ 10 ∷ rest)
filled_next content rest filled h = (content ∷ h.0, inr (filled, h.1), lines_text content rest h.0 h.2)

-- a line that begins so isn't empty
filled_by : (x : ℕ) (content : List ℕ) → (x ≡ 10 → ⊥) → (x ≡ 13 → ⊥) → HasNoFeed content → IsFilledLine (x ∷ content)
filled_by x content feed cr free = ((feed, free), λ empty. elim empty [ inl e ↦ none e | inr e ↦ cr (same_byte e) ])
  where
    none : x ∷ content ≡ [] → ⊥
    none e = cc

    same_byte : x ∷ content ≡ 13 ∷ [] → x ≡ 13
    same_byte e = cc

filled_behind : (x : ℕ) (content : List ℕ) → (x ≡ 10 → ⊥) → HasNoFeed content → IsFilledLine (13 ∷ x ∷ content)
filled_behind x content feed free = ((far 13 refl, (feed, free)), λ empty. elim empty [ inl e ↦ none e | inr e ↦ longer e ])
  where
    far : (n : ℕ) → n ≡ 13 → n ≡ 10 → ⊥
    far n cr e = absurd (omega arith)

    none : 13 ∷ x ∷ content ≡ [] → ⊥
    none e = cc

    longer : 13 ∷ x ∷ content ≡ 13 ∷ [] → ⊥
    longer e = cc

moved : (place next : LinePlace) (text : List ℕ) → Some place ≡ Some next → Rest next text → Rest place text
moved place next text e h = subst (λ (p : LinePlace). Rest p text) (sym (some_same place next e)) h
  where
    some_same : (p q : LinePlace) → Some p ≡ Some q → p ≡ q
    some_same p q e = cc

-- ---- a byte more

before_step : (x : ℕ) (text : List ℕ) (next : LinePlace) (feed cr : Bool) → (x == 10) ≡ feed → (x == 13) ≡ cr
    → (if feed then Some Before else if cr then Some BeforeReturn else Some Within) ≡ Some next → Rest next text → IsHeadText (x ∷ text)
before_step x text next true cr is is_cr e h =
    rw (eqb-true x 10 is) (empty_first [] text (inl refl) (moved Before next text e h))
before_step x text next false true is is_cr e h = rw (eqb-true x 13 is_cr) (moved BeforeReturn next text e h)
before_step x text next false false is is_cr e h =
    let line = moved Within next text e h in
    rw line.4 (filled_first (x ∷ line.0) line.1 (filled_by x line.0 (apart x 10 is) (apart x 13 is_cr) line.2) line.3)

return_step : (x : ℕ) (text : List ℕ) (next : LinePlace) (feed : Bool) → (x == 10) ≡ feed
    → (if feed then Some Before else Some Within) ≡ Some next → Rest next text → IsHeadText (13 ∷ x ∷ text)
return_step x text next true is e h = rw (eqb-true x 10 is) (empty_first (13 ∷ []) text (inr refl) (moved Before next text e h))
return_step x text next false is e h =
    let line = moved Within next text e h in
    rw line.4 (filled_first (13 ∷ x ∷ line.0) line.1 (filled_behind x line.0 (apart x 10 is) line.2) line.3)

within_step : (x : ℕ) (text : List ℕ) (next : LinePlace) (feed : Bool) → (x == 10) ≡ feed
    → (if feed then Some After else Some Within) ≡ Some next → Rest next text → EndsLine (x ∷ text)
within_step x text next true is e h = rw (eqb-true x 10 is) ([], text, tt, moved After next text e h, refl)
within_step x text next false is e h =
    let line = moved Within next text e h in
    (x ∷ line.0, line.1, (apart x 10 is, line.2), line.3, ap (λ t. x ∷ t) line.4)

after_step : (x : ℕ) (text : List ℕ) (next : LinePlace) (feed cr : Bool) → (x == 10) ≡ feed → (x == 13) ≡ cr
    → (if feed then None else if cr then Some AfterReturn else Some Within) ≡ Some next → Rest next text → EndsFilled (x ∷ text)
after_step x text next true cr is is_cr e h = cc
after_step x text next false true is is_cr e h = rw (eqb-true x 13 is_cr) (moved AfterReturn next text e h)
after_step x text next false false is is_cr e h =
    let line = moved Within next text e h in
    rw line.4 (filled_next (x ∷ line.0) line.1 (filled_by x line.0 (apart x 10 is) (apart x 13 is_cr) line.2) line.3)

after_return_step : (x : ℕ) (text : List ℕ) (next : LinePlace) (feed : Bool) → (x == 10) ≡ feed
    → (if feed then None else Some Within) ≡ Some next → Rest next text → EndsFilled (13 ∷ x ∷ text)
after_return_step x text next true is e h = cc
after_return_step x text next false is e h =
    let line = moved Within next text e h in
    rw line.4 (filled_next (13 ∷ x ∷ line.0) line.1 (filled_behind x line.0 (apart x 10 is) line.2) line.3)

rest_step : (place : LinePlace) (x : ℕ) (text : List ℕ) (next : LinePlace) → next_place place x ≡ Some next → Rest next text → Rest place (x ∷ text)
rest_step Before x text next e h = before_step x text next (x == 10) (x == 13) refl refl e h
rest_step BeforeReturn x text next e h = return_step x text next (x == 10) refl e h
rest_step Within x text next e h = within_step x text next (x == 10) refl e h
rest_step After x text next e h = after_step x text next (x == 10) (x == 13) refl refl e h
rest_step AfterReturn x text next e h = after_return_step x text next (x == 10) refl e h

-- the byte that ends the head
last_line : (content : List ℕ) → IsEmptyLine content → EndsFilled (content ++ 10 ∷ [])
last_line content empty = (content ∷ [], inl (empty, refl), lines_text content [] [] refl)

before_goes_on : (feed cr : Bool) → (if feed then Some Before else if cr then Some BeforeReturn else Some Within) ≡ None → ⊥
before_goes_on true cr e = cc
before_goes_on false true e = cc
before_goes_on false false e = cc

goes_on : (feed : Bool) (one other : LinePlace) → (if feed then Some one else Some other) ≡ None → ⊥
goes_on true one other e = cc
goes_on false one other e = cc

after_ends : (x : ℕ) (feed cr : Bool) → (x == 10) ≡ feed → (if feed then None else if cr then Some AfterReturn else Some Within) ≡ None → x ≡ 10
after_ends x true cr is e = eqb-true x 10 is
after_ends x false true is e = cc
after_ends x false false is e = cc

after_return_ends : (x : ℕ) (feed : Bool) → (x == 10) ≡ feed → (if feed then None else Some Within) ≡ None → x ≡ 10
after_return_ends x true is e = eqb-true x 10 is
after_return_ends x false is e = cc

rest_end : (place : LinePlace) (x : ℕ) → next_place place x ≡ None → Rest place (x ∷ [])
rest_end Before x e = absurd (before_goes_on (x == 10) (x == 13) e)
rest_end BeforeReturn x e = absurd (goes_on (x == 10) Before Within e)
rest_end Within x e = absurd (goes_on (x == 10) After Within e)
rest_end After x e = rw (after_ends x (x == 10) (x == 13) refl e) (last_line [] (inl refl))
rest_end AfterReturn x e = rw (after_return_ends x (x == 10) refl e) (last_line (13 ∷ []) (inr refl))

one_end : (found : Looked) (n : ℕ) → one_on found ≡ Ended n → (m : ℕ) × (found ≡ Ended m) × (n ≡ suc m)
one_end (Ended m) n e = let same : m + 1 ≡ n = cc in (m, refl, omega arith)
one_end (Still place) n e = cc

found_rest : (place : LinePlace) (xs : List ℕ) (n : ℕ) → looked place xs ≡ Ended n → Rest place (take n xs)
found_rest place [] n e = cc
found_rest place (x ∷ xs) n e = by (next_place place x) refl e (λ next m. found_rest next xs m)
  where
    by : (o : Option LinePlace) → next_place place x ≡ o → behind_byte o (λ q. looked q xs) ≡ Ended n
        → ((next : LinePlace) (m : ℕ) → looked next xs ≡ Ended m → Rest next (take m xs)) → Rest place (take n (x ∷ xs))
    by None o e' later = let one : n ≡ suc zero = (let same : 1 ≡ n = cc in omega arith) in rw one (rest_end place x o)
    by (Some next) o e' later =
        let found = one_end (looked next xs) n e' in
        rw found.2 (rest_step place x (take found.0 xs) next o (later next found.0 found.1))

-- ---- the lines of a head are found

within_line : (content : List ℕ) → HasNoFeed content → looked Within (content ++ 10 ∷ []) ≡ Still After
within_line [] free = refl
within_line (x ∷ content) free =
    let feed : (x == 10) ≡ false = ne_eqb x 10 free.0 in
    rw (feed, within_line content free.1) refl

return_line : (content : List ℕ) → HasNoFeed content → (content ≡ [] → ⊥) → looked BeforeReturn (content ++ 10 ∷ []) ≡ Still After
return_line [] free some = absurd (some refl)
return_line (x ∷ content) free some =
    let feed : (x == 10) ≡ false = ne_eqb x 10 free.0 in
    rw (feed, within_line content free.1) refl

after_return_line : (content : List ℕ) → HasNoFeed content → (content ≡ [] → ⊥) → looked AfterReturn (content ++ 10 ∷ []) ≡ Still After
after_return_line [] free some = absurd (some refl)
after_return_line (x ∷ content) free some =
    let feed : (x == 10) ≡ false = ne_eqb x 10 free.0 in
    rw (feed, within_line content free.1) refl

before_line : (content : List ℕ) → IsFilledLine content → looked Before (content ++ 10 ∷ []) ≡ Still After
before_line [] filled = absurd (filled.1 (inl refl))
before_line (x ∷ content) filled = by (x == 13) refl
  where
    feed : (x == 10) ≡ false
    feed = ne_eqb x 10 filled.0.0

    by : (cr : Bool) → (x == 13) ≡ cr → looked Before (x ∷ content ++ 10 ∷ []) ≡ Still After
    by true is = rw (feed, is, return_line content filled.0.1 (λ none. filled.1 (inr (rw (none, eqb-true x 13 is) refl)))) refl
    by false is = rw (feed, is, within_line content filled.0.1) refl

after_line : (content : List ℕ) → IsFilledLine content → looked After (content ++ 10 ∷ []) ≡ Still After
after_line [] filled = absurd (filled.1 (inl refl))
after_line (x ∷ content) filled = by (x == 13) refl
  where
    feed : (x == 10) ≡ false
    feed = ne_eqb x 10 filled.0.0

    by : (cr : Bool) → (x == 13) ≡ cr → looked After (x ∷ content ++ 10 ∷ []) ≡ Still After
    by true is = rw (feed, is, after_return_line content filled.0.1 (λ none. filled.1 (inr (rw (none, eqb-true x 13 is) refl)))) refl
    by false is = rw (feed, is, within_line content filled.0.1) refl

-- a line, and then the rest to its end
line_on : (place next : LinePlace) (line rest : List ℕ) → looked place line ≡ Still next → looked next rest ≡ Ended (length rest)
    → looked place (line ++ rest) ≡ Ended (length (line ++ rest))
line_on place next line rest still e =
    looked-append_still place line rest next still ∙ ap (on_by (length line)) e ∙ ap (λ n. Ended n) (sym (length-append line rest))

filled_end : (lines : List (List ℕ)) → AreFilledLines lines → looked After (flat_map line_text lines) ≡ Ended (length (flat_map line_text lines))
filled_end [] h = absurd h
filled_end (content ∷ lines) (inl last) = rw last.1 (elim last.0 [ inl e ↦ rw e refl | inr e ↦ rw e refl ])
filled_end (content ∷ lines) (inr more) =
    line_on After After (line_text content) (flat_map line_text lines) (after_line content more.0) (filled_end lines more.1)

head_ends : (lines : List (List ℕ)) → AreHeadLines lines → looked Before (flat_map line_text lines) ≡ Ended (length (flat_map line_text lines))
head_ends [] h = absurd h
head_ends (content ∷ lines) (inl first) =
    line_on Before Before (line_text content) (flat_map line_text lines) (elim first.0 [ inl e ↦ rw e refl | inr e ↦ rw e refl ])
    (head_ends lines first.1)
head_ends (content ∷ lines) (inr more) =
    line_on Before After (line_text content) (flat_map line_text lines) (before_line content more.0) (filled_end lines more.1)

text_ends : (place : LinePlace) (bytes : List ℕ) (n : ℕ) → n ≤ length bytes → looked place (take n bytes) ≡ Ended (length (take n bytes))
    → looked place bytes ≡ Ended n
text_ends place bytes n inside ends =
    let at_n : looked place (take n bytes) ≡ Ended n = ends ∙ ap (λ k. Ended k) (length-take-le n bytes inside) in
    rw take-append-drop at (looked-append_ended place (take n bytes) (drop n bytes) n at_n)

pub heads_end : HeadsEndAtEmptyLines
heads_end = λ bytes n. (
  (λ e. (looked_inside Before bytes n e, found_rest Before bytes n e)),
  (λ h. text_ends Before bytes n h.0 (rw h.1.2 (head_ends h.1.0 h.1.1))),
)

pub trailers_end : TrailersEndAtEmptyLines
trailers_end = λ bytes n. (
  (λ e. (looked_inside After bytes n e, found_rest After bytes n e)),
  (λ h. text_ends After bytes n h.0 (rw h.1.2 (filled_end h.1.0 h.1.1))),
)

-- ---- one line

further_some : (o : Option ℕ) (n : ℕ) → further o ≡ Some n → (m : ℕ) × (o ≡ Some m) × (n ≡ suc m)
further_some None n e = cc
further_some (Some m) n e = let same : m + 1 ≡ n = cc in (m, refl, omega arith)

line_found : (bytes : List ℕ) (n : ℕ) → line_end bytes ≡ Some n → (n ≤ length bytes) × IsLineText (take n bytes)
line_found [] n e = cc
line_found (b ∷ bytes) n e = by (b == 10) refl e (λ m. line_found bytes m)
  where
    by : (feed : Bool) → (b == 10) ≡ feed → (if feed then Some 1 else further (line_end bytes)) ≡ Some n
        → ((m : ℕ) → line_end bytes ≡ Some m → (m ≤ length bytes) × IsLineText (take m bytes))
        → (n ≤ length (b ∷ bytes)) × IsLineText (take n (b ∷ bytes))
    by true is e' later =
        let one : n ≡ suc zero = (let same : 1 ≡ n = cc in omega arith) in
        rw one (omega arith, ([], tt, ap (λ (x : ℕ). x ∷ []) (eqb-true b 10 is)))
    by false is e' later =
        let found = further_some (line_end bytes) n e' in
        let rest = later found.0 found.1 in
        rw found.2 (omega (arith, rest.0), (b ∷ rest.1.0, (apart b 10 is, rest.1.1), ap (λ t. b ∷ t) rest.1.2))

line_there : (content : List ℕ) → HasNoFeed content → line_end (line_text content) ≡ Some (length (line_text content))
line_there [] free = refl
line_there (b ∷ content) free =
    let feed : (b == 10) ≡ false = ne_eqb b 10 free.0 in
    let more : length (line_text content) + 1 ≡ suc (length (line_text content)) = omega arith in
    rw (feed, line_there content free.1) (ap (λ (k : ℕ). Some k) more)

pub lines_end : LinesEndAtFeeds
lines_end = λ bytes n. (
  line_found bytes n,
  λ h.
      let ends : line_end (take n bytes) ≡ Some n = rw h.1.2 (line_there h.1.0 h.1.1) ∙ ap (λ (k : ℕ). Some k) (length-take-le n bytes h.0) in
      rw take-append-drop at (line_end-append_some (take n bytes) (drop n bytes) n ends),
)

pub sizes_named : ChunkLinesNameSizes
sizes_named = λ line size. (
  line_size_reads line size,
  λ l. line_size_read line l.0 l.1 ∙ ap (λ (k : ℕ). Some k) (sym l.2),
)
