-- The lines of a text: where the first one ends, that a text is cut one way alone, and that each
-- is cut.
use Rattle.std.proofs.Common.{◌≡◌, ◌≢◌, ◌<◌, ◌+◌, ◌-◌, ◌∙◌, ◌∷◌, ◌++◌, ℕ, zero, suc, Bool, true, List, [], length, get_or, take, drop, ap, sym, refl, subst, inl, inr, arith}
use Rattle.std.specs.Prelude.{◌&&◌, ◌⊎◌, not, nat_eq}
use Rattle.std.specs.List.{All}
use Rattle.std.proofs.lemmas.Bool.{cases_eq, and_parts}
use Rattle.std.proofs.lemmas.Bool.Decides.{nat_tests}
use Rattle.std.proofs.lemmas.List.{get_or_at, get_or_default, get_or-take, length-take-le, take-append-drop, take_rest, drop-drop, drop_more, append_assoc}
use Rattle.std.proofs.lemmas.List.Elements.{All-nil, All-cons, All-head, All-tail, Contains-append_cases}
use Rattle.std.proofs.lemmas.Grind.{common_steps}
use Rattle.hls_manifest.specs.Playlists.{IsLine, ended, text_of_lines}
use Rattle.hls_manifest.specs.Progress.{IsFirstLine}
use Rattle.hls_manifest.specs.Reading.{IsCut}

-- ---- lines

-- a line, by its bytes
pub line_from_bytes : (line : List ℕ) → ((k : ℕ) → k < length line → get_or line k 0 ≢ 10)
    → IsLine line
line_from_bytes line none = λ has. none has.0 has.1 (get_or_default line has.0 0 10 has.1 ∙ has.2)

-- the first line ends at the first line feed
pub first_line_at : (text line back : List ℕ) (i : ℕ) → i < length text
    → ((k : ℕ) → k < i → get_or text k 0 ≢ 10) → get_or text i 0 ≡ 10
    → line ≡ take i text → back ≡ drop i text
    → IsFirstLine text line (take (length back - 1) (drop 1 back))
first_line_at text line back i few none here front rest =
    let fits : length (take i text) ≡ i = length-take-le i text (omega arith) in
    let first : IsLine (take i text) =
    line_from_bytes (take i text)
    (λ k below. rw (get_or-take i text k 0 (omega arith)) (none k (omega arith))) in
    let behind : take (length back - 1) (drop 1 back) ≡ drop (i + 1) text = take_rest back 1
    ∙ ap (drop 1) rest ∙ drop-drop 1 i text in
    let whole : text ≡ take i text ++ 10 ∷ drop (i + 1) text =
    sym (take-append-drop i text)
    ∙ ap (λ r. take i text ++ r) (drop_more text i 0 few
    ∙ ap (λ c. c ∷ drop (i + 1) text) here) in
    record { whole = rw (front, behind) whole; first = subst IsLine (sym front) first }

-- what stands behind the first byte of a line
line_tail : (c : ℕ) (cs : List ℕ) → IsLine (c ∷ cs) → IsLine cs
line_tail c cs line = λ has. line (suc has.0, omega (arith, has.1), has.2)

-- a byte before a line, which is no line feed
line_at : (c : ℕ) (cs : List ℕ) → c ≢ 10 → IsLine cs → (k : ℕ) → k < length (c ∷ cs)
    → get_or (c ∷ cs) k 10 ≡ 10 → ⊥
line_at c cs other line zero few e = other e
line_at c cs other line (suc k) few e = line (k, omega (arith, few), e)

pub line_cons : (c : ℕ) (cs : List ℕ) → c ≢ 10 → IsLine cs → IsLine (c ∷ cs)
line_cons c cs other line = λ has. line_at c cs other line has.0 has.1 has.2

pub line_nil : IsLine []
line_nil = λ has. absurd (omega (arith, has.1))

-- two lines side by side
pub line_append : (a b : List ℕ) → IsLine a → IsLine b → IsLine (a ++ b)
line_append a b left right =
    λ has. elim (Contains-append_cases a b 10 has) [ inl h ↦ left h | inr h ↦ right h ]

-- whether a text has no line feed
abbrev pub is_plain : List ℕ → Bool
is_plain [] = true
is_plain (c ∷ cs) = not (nat_eq c 10) && is_plain cs

pub plain_line : (text : List ℕ) → is_plain text ≡ true → IsLine text
plain_line [] h = line_nil
plain_line (c ∷ cs) h =
    let both = and_parts (not (nat_eq c 10)) (is_plain cs) h in
    line_cons c cs (grind (arith, nat_tests)) (plain_line cs both.1)

-- ---- cuts

-- no line has a line feed within
feed_within : (a x : List ℕ) → IsLine (a ++ 10 ∷ x) → ⊥
feed_within a x line =
    line (length a, grind (arith, common_steps), get_or_at a 10 x 10 (length a) refl)

-- two first lines of one text are one
pub same_first : (a b x y : List ℕ) → IsLine a → IsLine b → a ++ 10 ∷ x ≡ b ++ 10 ∷ y
    → (a ≡ b) × (x ≡ y)
same_first [] [] x y left right e = (refl, cc)
same_first [] (c ∷ b) x y left right e =
    let head : c ≡ 10 = cc in
    absurd (right (0, omega arith, head))
same_first (c ∷ a) [] x y left right e =
    let head : c ≡ 10 = cc in
    absurd (left (0, omega arith, head))
same_first (c ∷ a) (d ∷ b) x y left right e =
    let tail : a ++ 10 ∷ x ≡ b ++ 10 ∷ y = cc in
    let h = same_first a b x y (line_tail c a left) (line_tail d b right) tail in
    (cc, h.1)

-- a line before others, in front of what is left
pub front_line : (line more rest : List ℕ)
    → (ended line ++ more) ++ rest ≡ line ++ 10 ∷ (more ++ rest)
front_line line more rest = simp append_assoc

-- two cuts of one text are one
pub same_cut : (a b : List (List ℕ)) (r s : List ℕ) → All IsLine a → All IsLine b → IsLine r
    → IsLine s
    → text_of_lines a ++ r ≡ text_of_lines b ++ s → (a ≡ b) × (r ≡ s)
same_cut [] [] r s each_a each_b last_r last_s e = (refl, e)
same_cut [] (l ∷ b) r s each_a each_b last_r last_s e =
    absurd (feed_within l (text_of_lines b ++ s)
    (subst IsLine (e ∙ front_line l (text_of_lines b) s) last_r))
same_cut (l ∷ a) [] r s each_a each_b last_r last_s e =
    absurd (feed_within l (text_of_lines a ++ r)
    (subst IsLine (sym e ∙ front_line l (text_of_lines a) r) last_s))
same_cut (l ∷ a) (m ∷ b) r s each_a each_b last_r last_s e =
    let regrouped = sym (front_line l (text_of_lines a) r) ∙ e ∙ front_line m (text_of_lines b) s in
    let first =
    same_first l m (text_of_lines a ++ r) (text_of_lines b ++ s) (All-head IsLine l a each_a)
    (All-head IsLine m b each_b) regrouped in
    let later = same_cut a b r s (All-tail IsLine l a each_a) (All-tail IsLine m b each_b) last_r
    last_s first.1 in
    (cc, later.1)

-- a cut of a text
pub record Cut (text : List ℕ) : Type 0 where
  pub lines : List (List ℕ)
  pub rest : List ℕ
  pub cut : IsCut text lines rest

-- a byte before a text that is cut, which is no line feed
longer : (c : ℕ) (text : List ℕ) → c ≢ 10 → (lines : List (List ℕ)) (rest : List ℕ)
    → IsCut text lines rest → Cut (c ∷ text)
longer c text other [] rest cut = record {
  lines = [];
  rest = c ∷ rest;
  cut = record {
    whole = ap (λ t. c ∷ t) cut.whole;
    each = All-nil IsLine;
    last = line_cons c rest other cut.last;
  };
}
longer c text other (l ∷ lines) rest cut = record {
  lines = (c ∷ l) ∷ lines;
  rest = rest;
  cut = record {
    whole = ap (λ t. c ∷ t) cut.whole;
    each = All-cons IsLine (c ∷ l) lines (line_cons c l other (All-head IsLine l lines cut.each))
        (All-tail IsLine l lines cut.each);
    last = cut.last;
  };
}

-- a byte before a text that is cut
onto : (c : ℕ) (text : List ℕ) → (c ≡ 10) ⊎ (c ≢ 10) → Cut text → Cut (c ∷ text)
onto c text (inl feed) cut = record {
  lines = [] ∷ cut.lines;
  rest = cut.rest;
  cut = record {
    whole = ap (λ t. c ∷ t) cut.cut.whole
        ∙ ap (λ d. d ∷ (text_of_lines cut.lines ++ cut.rest)) feed;
    each = All-cons IsLine [] cut.lines line_nil cut.cut.each;
    last = cut.cut.last;
  };
}
onto c text (inr other) cut = longer c text other cut.lines cut.rest cut.cut

-- each text is cut
pub cut_of : (text : List ℕ) → Cut text
cut_of [] = record {
  lines = [];
  rest = [];
  cut = record { whole = refl; each = All-nil IsLine; last = line_nil };
}
cut_of (c ∷ text) = onto c text (cases_eq c 10) (cut_of text)
